-- The table of the universal types: X.680, table 1, with what X.690 says about each.
use Rattle.std.specs.Prelude.{◌==◌, ℕ, Bool, true, false, List, [], ◌∷◌, codes, Option}
use Rattle.std.specs.List.{find}
use Rattle.tlv_head.specs.declared.kind.Kind.{Kind}
use Rattle.tlv_head.specs.declared.kind.Kind.TheVariants.{Octets, Boolean, Integer, Bits, Object, Relative}
use Rattle.tlv_head.specs.declared.kind.Kind.TheVariants.{Text, Utf8, Ucs2, Ucs4}
use Rattle.tlv_head.specs.declared.type_table.Encodings.{Encodings}
use Rattle.tlv_head.specs.declared.type_table.Encodings.TheVariants.{Primitive, Constructed, Segmented, Unjudged}
use Rattle.tlv_head.specs.declared.type_table.Rule.{Rule}
use Rattle.tlv_head.specs.declared.type_table.Rule.TheVariants.{Any, OneOctet, Shortest, UnusedBits, NoOctets}
use Rattle.tlv_head.specs.declared.type_table.Rule.TheVariants.{Subidentifiers, RealForm, Characters, TimeForm}
use Rattle.tlv_head.specs.declared.type_table.Rule.TheVariants.{DateForm, IriForm}

-- a row: a type
pub record TypeRow : Type 0 where
  pub number : ℕ
  pub name : List ℕ
  -- which encodings the type has: `Primitive`, `Constructed`, or `Segmented` (a string: primitive, or constructed of
  -- segments). `Unjudged`: primitive by X.690 (8.21, 8.22, 8.26), but a constructed one has no finding of `tlvdump`;
  -- `tlvdump-show` reports B22
  pub encodings : Encodings
  -- how the contents of a primitive are shown
  pub kind : Kind
  -- what the contents of a primitive must be; if they are not, there is a finding. `Any`: nothing is checked. What a
  -- rule asks of each type is defined beside the findings, in tlv_value
  pub rule : Rule

abbrev pub row : ℕ → List ℕ → Encodings → Kind → Rule → TypeRow
row number name encodings kind rule = record {
  number = number;
  name = name;
  encodings = encodings;
  kind = kind;
  rule = rule;
}

-- in the order of the numbers. The clauses are 8.2 to 8.7 for BOOLEAN, INTEGER, ENUMERATED, REAL, BIT STRING and OCTET
-- STRING, 8.8 for NULL, 8.9 to 8.12 for SEQUENCE and SET, 8.17 for EMBEDDED PDV, 8.18 for EXTERNAL, 8.19 and 8.20 for
-- the two kinds of object identifiers, 8.21 and 8.22 for OID-IRI and RELATIVE-OID-IRI, 8.23 for the strings of
-- characters, 8.24 for CHARACTER STRING, 8.25 for ObjectDescriptor, UTCTime and GeneralizedTime, and 8.26 for the other
-- times
abbrev pub type_table : List TypeRow
type_table =
    row 1 (codes "BOOLEAN") Primitive Boolean OneOctet
    ∷ row 2 (codes "INTEGER") Primitive Integer Shortest
    ∷ row 3 (codes "BIT STRING") Segmented Bits UnusedBits
    ∷ row 4 (codes "OCTET STRING") Segmented Octets Any
    ∷ row 5 (codes "NULL") Primitive Octets NoOctets
    ∷ row 6 (codes "OBJECT IDENTIFIER") Primitive Object Subidentifiers
    ∷ row 7 (codes "ObjectDescriptor") Segmented Text Any
    ∷ row 8 (codes "EXTERNAL") Constructed Octets Any
    ∷ row 9 (codes "REAL") Primitive Octets RealForm
    ∷ row 10 (codes "ENUMERATED") Primitive Integer Shortest
    ∷ row 11 (codes "EMBEDDED PDV") Constructed Octets Any
    ∷ row 12 (codes "UTF8String") Segmented Utf8 Characters
    ∷ row 13 (codes "RELATIVE-OID") Primitive Relative Subidentifiers
    ∷ row 14 (codes "TIME") Unjudged Octets Any
    ∷ row 16 (codes "SEQUENCE") Constructed Octets Any
    ∷ row 17 (codes "SET") Constructed Octets Any
    ∷ row 18 (codes "NumericString") Segmented Text Characters
    ∷ row 19 (codes "PrintableString") Segmented Text Characters
    ∷ row 20 (codes "TeletexString") Segmented Text Any
    ∷ row 21 (codes "VideotexString") Segmented Text Any
    ∷ row 22 (codes "IA5String") Segmented Text Characters
    ∷ row 23 (codes "UTCTime") Segmented Text TimeForm
    ∷ row 24 (codes "GeneralizedTime") Segmented Text TimeForm
    ∷ row 25 (codes "GraphicString") Segmented Text Any
    ∷ row 26 (codes "VisibleString") Segmented Text Characters
    ∷ row 27 (codes "GeneralString") Segmented Text Any
    ∷ row 28 (codes "UniversalString") Segmented Ucs4 Characters
    ∷ row 29 (codes "CHARACTER STRING") Constructed Octets Any
    ∷ row 30 (codes "BMPString") Segmented Ucs2 Characters
    ∷ row 31 (codes "DATE") Unjudged Octets DateForm
    ∷ row 32 (codes "TIME-OF-DAY") Unjudged Octets DateForm
    ∷ row 33 (codes "DATE-TIME") Unjudged Octets DateForm
    ∷ row 34 (codes "DURATION") Unjudged Octets Any
    ∷ row 35 (codes "OID-IRI") Unjudged Octets IriForm
    ∷ row 36 (codes "RELATIVE-OID-IRI") Unjudged Octets IriForm
    ∷ []

-- the row with this number, if any
abbrev pub type_at : ℕ → Option TypeRow
type_at number = find (λ t. number == t.number) type_table

-- whether both are the same
abbrev pub are_same_encodings : Encodings → Encodings → Bool
are_same_encodings Primitive Primitive = true
are_same_encodings Constructed Constructed = true
are_same_encodings Segmented Segmented = true
are_same_encodings Unjudged Unjudged = true
are_same_encodings _ _ = false

-- the same of rules
abbrev pub are_same_rules : Rule → Rule → Bool
are_same_rules Any Any = true
are_same_rules OneOctet OneOctet = true
are_same_rules Shortest Shortest = true
are_same_rules UnusedBits UnusedBits = true
are_same_rules NoOctets NoOctets = true
are_same_rules Subidentifiers Subidentifiers = true
are_same_rules RealForm RealForm = true
are_same_rules Characters Characters = true
are_same_rules TimeForm TimeForm = true
are_same_rules DateForm DateForm = true
are_same_rules IriForm IriForm = true
are_same_rules _ _ = false
