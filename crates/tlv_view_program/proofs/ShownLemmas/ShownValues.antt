-- The values of primitives, in a dump, are printable ASCII: on the lines of elements, and in rows.
use Rattle.std.proofs.Common.{◌≡◌, inl, inr, ℕ, zero, suc, ◌+◌, ◌-◌, ◌*◌, ◌<◌, ◌/◌, ◌%◌, ◌^◌, ◌&&◌, Bool, true, false}
use Rattle.std.proofs.Common.{eqb, List, [], ◌∷◌, ◌++◌, Option, Some, None, arith, length, refl, subst, sym, take}
use Rattle.std.specs.Prelude.{codes, decimal, if◌then◌else◌, nat_le, nat_lt}
use Rattle.std.specs.Option.{option_map_or}
use Rattle.std.specs.Fmt.{signed_decimal}
use Rattle.std.specs.List.{All, concat, list_all}
use Rattle.std.proofs.lemmas.Bool.{and_parts, cases_Bool}
use Rattle.std.proofs.lemmas.List.Elements.{All-append, All-cons, All-head, All-nil, All-push, All-tail, All-take}
use Rattle.tlv_walk.specs.Reading.{AreOctets}
use Rattle.tlv_head.specs.declared.kind.Kind.{Kind}
use Rattle.tlv_head.specs.declared.kind.Kind.TheVariants as kind
use Rattle.tlv_value.specs.Arcs.{arcs_of, is_finished, subidentifiers}
use Rattle.tlv_value.specs.Bits.{bits_of, last_bits}
use Rattle.tlv_head.specs.Kind.{is_text}
use Rattle.tlv_value.specs.Number.{twos_complement}
use Rattle.tlv_value.specs.RowSizes.{row_size}
use Rattle.tlv_value.specs.Rows.{full_rows_in, rows_of}
use Rattle.tlv_value.proofs.RowLemmas.RowsFilled.{rows-are_cut}
use Rattle.tlv_value.specs.Units.{is_printable, quoted_text}
use Rattle.tlv_value.specs.Value.{NameOf, Value, bit_count_text, bits_value, boolean_value, incomplete_value}
use Rattle.tlv_value.specs.Value.{integer_value, is_long, is_unused_count, long_text, long_value, name_text}
use Rattle.tlv_value.specs.Value.{no_names, object_value, octets_value, row_octets}
use Rattle.tlv_value.specs.TextBeside.{on_line_text_with, pairs_with_text, row_text_with, text_behind}
use Rattle.tlv_value.specs.Value.{short_value, spaced_pairs, used_digits, value_on_line, whole_value}
use Rattle.tlv_reasons.specs.Laws.{AreShown, is_shown_octet}
use Rattle.tlv_reasons.proofs.ShownLemmas.ShownValues.{decimal-shown}
use Rattle.tlv_view_program.proofs.ShownLemmas.ShownLabels.{all_printable-shown, joined-shown}
use Rattle.tlv_view_program.proofs.ShownLemmas.ShownText.{join-shown, joined_pairs-shown, left-octets, quoted-shown}
use Rattle.tlv_view_program.proofs.ShownLemmas.ShownText.{right-octets, signed-shown, spaced_pairs-shown}
use Rattle.tlv_value.specs.Private.Rows.{digits_of_bits, joined_pairs}
use Rattle.tlv_value.specs.Private.Arcs.{dotted_arcs}

-- a value whose text is shown, and whose rows are of octets
pub record IsShownValue (v : Value) : Type 0 where
  pub text : (with_text : Bool) → AreShown (on_line_text_with with_text v.on_line)
  pub rows : All (λ (row : List ℕ). AreOctets row) v.rows

no_rows : All (λ (row : List ℕ). AreOctets row) []
no_rows = All-nil (λ (row : List ℕ). AreOctets row)

on_line-shown : (text : List ℕ) → AreShown text → IsShownValue (value_on_line text)
on_line-shown text shown = record { text = λ with_text. shown; rows = no_rows }

-- ---- rows

rows-octets : (rows : List (List ℕ)) → AreOctets (concat rows) → All (λ (row : List ℕ). AreOctets row) rows
rows-octets [] o = no_rows
rows-octets (row ∷ rows) o =
    All-cons (λ (r : List ℕ). AreOctets r) row rows (left-octets row (concat rows) o)
    (rows-octets rows (right-octets row (concat rows) o))

rows_of-octets : (k : Kind) (octets : List ℕ) → AreOctets octets
    → All (λ (row : List ℕ). AreOctets row) (rows_of k octets)
rows_of-octets k octets o =
    rows-octets (rows_of k octets)
    (subst (λ (l : List ℕ). AreOctets l) (sym (rows-are_cut k octets).together) o)

full-octets : (k : Kind) (rows : List (List ℕ)) → All (λ (row : List ℕ). AreOctets row) rows
    → All (λ (row : List ℕ). AreOctets row) (full_rows_in k rows)
full-octets k [] all = all
full-octets k (row ∷ []) all = elim (cases_Bool (eqb (length row) (row_size k))) [
  | inl full ↦ rw full all
  | inr open_row ↦ rw open_row no_rows
]
full-octets k (row ∷ next ∷ rows) all =
    All-cons (λ (r : List ℕ). AreOctets r) row (full_rows_in k (next ∷ rows))
    (All-head (λ (r : List ℕ). AreOctets r) row (next ∷ rows) all)
    (full-octets k (next ∷ rows) (All-tail (λ (r : List ℕ). AreOctets r) row (next ∷ rows) all))

-- ---- octets

behind-shown : (octets : List ℕ) → AreShown (text_behind octets)
behind-shown octets = elim (cases_Bool (nat_le 3 (length octets) && list_all is_printable octets)) [
  | inl is_text ↦
      rw is_text
      (joined-shown (codes "  |" ++ octets) (codes "|")
      (joined-shown (codes "  |") octets refl (all_printable-shown octets (and_parts _ _ is_text).1)) refl)
  | inr other ↦ rw other refl
]

with_text-shown : (with_text : Bool) (octets pairs : List ℕ) → AreShown pairs
    → AreShown (pairs_with_text with_text octets pairs)
with_text-shown false octets pairs shown = shown
with_text-shown true octets pairs shown = joined-shown pairs (text_behind octets) shown (behind-shown octets)

octets_value-shown : (octets : List ℕ) → AreOctets octets → IsShownValue (octets_value octets)
octets_value-shown octets o = elim (cases_Bool (nat_le (length octets) 16)) [
  | inl few ↦
      rw few
      (record {
        text = λ with_text. with_text-shown with_text octets (spaced_pairs octets) (spaced_pairs-shown octets o);
        rows = no_rows;
      })
  | inr many ↦ rw many (record { text = λ with_text. refl; rows = rows_of-octets kind.Octets octets o })
]

-- ---- kind by kind

boolean-shown : (octets : List ℕ) → AreOctets octets → IsShownValue (boolean_value octets)
boolean-shown [] o = octets_value-shown [] o
boolean-shown (x ∷ []) o = elim (cases_Bool (eqb x 0)) [
  | inl is_false ↦ rw is_false (on_line-shown (codes "FALSE") refl)
  | inr is_true ↦ rw is_true (on_line-shown (codes "TRUE") refl)
]
boolean-shown (x ∷ y ∷ octets) o = octets_value-shown (x ∷ y ∷ octets) o

integer-shown : (octets : List ℕ) → IsShownValue (integer_value octets)
integer-shown [] = record { text = λ with_text. refl; rows = no_rows }
integer-shown (x ∷ xs) =
    on_line-shown (signed_decimal (twos_complement (x ∷ xs))) (signed-shown (twos_complement (x ∷ xs)))

count-shown : (unused_bits octet_count : ℕ) → AreShown (bit_count_text unused_bits octet_count)
count-shown unused_bits octet_count =
    joined-shown (decimal (8 * octet_count - unused_bits)) (codes " bits")
    (decimal-shown (8 * octet_count - unused_bits)) refl

last_bits-below : (n x : ℕ) → All (λ (bit : ℕ). bit < 2) (last_bits n x)
last_bits-below zero x = All-nil (λ (bit : ℕ). bit < 2)
last_bits-below (suc n) x =
    All-push (λ (bit : ℕ). bit < 2) (last_bits n (x / 2)) (x % 2) (last_bits-below n (x / 2)) (omega arith)

bits-below : (octets : List ℕ) → All (λ (bit : ℕ). bit < 2) (bits_of octets)
bits-below [] = All-nil (λ (bit : ℕ). bit < 2)
bits-below (x ∷ octets) =
    All-append (λ (bit : ℕ). bit < 2) (last_bits 8 x) (bits_of octets) (last_bits-below 8 x) (bits-below octets)

bit-shown : (bit : ℕ) → bit < 2 → is_shown_octet (48 + bit) ≡ true
bit-shown zero small = refl
bit-shown (suc zero) small = refl
bit-shown (suc (suc n)) small = absurd (omega (arith, small))

digits-shown : (bits : List ℕ) → All (λ (bit : ℕ). bit < 2) bits → AreShown (digits_of_bits bits)
digits-shown [] all = refl
digits-shown (bit ∷ bits) all =
    rw (bit-shown bit (All-head (λ (b : ℕ). b < 2) bit bits all))
    (digits-shown bits (All-tail (λ (b : ℕ). b < 2) bit bits all))

used-shown : (unused_bits : ℕ) (octets : List ℕ) → AreShown (used_digits unused_bits octets)
used-shown unused_bits [] = refl
used-shown unused_bits (x ∷ xs) =
    digits-shown (take (8 * length (x ∷ xs) - unused_bits) (bits_of (x ∷ xs)))
    (All-take (λ (bit : ℕ). bit < 2) (8 * length (x ∷ xs) - unused_bits) (bits_of (x ∷ xs)) (bits-below (x ∷ xs)))

bits-shown : (octets : List ℕ) → AreOctets octets → IsShownValue (bits_value octets)
bits-shown [] o = octets_value-shown [] o
bits-shown (u ∷ octets) o = elim (cases_Bool (is_unused_count u (length octets))) [
  | inl readable ↦
      rw readable
      (on_line-shown (bit_count_text u (length octets) ++ used_digits u octets)
      (joined-shown (bit_count_text u (length octets)) (used_digits u octets) (count-shown u (length octets))
      (used-shown u octets)))
  | inr unread ↦ rw unread (octets_value-shown (u ∷ octets) o)
]

-- each name that a type has is shown
abbrev pub AreShownNames : NameOf → Type 0
AreShownNames name_of = (dotted name : List ℕ) → name_of dotted ≡ Some name → AreShown name

name-shown : (name : Option (List ℕ)) → ((text : List ℕ) → name ≡ Some text → AreShown text)
    → AreShown (name_text name)
name-shown None each = refl
name-shown (Some text) each =
    joined-shown (codes " (" ++ text) (codes ")") (joined-shown (codes " (") text refl (each text refl)) refl

arcs-shown : (arcs : List ℕ) → AreShown (dotted_arcs arcs)
arcs-shown arcs =
    join-shown decimal (codes ".") (λ (n : ℕ). Unit {0}) arcs (λ n p. decimal-shown n) refl (λ k d less. tt)

dotted-value : (name_of : NameOf) (octets text : List ℕ) (is : Bool) → AreShownNames name_of
    → AreOctets octets → AreShown text
    → IsShownValue (option_map_or (λ (t : List ℕ). value_on_line (t ++ name_text (name_of t)))
    (if is then Some text else None) (octets_value octets))
dotted-value name_of octets text true names o shown =
    on_line-shown (text ++ name_text (name_of text))
    (joined-shown text (name_text (name_of text)) shown (name-shown (name_of text) (names text)))
dotted-value name_of octets text false names o shown = octets_value-shown octets o

object-shown : (name_of : NameOf) (relative : Bool) (octets : List ℕ) → AreShownNames name_of
    → AreOctets octets → IsShownValue (object_value name_of relative octets)
object-shown name_of relative octets names o =
    dotted-value name_of octets (dotted_arcs (arcs_of relative (subidentifiers octets)))
    (is_finished octets && nat_le (length octets) 64 && list_all (λ v. nat_lt v (2 ^ 128)) (subidentifiers octets))
    names o (arcs-shown (arcs_of relative (subidentifiers octets)))

no_names-shown : AreShownNames no_names
no_names-shown dotted name is = cc is

-- ---- of any kind

quoted-value : (k : Kind) (octets : List ℕ) → AreOctets octets → IsShownValue (value_on_line (quoted_text k octets))
quoted-value k octets o = on_line-shown (quoted_text k octets) (quoted-shown k octets o)

short-shown : (name_of : NameOf) (k : Kind) (octets : List ℕ) → AreShownNames name_of
    → AreOctets octets → IsShownValue (short_value name_of k octets)
short-shown name_of kind.Boolean octets names o = boolean-shown octets o
short-shown name_of kind.Integer octets names o = integer-shown octets
short-shown name_of kind.Bits octets names o = bits-shown octets o
short-shown name_of kind.Object octets names o = object-shown name_of false octets names o
short-shown name_of kind.Relative octets names o =
    object-shown no_names true octets no_names-shown o
short-shown name_of kind.Octets octets names o = octets_value-shown octets o
short-shown name_of kind.Text octets names o = quoted-value kind.Text octets o
short-shown name_of kind.Utf8 octets names o = quoted-value kind.Utf8 octets o
short-shown name_of kind.Ucs2 octets names o = quoted-value kind.Ucs2 octets o
short-shown name_of kind.Ucs4 octets names o = quoted-value kind.Ucs4 octets o

long_bits-shown : (n : ℕ) (octets : List ℕ) → AreShown (long_text kind.Bits n octets)
long_bits-shown n [] = refl
long_bits-shown n (u ∷ octets) = elim (cases_Bool (nat_le u 7)) [
  | inl readable ↦ rw readable (count-shown u (n - 1))
  | inr unread ↦ rw unread refl
]

long_text-shown : (k : Kind) (n : ℕ) (octets : List ℕ) → AreShown (long_text k n octets)
long_text-shown kind.Bits n octets = long_bits-shown n octets
long_text-shown kind.Boolean n octets = refl
long_text-shown kind.Integer n octets = refl
long_text-shown kind.Object n octets = refl
long_text-shown kind.Relative n octets = refl
long_text-shown kind.Octets n octets = refl
long_text-shown kind.Text n octets = refl
long_text-shown kind.Utf8 n octets = refl
long_text-shown kind.Ucs2 n octets = refl
long_text-shown kind.Ucs4 n octets = refl

row_bits-octets : (octets : List ℕ) → AreOctets octets → AreOctets (row_octets kind.Bits octets)
row_bits-octets [] o = o
row_bits-octets (u ∷ octets) o = elim (cases_Bool (nat_le u 7)) [
  | inl readable ↦ rw readable (All-tail (λ (n : ℕ). n < 256) u octets o)
  | inr unread ↦ rw unread o
]

row_octets-octets : (k : Kind) (octets : List ℕ) → AreOctets octets → AreOctets (row_octets k octets)
row_octets-octets kind.Bits octets o = row_bits-octets octets o
row_octets-octets kind.Boolean octets o = o
row_octets-octets kind.Integer octets o = o
row_octets-octets kind.Object octets o = o
row_octets-octets kind.Relative octets o = o
row_octets-octets kind.Octets octets o = o
row_octets-octets kind.Text octets o = o
row_octets-octets kind.Utf8 octets o = o
row_octets-octets kind.Ucs2 octets o = o
row_octets-octets kind.Ucs4 octets o = o

long-shown : (k : Kind) (octets : List ℕ) → AreOctets octets → IsShownValue (long_value k octets)
long-shown k octets o = record {
  text = λ with_text. long_text-shown k (length octets) octets;
  rows = rows_of-octets k (row_octets k octets) (row_octets-octets k octets o);
}

pub incomplete-shown : (k : Kind) (n : ℕ) (octets : List ℕ) → AreOctets octets
    → IsShownValue (incomplete_value k n octets)
incomplete-shown k n octets o = record {
  text = λ with_text. long_text-shown k n octets;
  rows =
      full-octets k (rows_of k (row_octets k octets))
      (rows_of-octets k (row_octets k octets) (row_octets-octets k octets o));
}

pub whole-shown : (name_of : NameOf) (k : Kind) (octets : List ℕ) → AreShownNames name_of
    → AreOctets octets → IsShownValue (whole_value name_of k octets)
whole-shown name_of k octets names o = elim (cases_Bool (is_long k (length octets))) [
  | inl long ↦ rw long (long-shown k octets o)
  | inr short ↦ rw short (short-shown name_of k octets names o)
]

pub row-shown : (with_text : Bool) (k : Kind) (row : List ℕ) → AreOctets row → AreShown (row_text_with with_text k row)
row-shown with_text k row o = elim (cases_Bool (is_text k)) [
  | inl characters ↦ rw characters (quoted-shown k row o)
  | inr pairs ↦ rw pairs (with_text-shown with_text row (joined_pairs row) (joined_pairs-shown row o))
]
