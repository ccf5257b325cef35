-- What the private functions return that read a header: octet by octet, or at once.
use Rattle.std.specs.Prelude.{◌≡◌, ◌≢◌, ℕ, ◌≤◌, Bool, List, [], ◌∷◌, ◌++◌, length, take}
use Rattle.tlv_head.specs.declared.header.Class.{Class}
use Rattle.tlv_head.specs.declared.header.Size.{Size}
use Rattle.tlv_head.specs.Header.{IsIdentifier, IsLength}
use Rattle.tlv_head.specs.Refusal.{IsRefusedOctet}
use Rattle.tlv_head.specs.declared.next_octet.IdentifierFields.{IdentifierFields}
use Rattle.tlv_head.specs.declared.next_octet.Next.{Next}
use Rattle.tlv_head.specs.declared.next_octet.Next.TheVariants.{Unfinished, Whole, Refused}
use Rattle.tlv_head.specs.HeaderSoFar.{AllowsSize, CarriesIdentifier, Carries}

-- the octets are a header with these fields
pub record MakesHeader (id : IdentifierFields) (size : Size) (octets : List ℕ) : Type 0 where
  pub identifier_octets : List ℕ
  pub length_octets : List ℕ
  pub carried : CarriesIdentifier id identifier_octets
  pub lengths : IsLength size length_octets
  pub short : length length_octets ≤ 127
  pub some : 1 ≤ length length_octets
  pub allowed : AllowsSize id.constructed size
  pub octets_are : octets ≡ identifier_octets ++ length_octets

-- the octets begin with the identifier
pub record BeginsWithIdentifier (octets : List ℕ) (id : IdentifierFields) : Type 0 where
  pub within : id.id_len ≤ length octets
  pub carried : CarriesIdentifier id (take id.id_len octets)

-- the octets begin with `count` length octets, which say this size, and an element of this form may have this size
pub record BeginsWithLength (octets : List ℕ) (constructed : Bool) (size : Size) (count : ℕ) : Type 0 where
  pub within : count ≤ length octets
  pub some : 1 ≤ count
  pub at_most_127 : count ≤ 127
  pub lengths : IsLength size (take count octets)
  pub allowed : AllowsSize constructed size

-- the octets do not begin with an identifier of at most three octets that is followed by another octet
abbrev pub BeginsWithNoIdentifier : List ℕ → Type 0
BeginsWithNoIdentifier octets =
    (class : Class) (constructed : Bool) (number : ℕ) (identifier rest : List ℕ)
    → IsIdentifier class constructed number identifier → length identifier ≤ 3
    → rest ≢ [] → octets ≡ identifier ++ rest → ⊥

-- the octets do not begin with a length of at most three octets that an element of this form may have
abbrev pub BeginsWithNoLength : List ℕ → Bool → Type 0
BeginsWithNoLength octets constructed =
    (size : Size) (lengths rest : List ℕ)
    → IsLength size lengths → AllowsSize constructed size → length lengths ≤ 3
    → octets ≡ lengths ++ rest → ⊥

-- the result of adding an octet to the octets before
abbrev pub MakesNext : List ℕ → ℕ → Next → Type 0
MakesNext octets x (Unfinished part) = Carries part (octets ++ x ∷ [])
MakesNext octets x (Whole id size) = MakesHeader id size (octets ++ x ∷ [])
MakesNext octets x (Refused code) = IsRefusedOctet octets x code
