-- What a `HeadReader` keeps about the octets so far.
use Rattle.std.specs.Prelude.{◌≡◌, ℕ, ◌+◌, ◌^◌, ◌-◌, ◌<◌, ◌≤◌, Bool, true, false, ◌||◌, List, [], length}
use Rattle.std.specs.Option.{is_some}
use Rattle.tlv_head.specs.declared.header.Size.{Size}
use Rattle.tlv_head.specs.Header.{IsIdentifier, definite_length, value_of}
use Rattle.tlv_head.specs.Refusal.{IsLengthPrefix, IsNumberPrefix}
use Rattle.tlv_head.specs.HeadReader.{HeadReaderState}
use Rattle.tlv_head.specs.declared.next_octet.IdentifierFields.{IdentifierFields}
use Rattle.tlv_head.specs.declared.next_octet.Part.{Part}
use Rattle.tlv_head.specs.declared.next_octet.Part.TheVariants.{Start, Number, Identifier, Length, Whole}
use Rattle.tlv_head.specs.declared.head_reader.HeadReader.TheInside.{Inside}

-- 8.1.3.2 a): an element of this form may have a length of this size: a primitive has a definite length
abbrev pub AllowsSize : Bool → Size → Type 0
AllowsSize constructed size = (constructed || is_some (definite_length size)) ≡ true

-- the identifier octets so far are in the high form
pub record CarriesNumber (id : IdentifierFields) (octets : List ℕ) : Type 0 where
  pub prefix : IsNumberPrefix id.class id.constructed octets
  pub count : id.id_len ≡ length prefix.digits + 1
  pub short : length prefix.digits ≤ 8
  pub value : id.number ≡ value_of 128 prefix.digits

-- the octets are the identifier
pub record CarriesIdentifier (id : IdentifierFields) (octets : List ℕ) : Type 0 where
  pub identifier : IsIdentifier id.class id.constructed id.number octets
  pub count : id.id_len ≡ length octets
  pub short : length octets ≤ 10

-- the octets are the identifier, the first length octet and digits
pub record CarriesLength (id : IdentifierFields) (n left : ℕ) (octets : List ℕ) : Type 0 where
  pub prefix : IsLengthPrefix id.class id.constructed id.number left octets
  pub count : id.id_len ≡ length prefix.identifier_octets
  pub short : length prefix.identifier_octets ≤ 10
  pub value : n ≡ value_of 256 prefix.digits
  -- so the length is below 2^40 if the octets still to come are 00
  pub small : n < 256 ^ (5 - left)

-- the octets so far are this part of a header, and say its fields; a whole header keeps no octets
abbrev pub Carries : Part → List ℕ → Type 0
Carries Start octets = octets ≡ []
Carries (Number id) octets = CarriesNumber id octets
Carries (Identifier id) octets = CarriesIdentifier id octets
Carries (Length id n left) octets = CarriesLength id n left octets
Carries Whole octets = octets ≡ []

-- the header is whole
abbrev pub is_whole_header : Part → Bool
is_whole_header Whole = true
is_whole_header _ = false

-- the meaning of the fields of a reader
abbrev pub head_reader_state_of : Inside → HeadReaderState
head_reader_state_of r = record {
  offset = r.offset;
  named = r.named;
  octets = r.raw.items;
  done = is_whole_header r.part;
}
