-- Words of the rows of texts.
use Rattle.std.proofs.Common.{◌≡◌, ℕ, false, List, Option, Some, None}
use Rattle.tlv_text.specs.PemBody.{base64_part, is_encrypted}
use Rattle.tlv_text.specs.TextRead.{PartRead}

-- all of a text is read
abbrev pub whole : List ℕ → PartRead
whole octets = record { octets = octets; left = None }

-- a text is read up to a place, with this number of characters from there on
abbrev pub part : List ℕ → ℕ → PartRead
part octets left = record { octets = octets; left = Some left }

-- a list of numbers that is closed
abbrev pub closed : List ℕ → Option PartRead
closed octets = Some (whole octets)

-- a list that is refused, with this number of characters from there on
abbrev pub broken : List ℕ → ℕ → Option PartRead
broken octets left = Some (part octets left)

-- the base64 of a body that is not encrypted
pub record BodyHolds (body text : List ℕ) : Type 0 where
  pub open_to_all : is_encrypted body ≡ false
  pub held : base64_part body ≡ text
