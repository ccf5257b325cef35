-- What a row has room for.
use Rattle.std.specs.Prelude.{ℕ, ◌+◌, Bool, nat_le, if◌then◌else◌, ◌<◌, List, length}
use Rattle.tlv_io.specs.Cuts.{SplitsNone, utf8_length}
use Rattle.tlv_head.specs.declared.kind.Kind.{Kind}
use Rattle.tlv_head.specs.declared.kind.Kind.TheVariants.{Utf8}
use Rattle.tlv_head.specs.Kind.{is_text}

-- the number of octets that a row has room for
abbrev pub row_size : Kind → ℕ
row_size kind = if is_text kind then 64 else 16

-- the number of octets, from this one on, that must be kept in one row. In UTF-8 this octet says how many octets its
-- character has, whether or not that character follows. The characters of two or four octets of other strings are not
-- cut either: a row of them has 64 octets, a multiple of two and of four
abbrev pub character_length : Kind → ℕ → ℕ
character_length Utf8 x = utf8_length x
character_length _ x = 1

-- a row that has this number of octets has room for x, and for the octets after x that belong to its character
abbrev pub has_room : Kind → ℕ → ℕ → Bool
has_room kind count x = nat_le (count + character_length kind x) (row_size kind)

-- the row has fewer octets than a row has room for, and splits no octets that must be kept in one row
pub record IsOpenRow (kind : Kind) (row : List ℕ) : Type 0 where
  pub short : length row < row_size kind
  pub splits_none : SplitsNone (row_size kind) (character_length kind) row
