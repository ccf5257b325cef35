-- Words of the rows with headers.
use Rattle.std.proofs.Common.{ℕ, Bool, false, true}
use Prim.Native.String.{String}
use Rattle.tlv_head.specs.declared.header.Class.{Class}
use Rattle.tlv_head.specs.declared.header.Size.{Size}
use Rattle.tlv_head.specs.Header.{HeaderValue}
use Rattle.tlv_rows.proofs.Words.Octets.{octets}

-- a header at an offset that is not named: its class, whether it is constructed, the number, the size, and the octets
abbrev pub header : ℕ → Class → Bool → ℕ → Size → String → String → HeaderValue
header offset class constructed number size identifier lengths = record {
  offset = offset;
  named = false;
  class = class;
  constructed = constructed;
  number = number;
  size = size;
  identifier_octets = octets identifier;
  length_octets = octets lengths;
}

-- the same header, at an offset that is named
abbrev pub named : HeaderValue → HeaderValue
named h = record h { named = true }
