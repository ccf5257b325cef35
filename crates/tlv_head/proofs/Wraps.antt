-- `wraps` with each field apart, so that a lemma can go through the cases of one of them.
use Rattle.std.proofs.Common.{ℕ, Bool, []}
use Rattle.tlv_head.specs.declared.header.Class.{Class}
use Rattle.tlv_head.specs.declared.header.Size.{Size}
use Rattle.tlv_head.specs.Header.{wraps}

abbrev pub is_wrapper : Bool → Class → Bool → ℕ → Size → Bool
is_wrapper named class constructed number size =
    wraps (record {
      offset = 0;
      named = named;
      class = class;
      constructed = constructed;
      number = number;
      size = size;
      identifier_octets = [];
      length_octets = [];
    })
