use Rattle.std.proofs.Common.{◌≡◌, ◌++◌, ◌∷◌, take}
use Rattle.tlv_value.specs.Bits.{bits_of}
use Rattle.tlv_value.proofs.value.write_used_digits.Given as goal
use Rattle.tlv_value.specs.Private.Rows.{digits_of_bits}

abbrev pub invariant-loop-octet : goal.invariant-loop-octet
invariant-loop-octet l = l.held ≡ l.fn.held ++ 32 ∷ digits_of_bits (bits_of (take l.octet-index l.prefix))
