use Rattle.std.proofs.Common.{◌≡◌, ◌+◌, drop}
use Rattle.std.specs.List.{prefix_len}
use Rattle.tlv_reasons.specs.FileKinds.{is_hex_digit}
use Rattle.tlv_reasons.proofs.kinds.hex_digits.Given as goal

abbrev pub invariant-loop-index : goal.invariant-loop-index
invariant-loop-index l =
    prefix_len is_hex_digit l.octets ≡ l.index + prefix_len is_hex_digit (drop l.index l.octets)
