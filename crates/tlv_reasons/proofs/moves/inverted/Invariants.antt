use Rattle.std.proofs.Common.{◌≡◌, take}
use Rattle.tlv_reasons.specs.Moves.{inverted}
use Rattle.tlv_reasons.proofs.moves.inverted.Given as goal

abbrev pub invariant-loop-octet : goal.invariant-loop-octet
invariant-loop-octet l = l.copy.items ≡ inverted (take l.octet-index l.octets)
