use Rattle.std.proofs.Common.{◌≡◌, ◌+◌, take}
use Rattle.tlv_value.specs.Number.{twos_complement}
use Rattle.tlv_value.proofs.decimal.short_decimal_of.Given as goal

abbrev pub invariant-loop-octet : goal.invariant-loop-octet
invariant-loop-octet l = l.number ≡ twos_complement (take (l.octet-index + 1) l.contents)
