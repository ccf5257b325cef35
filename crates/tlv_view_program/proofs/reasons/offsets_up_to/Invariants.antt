use Rattle.std.proofs.Common.{◌≡◌, take}
use Rattle.std.specs.Prelude.{nat_lt}
use Rattle.std.specs.List.{filter}
use Rattle.tlv_view_program.proofs.reasons.offsets_up_to.Given as goal

abbrev pub invariant-loop-each : goal.invariant-loop-each
invariant-loop-each l =
    l.named.items ≡ filter (λ o. nat_lt o l.offset) (take l.each-index l.opened)
