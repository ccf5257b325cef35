use Rattle.std.proofs.Common.{◌≡◌, drop}
use Rattle.std.specs.List.{list_any}
use Rattle.std.specs.Prelude.{eqb}
use Rattle.tlv_reasons.proofs.suspects.is_among.Given as goal

abbrev pub invariant-loop-other : goal.invariant-loop-other
invariant-loop-other l =
    list_any (λ y. eqb y l.offset) l.others ≡ list_any (λ y. eqb y l.offset) (drop l.other-index l.others)
