use Rattle.std.proofs.Common.{◌≡◌, ◌++◌, drop, map, take}
use Rattle.tlv_text.proofs.TakenLemmas.{pushed_layer}
use Rattle.tlv_text.proofs.values.add_layer.Given as goal

abbrev pub invariant-loop-block : goal.invariant-loop-block
invariant-loop-block l =
    l.taken ≡ map (pushed_layer l.layer) (take l.block-index l.initial.taken) ++ drop l.block-index l.initial.taken
