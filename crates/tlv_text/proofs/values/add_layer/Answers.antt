use Rattle.std.proofs.Common.{◌∙◌, ◌+◌, List, ap, map, subst, sym}
use Rattle.std.specs.List.{All}
use Rattle.tlv_text.specs.Private.Counting.{IsBounded}
use Rattle.tlv_text.specs.Taken.{taken_value}
use Rattle.tlv_text.specs.declared.taken.Taken.{Taken}
use Rattle.tlv_text.proofs.TakenLemmas.{all-layered, layer-next, pushed-bounded, pushed-values}
use Rattle.tlv_text.proofs.values.add_layer.Goals as goal

pub loop-block-preserved : goal.loop-block-preserved
loop-block-preserved c =
    layer-next c.args.layer c.args.taken.now c.loop-block.taken c.loop-block.block-index c.block-item.result
    c.push.new.self c.loop-block-test.true c.loop-block.invariant c.block-item.is c.push.ensures.items

pub returns-clause-values : goal.returns-clause-values
returns-clause-values c =
    ap (map taken_value) (all-layered c.args.layer c.args.taken.now _ c.loop-block.block-index c.loop-block.invariant
    c.loop-block-test.false)
    ∙ pushed-values c.args.layer c.args.taken.now

pub returns-clause-layers : goal.returns-clause-layers
returns-clause-layers c n bounded =
    subst (λ (ts : List Taken). All (IsBounded (n + 1)) ts)
    (sym (all-layered c.args.layer c.args.taken.now _ c.loop-block.block-index c.loop-block.invariant
    c.loop-block-test.false))
    (pushed-bounded n c.args.layer c.args.taken.now bounded)
