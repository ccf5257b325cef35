use Rattle.std.proofs.Common.{rules}
use Rattle.tlv_view_program.proofs.Items.{fails_item, puts_item}
use Rattle.tlv_view_program.specs.Notes.{layer_words}
use Rattle.tlv_view_program.proofs.notes.put_layers.Goals as goal

pub returns-in_err-put : goal.returns-in_err-put
returns-in_err-put g c =
    fails_item layer_words g.D.Drain.state _ _ _ c.args.layers.now c.loop-layer.layer-index _ _ _
    c.loop-layer-test.true c.loop-layer.invariant
    (rw (c.as_slice.ensures.value, c.layer_words.ensures) at c.in_err-put.ensures) (search rules)

pub loop-layer-preserved : goal.loop-layer-preserved
loop-layer-preserved g c =
    puts_item layer_words g.D.Drain.state _ _ _ c.args.layers.now c.loop-layer.layer-index _ c.loop-layer-test.true
    c.loop-layer.invariant (rw (c.as_slice.ensures.value, c.layer_words.ensures) at c.in_ok-put.ensures)
