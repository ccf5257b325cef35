use Rattle.std.proofs.Common.{flat_map, take}
use Rattle.tlv_io.proofs.Puts.{HasPut}
use Rattle.tlv_view_program.specs.Notes.{layer_words}
use Rattle.tlv_view_program.specs.Private.LineOut.{as_out}
use Rattle.tlv_view_program.proofs.notes.put_layers.Given as goal

abbrev pub invariant-loop-layer : goal.invariant-loop-layer
invariant-loop-layer g l =
    HasPut g.D.Drain.state (as_out l.initial.out) (as_out l.out) (flat_map layer_words (take l.layer-index l.fn.layers))
