use Rattle.std.proofs.Common.{◌≡◌, ◌+◌, length, map}
use Rattle.std.specs.Vec.Iter.{into_iter_items, into_iter_len}
use Rattle.tlv_run.specs.BorrowedText.{text_in}
use Rattle.tlv_view_program.proofs.BlockSteps.{ShowsRest}
use Rattle.tlv_view_program.proofs.InputBlockLemmas.{taken_block}
use Rattle.tlv_view_program.specs.Private.BlockParts.{blocks_place, taken_fit}
use Rattle.tlv_view_program.specs.Streams.{streams_value}
use Rattle.tlv_view_program.proofs.files.show_taken.Given as goal

abbrev pub invariant-loop-each : goal.invariant-loop-each
invariant-loop-each g l = record {
  shows :
      ShowsRest l.fn.task.request.now l.fn.task.names.now (blocks_place l.fn.task) (l.fn.before + 1)
      (map (taken_block (text_in l.fn.file) l.is_one_of_several) l.fn.taken.items)
      (streams_value g.I.Source.state g.O.Drain.state g.O.Output.reader_gone g.M.Drain.state l.fn.streams) l.number
      (map (taken_block (text_in l.fn.file) l.is_one_of_several) (into_iter_items l.each-iterator))
      (streams_value g.I.Source.state g.O.Drain.state g.O.Output.reader_gone g.M.Drain.state l.streams) l.status;
  fit : taken_fit (into_iter_items l.each-iterator);
  count : l.number + length (into_iter_items l.each-iterator) ≡ l.fn.before + length l.fn.taken.items;
  left : into_iter_len l.each-iterator ≡ length (into_iter_items l.each-iterator);
}
