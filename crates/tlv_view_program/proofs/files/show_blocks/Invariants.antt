use Rattle.std.proofs.Common.{◌≡◌, ◌+◌, flat_map, length}
use Rattle.std.specs.Vec.Iter.{into_iter_items, into_iter_len}
use Rattle.tlv_view_program.proofs.BlockSteps.{ShowsRest}
use Rattle.tlv_view_program.specs.Private.BlockParts.{all_fit, blocks_place, file_blocks}
use Rattle.tlv_view_program.specs.Streams.{streams_value}
use Rattle.tlv_view_program.proofs.files.show_blocks.Given as goal

abbrev pub invariant-loop-file : goal.invariant-loop-file
invariant-loop-file g l = record {
  shows :
      ShowsRest l.fn.task.request.now l.fn.task.names.now (blocks_place l.fn.task) 1
      (flat_map file_blocks l.fn.files.items)
      (streams_value g.I.Source.state g.O.Drain.state g.O.Output.reader_gone g.M.Drain.state l.fn.streams) l.before
      (flat_map file_blocks (into_iter_items l.file-iterator))
      (streams_value g.I.Source.state g.O.Drain.state g.O.Output.reader_gone g.M.Drain.state l.streams) l.status;
  fit : all_fit (into_iter_items l.file-iterator);
  count :
      l.before + length (flat_map file_blocks (into_iter_items l.file-iterator))
      ≡ length (flat_map file_blocks l.fn.files.items);
  left : into_iter_len l.file-iterator ≡ length (into_iter_items l.file-iterator);
}
