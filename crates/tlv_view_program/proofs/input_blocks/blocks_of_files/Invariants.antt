use Rattle.std.proofs.Common.{flat_map}
use Rattle.tlv_view_program.proofs.InputBlockLemmas.{GetsRest}
use Rattle.tlv_view_program.specs.Private.BlockParts.{all_fit, file_blocks}
use Rattle.tlv_view_program.specs.ShowsAll.{files_of_words}
use Rattle.tlv_view_program.specs.Streams.{streams_value}
use Rattle.tlv_view_program.proofs.input_blocks.blocks_of_files.Given as goal

abbrev pub invariant-loop-word : goal.invariant-loop-word
invariant-loop-word g l = record {
  gets :
      GetsRest g.S.System.allows l.fn.request.form (files_of_words l.fn.request.files) l.fn.request.files
      (streams_value g.I.Source.state g.O.Drain.state g.O.Output.reader_gone g.M.Drain.state l.fn.streams) l.word-index
      l.room (streams_value g.I.Source.state g.O.Drain.state g.O.Output.reader_gone g.M.Drain.state l.streams) (flat_map file_blocks l.given.items);
  fit : all_fit l.given.items;
}
