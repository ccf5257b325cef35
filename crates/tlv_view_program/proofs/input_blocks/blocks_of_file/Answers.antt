use Rattle.std.proofs.Common.{map}
use Rattle.std.specs.Prelude.{Ok, Err}
use Rattle.tlv_text.specs.Taken.{taken_value}
use Rattle.tlv_view_program.proofs.InputBlockLemmas.{gets-beyond, gets-within}
use Rattle.tlv_view_program.specs.InputBlocks.{no_octets, takes}
use Rattle.tlv_view_program.specs.Private.BlockParts.{report_without_blocks}
use Rattle.tlv_view_program.proofs.input_blocks.blocks_of_file.Goals as goal

pub returns-in-Err-clause-gets : goal.returns-in-Err-clause-gets
returns-in-Err-clause-gets g c = no_octets (report_without_blocks c.in-Err.why) c.in-Err.ensures.gets

pub returns-in-Err-take-clause-gets : goal.returns-in-Err-take-clause-gets
returns-in-Err-take-clause-gets g c =
    takes c.in-Ok.octets.items (Err c.in-Err-take.fault) c.in-Ok.ensures.gets c.in-Err-take.ensures.takes

pub returns-in_default-clause-gets : goal.returns-in_default-clause-gets
returns-in_default-clause-gets g c =
    gets-beyond g.S.System.allows c.args.form _ _ _ _ (map taken_value c.in-Ok-take.taken.items)
    (rw c.as_slice.ensures.value at c.in_default.ensures)
    (takes c.in-Ok.octets.items (Ok (map taken_value c.in-Ok-take.taken.items)) c.in-Ok.ensures.gets
    c.in-Ok-take.ensures.takes)

pub returns-clause-gets : goal.returns-clause-gets
returns-clause-gets g c =
    gets-within g.S.System.allows c.args.form _ _ _ _ (map taken_value c.in-Ok-take.taken.items) _
    (rw c.as_slice.ensures.value at c.in-Some.ensures)
    (takes c.in-Ok.octets.items (Ok (map taken_value c.in-Ok-take.taken.items)) c.in-Ok.ensures.gets
    c.in-Ok-take.ensures.takes)
