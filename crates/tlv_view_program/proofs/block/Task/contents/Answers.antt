use Rattle.std.proofs.Common.{refl, sym, ◌∙◌}
use Rattle.tlv_view_program.specs.ShowsBlock.{no_block, no_octets, octets}
use Rattle.tlv_view_program.proofs.block.Task.contents.Goals as goal

pub returns-in-Nothing : goal.returns-in-Nothing
returns-in-Nothing g c =
    rw (c.in-Nothing.is, c.reported.ensures.report, c.reported.ensures.none, c.report_without_blocks.ensures)
    (no_block refl)

pub returns-in-Taken : goal.returns-in-Taken
returns-in-Taken g c =
    rw c.in-Taken.is
    (octets (sym c.has_octets.ensures ∙ c.if-has_octets.true) (rw (c.block_reads.ensures, c.as_slice.ensures.value) at c.show_octets.ensures))

pub returns-in-Taken-2 : goal.returns-in-Taken-2
returns-in-Taken-2 g c =
    let said = c.reported-in-Taken-2.ensures in
    rw (c.in-Taken.is, said.report, said.none, c.without_message.ensures)
    (no_octets (sym c.has_octets.ensures ∙ c.if-has_octets.false) refl)
