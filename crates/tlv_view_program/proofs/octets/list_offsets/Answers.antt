use Rattle.std.proofs.Common.{refl}
use Rattle.tlv_view_program.specs.ShowsBlock.{listed, no_memory}
use Rattle.tlv_view_program.proofs.octets.list_offsets.Goals as goal

pub returns-in_default : goal.returns-in_default
returns-in_default g c = λ reads table. rw (c.no_memory.ensures.report, c.no_memory.ensures.none) (no_memory refl)

pub returns : goal.returns
returns g c = λ reads table.
    let e = c.offsets_report.ensures in
    rw (c.new.ensures.items, e.2)
    (listed c.in-Ok.offsets.items e.0 c.write_offsets-written.result c.requires.wanted
    (rw c.in-Ok.is at c.opened.ensures) e.1 (rw c.as_slice.ensures.value at c.write_offsets-written.ensures))
