use Rattle.tlv_view_program.specs.ShowsBlock.{raw}
use Rattle.tlv_view_program.proofs.octets.write_raw.Goals as goal

pub returns : goal.returns
returns g c = λ reads table.
    rw (c.new.ensures.items, c.raw_report.ensures)
    (raw c.write_octets-written.result c.requires c.write_octets-written.ensures)
