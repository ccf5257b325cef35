use Rattle.tlv_view_program.specs.Reasons.{not_written, written}
use Rattle.tlv_view_program.proofs.explain.explain_parsing.Goals as goal

pub returns-in-Ok : goal.returns-in-Ok
returns-in-Ok g c =
    written (g.D.Drain.state c.write_parsing.new.drain) _ _ c.in-Ok.ensures
    (rw c.as_slice.ensures.value at c.explain_first.ensures)

pub returns-in-Err : goal.returns-in-Err
returns-in-Err g c = not_written c.in-Err.fault c.in-Err.ensures
