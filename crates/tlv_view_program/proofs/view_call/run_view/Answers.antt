use Rattle.tlv_view_program.proofs.view_call.run_view.Goals as goal

pub returns-in-Dump : goal.returns-in-Dump
returns-in-Dump g c = rw c.in-Dump.is c.run_dump_with.ensures
