use Rattle.tlv_run.proofs.run_call.run.Goals as goal

pub returns-in-Dump : goal.returns-in-Dump
returns-in-Dump g c = rw c.in-Dump.is c.run_dump.ensures
