use Rattle.tlv_run.proofs.MemoryRuns.{until_failure}
use Rattle.tlv_run.proofs.run_octets_call.run_until_failure.Goals as goal

pub returns : goal.returns
returns g c =
    until_failure c.args.command.now c.args.names.now c.args.octets.now c.type_inv.octets g.row.N
    _ c.run-report.new.drain c.new-drain.ensures c.into_octets-written.result
    c.into_octets-written.ensures.octets_are c.into_octets-written.ensures.short
    c.into_octets-written.ensures.full_if_failed _
    _ c.run-report.new.source c.new.ensures c.run-report.ensures
