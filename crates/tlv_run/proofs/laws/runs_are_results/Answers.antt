use Rattle.tlv_run.proofs.KnownOctets.{run_results}
use Rattle.tlv_run.proofs.laws.runs_are_results.Goals as goal

pub returns : goal.returns
returns c = run_results
