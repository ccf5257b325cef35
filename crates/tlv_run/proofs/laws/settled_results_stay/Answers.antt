use Rattle.tlv_run.proofs.Results.{settled_results}
use Rattle.tlv_run.proofs.laws.settled_results_stay.Goals as goal

pub returns : goal.returns
returns c = settled_results
