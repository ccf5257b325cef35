use Rattle.tlv_run.proofs.Statuses.{statuses_show_soundness}
use Rattle.tlv_run.proofs.laws.statuses_show_soundness.Goals as goal

pub returns : goal.returns
returns c = statuses_show_soundness
