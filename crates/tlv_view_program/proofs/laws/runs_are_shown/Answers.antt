use Rattle.tlv_view_program.proofs.ShownLemmas.ShownRuns.{runs-shown}
use Rattle.tlv_view_program.proofs.laws.runs_are_shown.Goals as goal

pub returns : goal.returns
returns g c = runs-shown _
