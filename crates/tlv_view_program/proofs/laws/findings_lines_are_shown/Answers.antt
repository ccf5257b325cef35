use Rattle.tlv_view_program.proofs.ShownLemmas.ShownReasons.{findings_lines-shown}
use Rattle.tlv_view_program.proofs.laws.findings_lines_are_shown.Goals as goal

pub returns : goal.returns
returns c = findings_lines-shown
