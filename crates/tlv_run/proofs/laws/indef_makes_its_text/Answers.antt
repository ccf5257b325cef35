use Rattle.tlv_run.proofs.IndefLemmas.Elements.{followed-events}
use Rattle.tlv_run.proofs.laws.indef_makes_its_text.Goals as goal

pub returns : goal.returns
returns c = followed-events
