use Rattle.tlv_walk.proofs.EventLemmas.LongerInputs.{events-prefix}
use Rattle.tlv_walk.proofs.laws.events_go_on.Goals as goal

pub returns : goal.returns
returns c = events-prefix
