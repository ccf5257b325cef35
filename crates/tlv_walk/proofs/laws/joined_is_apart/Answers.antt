use Rattle.tlv_walk.proofs.EventLemmas.JoinedEvents.{equal-joined}
use Rattle.tlv_walk.proofs.laws.joined_is_apart.Goals as goal

pub returns : goal.returns
returns c = equal-joined
