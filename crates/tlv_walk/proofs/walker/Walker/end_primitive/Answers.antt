use Rattle.std.proofs.Common.{rules}
use Rattle.tlv_walk.proofs.WalkerLemmas.YieldedEvents.{yields_end}
use Rattle.tlv_walk.proofs.walker.Walker.end_primitive.Goals as goal

pub returns : goal.returns
returns c = record {
  counts = search rules;
  has_octets = search rules;
  yields = rw (← c.self.view_is) (yields_end _ (search rules));
}
