use Rattle.std.proofs.Common.{rules, true, false}
use Rattle.tlv_walk.proofs.WalkerLemmas.Closing.{yields_popped}
use Rattle.tlv_walk.proofs.walker.Walker.end_filled.Goals as goal

pub returns-then-wrapper : goal.returns-then-wrapper
returns-then-wrapper c = record {
  counts = search rules;
  has_octets = search rules;
  yields =
      rw (← c.self.view_is, c.pop.ensures.rest) (yields_popped _ true (search rules) (search rules) (search rules));
}

pub returns : goal.returns
returns c = record {
  counts = search rules;
  has_octets = search rules;
  yields =
      rw (← c.self.view_is, c.pop.ensures.rest) (yields_popped _ false (search rules) (search rules) (search rules));
}
