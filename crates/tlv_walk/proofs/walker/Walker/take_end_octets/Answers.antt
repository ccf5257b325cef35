use Rattle.std.proofs.Common.{◌∷◌, [], arith, rules}
use Rattle.std.proofs.lemmas.Grind.{common_steps}
use Rattle.tlv_walk.proofs.WalkerLemmas.Closing.{yields_both}
use Rattle.tlv_walk.proofs.walker.Walker.take_end_octets.Goals as goal

pub returns : goal.returns
returns c = record {
  counts = search rules;
  yields = record {
    taken = 0 ∷ 0 ∷ [];
    piece_is = grind (arith, common_steps);
    continues = rw (← c.self.view_is, c.pop.ensures.rest) (yields_both _ (search rules) (search rules) (search rules));
  };
}

pub invariant_of-self : goal.invariant_of-self
invariant_of-self c = search rules
