use Rattle.std.proofs.Common.{◌∷◌, [], rules, arith, inl}
use Rattle.std.proofs.lemmas.Grind.{common_steps}
use Rattle.tlv_walk.proofs.WalkerLemmas.Closing.{yields_second}
use Rattle.tlv_walk.proofs.WalkerLemmas.Refusals.{refuses_front, refuses_second, refuses_second_missing}
use Rattle.tlv_walk.proofs.walker.Walker.second_zero.Goals as goal

pub returns-then-eq : goal.returns-then-eq
returns-then-eq c = record {
  counts = search rules;
  yields =
      rw c.refuse.ensures.0
      (inl
      (rw (← c.self.view_is)
      (refuses_front _ c.args.piece.now.now _ c.in-len1-up.len_at_least
      (refuses_second_missing _ _ _ (search rules) (search rules) (search rules)))));
}

pub returns-then-octet-ne0 : goal.returns-then-octet-ne0
returns-then-octet-ne0 c = record {
  counts = search rules;
  yields =
      rw c.refuse-then-octet-ne0.ensures.0
      (inl
      (rw (← c.self.view_is)
      (refuses_front _ c.args.piece.now.now _ c.in-len1-up.len_at_least
      (refuses_second _ _ _ (search rules) (search rules) (search rules)))));
}

pub returns : goal.returns
returns c = record {
  counts = search rules;
  yields = record {
    taken = 0 ∷ [];
    piece_is = grind (arith, common_steps);
    continues = rw (← c.self.view_is, c.pop.ensures.rest) (yields_second _ (search rules) (grind arith));
  };
}
