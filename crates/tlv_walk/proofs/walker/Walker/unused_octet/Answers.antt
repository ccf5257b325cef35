use Rattle.std.proofs.Common.{◌∷◌, [], rules, arith, inl}
use Rattle.std.proofs.lemmas.Grind.{common_steps}
use Rattle.tlv_walk.proofs.WalkerLemmas.AfterHeader.{yields_unused}
use Rattle.tlv_walk.proofs.WalkerLemmas.Refusals.{refuses_front, refuses_unused}
use Rattle.tlv_walk.proofs.walker.Walker.unused_octet.Goals as goal

pub returns-then-octet-ne0 : goal.returns-then-octet-ne0
returns-then-octet-ne0 c = record {
  counts = search rules;
  yields =
      rw c.refuse.ensures.0
      (inl
      (refuses_front _ c.args.piece.now.now _ c.in-len1-up.len_at_least
      (refuses_unused _ _ _ (search rules) (search rules))));
}

pub returns : goal.returns
returns c = record {
  counts = search rules;
  yields = record {
    taken = 0 ∷ [];
    piece_is = grind (arith, common_steps);
    continues = rw (← c.self.view_is) (yields_unused _ (search rules));
  };
}
