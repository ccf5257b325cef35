use Rattle.std.proofs.Common.{◌∷◌, [], rules, arith}
use Rattle.std.proofs.lemmas.Grind.{common_steps}
use Rattle.tlv_walk.proofs.WalkerLemmas.AfterHeader.{yields_unused}
use Rattle.tlv_walk.proofs.walker.Walker.no_unused_bits.Goals as goal

pub returns : goal.returns
returns c = record {
  counts = search rules;
  yields = record {
    taken = 0 ∷ [];
    piece_is = grind (arith, common_steps);
    continues = rw (← c.self.view_is) (yields_unused _ (search rules));
  };
}
