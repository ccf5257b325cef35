use Rattle.std.proofs.Common.{[], refl, rules}
use Rattle.tlv_walk.proofs.WalkerLemmas.Closing.{yields_closed, yields_left}
use Rattle.tlv_walk.proofs.walker.Walker.close.Goals as goal

pub returns-then-is_in_wrapper : goal.returns-then-is_in_wrapper
returns-then-is_in_wrapper c = record {
  counts = search rules;
  yields = record {
    taken = [];
    piece_is = refl;
    continues =
        rw (← c.self.view_is, c.pop.ensures.rest)
        (yields_left _ (search rules) (search rules) (search rules));
  };
}

pub returns : goal.returns
returns c = record {
  counts = search rules;
  yields = record {
    taken = [];
    piece_is = refl;
    continues =
        rw (← c.self.view_is, c.pop-2.ensures.rest)
        (yields_closed _ (search rules) (search rules) (search rules));
  };
}
