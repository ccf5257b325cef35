use Rattle.std.proofs.Common.{rules}
use Rattle.tlv_walk.proofs.WalkerLemmas.Padding.{yields_pad}
use Rattle.tlv_walk.proofs.walker.Walker.padding.Goals as goal

pub returns : goal.returns
returns c = record {
  counts = search rules;
  yields = record {
    taken = c.split_at.result.0.now;
    piece_is = search rules;
    continues =
        rw (← c.self.view_is)
        (yields_pad _ c.split_at.result.0.now c.zeros-count.result (search rules) (search rules) (search rules)
        (search rules) (search rules));
  };
}
