use Rattle.std.proofs.Common.{refl, rules}
use Rattle.tlv_io.proofs.Puts.{puts_as, puts_failed, puts_failed_last, puts_then}
use Rattle.tlv_run.proofs.indef_follower.IndefFollow.open.Goals as goal

pub returns-in_err-put : goal.returns-in_err-put
returns-in_err-put g c = record {
  has = record {
    puts =
        rw (c.requires.constructed, ← c.from.ensures)
        (puts_failed g.D.Drain.state _ _ _ _ _ _ c.in_err-put.ensures.puts c.from_residual.ensures.0);
    state = search rules;
  };
  goes = search rules;
}

pub returns-in_err-put-2 : goal.returns-in_err-put-2
returns-in_err-put-2 g c = record {
  has = record {
    puts =
        rw (c.requires.constructed, ← c.from.ensures)
        (puts_failed_last g.D.Drain.state _ _ _ _ _
        (puts_then g.D.Drain.state _ _ _ _ _ _ _ c.in_ok-put.ensures.puts c.in_err-put-2.ensures.puts)
        c.from_residual-in_err-put-2.ensures.0);
    state = search rules;
  };
  goes = search rules;
}

pub returns : goal.returns
returns g c = record {
  has = record {
    puts =
        rw (c.requires.constructed, ← c.from.ensures)
        (puts_as g.D.Drain.state _ _ _ _ _ _
        (puts_then g.D.Drain.state _ _ _ _ _ _ _ c.in_ok-put.ensures.puts c.in_ok-put-2.ensures.puts) refl);
    state = refl;
  };
  goes = refl;
}
