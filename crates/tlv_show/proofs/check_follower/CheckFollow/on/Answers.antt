use Rattle.std.proofs.Common.{refl, rules}
use Rattle.tlv_walk.specs.Events.{event_value_of}
use Rattle.tlv_io.proofs.Puts.{puts_as, puts_failed_last}
use Rattle.tlv_show.proofs.FindingLemmas.CheckLaws.{one_on}
use Rattle.tlv_show.proofs.check_follower.CheckFollow.on.Goals as goal

pub returns-in_err-put_lines : goal.returns-in_err-put_lines
returns-in_err-put_lines g c = record {
  has = record {
    puts = puts_failed_last g.D.Drain.state _ _ _ _ _ c.in_err-put_lines.ensures.puts (search rules);
    state = search rules;
  };
  goes = search rules;
}

pub returns : goal.returns
returns g c = record {
  has = record {
    puts = puts_as g.D.Drain.state _ _ _ _ _ _ c.in_ok-put_lines.ensures.puts refl;
    state = c.in_ok-put_lines.ensures.state;
  };
  goes = one_on c.args.self.now (event_value_of c.args.event.now);
}
