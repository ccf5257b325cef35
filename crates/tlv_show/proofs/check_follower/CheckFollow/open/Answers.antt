use Rattle.std.proofs.Common.{refl, rules}
use Rattle.std.proofs.lemmas.Result.{err_from_is_err_and}
use Rattle.tlv_head.specs.HeaderFields.{new_header}
use Rattle.tlv_walk.specs.Events.{Open}
use Rattle.tlv_io.proofs.Puts.{puts_as, puts_failed_last}
use Rattle.tlv_show.proofs.FindingLemmas.CheckLaws.{one_on}
use Rattle.tlv_show.proofs.check_follower.CheckFollow.open.Goals as goal

pub returns-in_err-open : goal.returns-in_err-open
returns-in_err-open g c =
    let failed = err_from_is_err_and c.from_residual.result c.from_residual.ensures.1 in
    record {
      has = record {
        puts =
            puts_failed_last g.D.Drain.state _ _ _ _ _ (rw c.new.ensures at c.in_err-open.ensures.puts)
            (search rules);
        state = rw failed.1 tt;
      };
      goes = rw failed.1 tt;
    }

pub returns : goal.returns
returns g c = record {
  has = record {
    puts = puts_as g.D.Drain.state _ _ _ _ _ _ (rw c.new.ensures at c.in_ok-open.ensures.puts) refl;
    state = rw c.new.ensures at c.in_ok-open.ensures.state;
  };
  goes = one_on c.args.self.now (Open (new_header c.args.fields.now c.args.octets.now));
}
