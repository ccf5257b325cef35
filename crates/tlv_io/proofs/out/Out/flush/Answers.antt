use Rattle.std.proofs.Common.{rules}
use Rattle.std.proofs.lemmas.Result.{err_from_is_err_and}
use Rattle.tlv_io.proofs.out.Out.flush.Goals as goal

pub returns-clause-puts : goal.returns-clause-puts
returns-clause-puts g c =
    let s = c.in_ok-send.ensures in record {
      same_reference = search rules;
      sent = s.sent;
      left = s.left;
      prefix = search rules;
      took = s.took;
      held = search rules;
      lost = tt;
      failures = s.failures;
    }

pub returns-clause-empty : goal.returns-clause-empty
returns-clause-empty g c = search rules

pub returns-in_err-send-clause-puts : goal.returns-in_err-send-clause-puts
returns-in_err-send-clause-puts g c =
    let p = err_from_is_err_and c.from_residual.result c.from_residual.ensures.1 in
    let s = c.in_err-send.ensures in rw p.1 record {
      same_reference = search rules;
      sent = s.sent;
      left = s.left;
      prefix = search rules;
      took = s.took;
      held = tt;
      lost = s.lost;
      failures = s.failures;
    }
