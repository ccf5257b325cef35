use Rattle.std.proofs.Common.{rules, arith, length, ap}
use Rattle.std.proofs.lemmas.List.{nil_from_length}
use Rattle.tlv_walk.specs.WalkerState.{WalkerState}
use Rattle.tlv_walk.proofs.WalkerLemmas.YieldedEvents.{yields_contents}
use Rattle.tlv_walk.proofs.walker.Walker.contents.Goals as goal

pub returns-clause-steps : goal.returns-clause-steps
returns-clause-steps c =
    let offset = ap (λ (w : WalkerState). w.offset) c.self.view_is in
    record {
      counts = (
        record {
          counts = omega (arith, offset, c.split_at.ensures.front_len, c.split_at.ensures.back_len);
          events = search rules;
          has_yielded = search rules;
        },
        λ e. c.requires.some.1
            (nil_from_length _
            (omega
            (arith, ap length e, c.split_at.ensures.front_len, c.min-count.ensures, c.requires.some.0))),
      );
      yields = record {
        taken = c.split_at.result.0.now;
        piece_is = search rules;
        continues =
            rw (← c.self.view_is)
            (yields_contents _ c.args.left c.split_at.result.0.now c.min-count.result (search rules) (search rules)
            (search rules));
      };
    }

pub returns-clause-used_up : goal.returns-clause-used_up
returns-clause-used_up c beyond = record {
  none_left = nil_from_length _
      (omega (arith, c.split_at.ensures.front_len, c.split_at.ensures.back_len, c.min-count.ensures, beyond));
  ready = search rules;
}
