use Rattle.std.proofs.Common.{rules}
use Rattle.tlv_walk.proofs.WalkerLemmas.Finishing.{finish_done, finish_empty, finish_short}
use Rattle.tlv_walk.proofs.WalkerLemmas.HasRead.{never_refused, shown_ending}
use Rattle.tlv_walk.proofs.WalkerLemmas.Waiting.{idle-none_waits}
use Rattle.tlv_walk.proofs.walker.Walker.finish.Goals as goal

pub returns-then-not-has_nothing_open-clause-ending : goal.returns-then-not-has_nothing_open-clause-ending
returns-then-not-has_nothing_open-clause-ending c = λ b yielded st. shown_ending c.args.self.now.framing b _
    (rw c.ended_by.ensures
    (finish_short c.args.self.now b yielded st (idle-none_waits c.args.self.now c.requires) (search rules)))

pub returns-then-self-clause-ending : goal.returns-then-self-clause-ending
returns-then-self-clause-ending c = λ b yielded st. shown_ending c.args.self.now.framing b _
    (finish_done c.args.self.now b yielded st (search rules) (search rules) (search rules))

pub returns-clause-ending : goal.returns-clause-ending
returns-clause-ending c = λ b yielded st. shown_ending c.args.self.now.framing b _
    (rw c.ended_by-2.ensures
    (finish_empty c.args.self.now b yielded st (search rules) (search rules) (search rules)))

pub returns-in-Refused-clause-ending : goal.returns-in-Refused-clause-ending
returns-in-Refused-clause-ending c = λ b yielded st. shown_ending c.args.self.now.framing b _
    (absurd (never_refused c.args.self.now b yielded c.in-Refused.fault st (search rules)))
