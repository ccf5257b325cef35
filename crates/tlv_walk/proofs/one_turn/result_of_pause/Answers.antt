use Rattle.std.proofs.Common.{rules}
use Rattle.tlv_walk.proofs.one_turn.result_of_pause.Goals as goal

pub returns-in-Enough : goal.returns-in-Enough
returns-in-Enough c = rw c.in-Enough.is c.run_of.ensures

pub returns-in-Fault : goal.returns-in-Fault
returns-in-Fault c = rw c.in-Fault.is c.run_of-in-Fault.ensures

pub returns-in-UsedUp-2 : goal.returns-in-UsedUp-2
returns-in-UsedUp-2 c = rw c.in-UsedUp-2.is (
  (search rules),
  (search rules),
  (_, c.run_of-in-UsedUp-2.ensures, λ octets yielded at. (c.finish.ensures.ending octets yielded at).is_ending),
)

pub returns-in-UsedUp : goal.returns-in-UsedUp
returns-in-UsedUp c = rw c.in-UsedUp.is (search rules)

pub returns-in-UsedUp-3 : goal.returns-in-UsedUp-3
returns-in-UsedUp-3 c = rw c.in-UsedUp-2.is ((search rules), (search rules))
