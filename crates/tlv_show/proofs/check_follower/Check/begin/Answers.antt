use Rattle.std.proofs.Common.{true}
use Rattle.tlv_show.proofs.FindingLemmas.CheckLaws.{lists}
use Rattle.tlv_show.proofs.check_follower.Check.begin.Goals as goal

pub returns : goal.returns
returns g c =
    rw (← c.self.view_is) (lists g.D.Drain.state _ _ _ c.begin.new.self true _ c.begin.ensures c.put_findings.ensures)
