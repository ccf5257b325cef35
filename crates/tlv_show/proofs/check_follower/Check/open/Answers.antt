use Rattle.tlv_show.proofs.FindingLemmas.CheckLaws.{lists}
use Rattle.tlv_show.proofs.check_follower.Check.open.Goals as goal

pub returns : goal.returns
returns g c =
    let finds = c.open-may_have_findings in
    rw (← c.self.view_is)
    (lists g.D.Drain.state _ _ _ finds.new.self finds.result _ finds.ensures c.put_findings.ensures)
