use Rattle.std.proofs.Common.{subst}
use Rattle.tlv_walk.specs.Follow.{HasEffect}
use Rattle.tlv_show.specs.CheckStep.{findings_effect}
use Rattle.tlv_show.specs.FinderState.{CheckState, finder_end_step}
use Rattle.tlv_show.proofs.FindingLemmas.CheckLaws.{lists}
use Rattle.tlv_show.proofs.check_follower.Check.end.Goals as goal

pub returns : goal.returns
returns g c =
    let finds = c.end-may_have_findings in
    subst
    (λ (s : CheckState). HasEffect g.D.Drain.state (findings_effect (finder_end_step s)) c.args.out.now
    c.put_findings.new.out finds.new.self.kept c.put_findings.result)
    c.self.view_is
    (lists g.D.Drain.state _ _ _ finds.new.self finds.result _ finds.ensures c.put_findings.ensures)
