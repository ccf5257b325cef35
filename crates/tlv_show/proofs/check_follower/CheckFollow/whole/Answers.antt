use Rattle.std.proofs.Common.{refl, sym}
use Rattle.tlv_walk.proofs.FollowerLemmas.WholeResults.{if_failed, if_followed, if_left}
use Rattle.tlv_show.proofs.DumpLemmas.ClearPrimitives.{has_checked_whole}
use Rattle.tlv_show.proofs.check_follower.CheckFollow.whole.Goals as goal

pub returns-clause-followed : goal.returns-clause-followed
returns-clause-followed g c =
    if_followed g.D.Drain.state _ _ _ _ _ _
    (has_checked_whole g.D.Drain.state c.args._out.now c.args.self.now _ _ c.passes.new.self c.args.header.now
    c.args.octets.now _ c.passes.result (sym c.self.view_is) refl c.contents_in.ensures c.passes.ensures)

pub returns-clause-left : goal.returns-clause-left
returns-clause-left g c =
    if_left g.D.Drain.state _ _ _ _ _ _
    (has_checked_whole g.D.Drain.state c.args._out.now c.args.self.now _ _ c.passes.new.self c.args.header.now
    c.args.octets.now _ c.passes.result (sym c.self.view_is) refl c.contents_in.ensures c.passes.ensures)

pub returns-clause-failed : goal.returns-clause-failed
returns-clause-failed g c =
    if_failed g.D.Drain.state _ _ _ _ _ _
    (has_checked_whole g.D.Drain.state c.args._out.now c.args.self.now _ _ c.passes.new.self c.args.header.now
    c.args.octets.now _ c.passes.result (sym c.self.view_is) refl c.contents_in.ensures c.passes.ensures)
