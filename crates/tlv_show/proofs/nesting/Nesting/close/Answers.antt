use Rattle.std.proofs.Common.{arith}
use Rattle.tlv_show.proofs.FindingLemmas.KeptFrames.{closes-frame, closes-without_frame, closes-top}
use Rattle.tlv_show.proofs.nesting.Nesting.close.Goals as goal

pub returns-then-self-clause-state : goal.returns-then-self-clause-state
returns-then-self-clause-state c =
    let n = c.self.inside in
    rw (← c.self.view_is)
    (closes-without_frame n.frame n.floor n.depth n.outer c.self.invariant.innermost c.if-self.true)

pub returns-then-self-eq0-clause-state : goal.returns-then-self-eq0-clause-state
returns-then-self-eq0-clause-state c =
    let n = c.self.inside in
    let known = c.self.invariant in
    rw (← c.self.view_is)
    (closes-top n.frame n.floor n.depth n.outer known.within known.rising c.if-self-eq0.true).0

pub returns-then-self-eq0-clause-closed : goal.returns-then-self-eq0-clause-closed
returns-then-self-eq0-clause-closed c =
    let n = c.self.inside in
    let known = c.self.invariant in
    rw (← c.self.view_is)
    (closes-top n.frame n.floor n.depth n.outer known.within known.rising c.if-self-eq0.true).1

pub returns-clause-state : goal.returns-clause-state
returns-clause-state c =
    let n = c.self.inside in
    rw (← c.self.view_is)
    (closes-frame n.frame n.floor n.depth n.outer c.self.invariant.rising (omega arith) (omega arith)
    c.take_back.new.frame c.take_back.new.floor c.take_back.new.outer c.take_back.ensures)
