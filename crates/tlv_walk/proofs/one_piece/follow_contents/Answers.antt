use Rattle.std.proofs.Common.{rules, arith}
use Rattle.std.proofs.lemmas.Grind.{elements}
use Rattle.std.proofs.lemmas.Result.{err_from_is_err_and}
use Rattle.tlv_walk.specs.Reading.{AreOctets}
use Rattle.tlv_walk.proofs.FollowerLemmas.FollowSteps.{fails_event, follows_event, follows_none}
use Rattle.tlv_walk.proofs.FollowerLemmas.OneEvent.{pauses_used_up_at_once}
use Rattle.tlv_walk.proofs.FollowerLemmas.Pauses.{fails_sent, pauses_flushed, pauses_unflushed}
use Rattle.tlv_walk.proofs.WalkerLemmas.StepStands.{stands_all}
use Rattle.tlv_walk.proofs.one_piece.follow_contents.Goals as goal

pub returns-in_err-go : goal.returns-in_err-go
returns-in_err-go g c =
    let octets : AreOctets c.args.piece.now = grind (arith, elements) in
    let walked = stands_all _ _ _ _ _ c.contents-event.ensures.steps.yields in
    let p = err_from_is_err_and c.from_residual.result c.from_residual.ensures.1 in rw p.1
    (fails_sent g.F.Follow.next g.D.Drain.state _ _ _ octets c.requires.empty _ _
    (fails_event g.F.Follow.next g.D.Drain.state _ _ _ _ _ _ _ _ (follows_none g.F.Follow.next g.D.Drain.state _ _)
    walked _ _ c.in_err-go.ensures))

pub returns-in_err-flush : goal.returns-in_err-flush
returns-in_err-flush g c =
    let octets : AreOctets c.args.piece.now = grind (arith, elements) in
    let walked = stands_all _ _ _ _ _ c.contents-event.ensures.steps.yields in
    let p = err_from_is_err_and c.from_residual-in_err-flush.result c.from_residual-in_err-flush.ensures.1 in rw p.1
    (pauses_unflushed g.F.Follow.next g.D.Drain.state _ _ _ _ octets c.requires.empty _ _ _
    (pauses_used_up_at_once g.F.Follow.next g.D.Drain.state _ _ _ _ _
    (follows_event g.F.Follow.next g.D.Drain.state _ _ _ _ _ _ _ _ (follows_none g.F.Follow.next g.D.Drain.state _ _)
    walked c.in_ok-go.ensures)
    (c.contents-event.ensures.steps.counts.0) (c.contents-event.ensures.used_up c.requires.beyond.beyond))
    c.in_err-flush.ensures.puts)

pub returns-in-On : goal.returns-in-On
returns-in-On g c =
    let octets : AreOctets c.args.piece.now = grind (arith, elements) in
    let walked = stands_all _ _ _ _ _ c.contents-event.ensures.steps.yields in
    pauses_flushed g.F.Follow.next g.D.Drain.state _ _ _ _ octets c.requires.empty _
    (pauses_used_up_at_once g.F.Follow.next g.D.Drain.state _ _ _ _ _
    (follows_event g.F.Follow.next g.D.Drain.state _ _ _ _ _ _ _ _ (follows_none g.F.Follow.next g.D.Drain.state _ _)
    walked (rw c.in-On.is at c.in_ok-go.ensures))
    (c.contents-event.ensures.steps.counts.0) (c.contents-event.ensures.used_up c.requires.beyond.beyond))
    c.in_ok-flush.ensures.puts (search rules)

pub returns-in-Enough : goal.returns-in-Enough
returns-in-Enough g c =
    let octets : AreOctets c.args.piece.now = grind (arith, elements) in
    let walked = stands_all _ _ _ _ _ c.contents-event.ensures.steps.yields in
    pauses_flushed g.F.Follow.next g.D.Drain.state _ _ _ _ octets c.requires.empty _
    (pauses_used_up_at_once g.F.Follow.next g.D.Drain.state _ _ _ _ _
    (follows_event g.F.Follow.next g.D.Drain.state _ _ _ _ _ _ _ _ (follows_none g.F.Follow.next g.D.Drain.state _ _)
    walked (rw c.in-Enough.is at c.in_ok-go.ensures))
    (c.contents-event.ensures.steps.counts.0) (c.contents-event.ensures.used_up c.requires.beyond.beyond))
    c.in_ok-flush.ensures.puts (search rules)
