use Rattle.std.proofs.Common.{rules, arith}
use Rattle.std.proofs.lemmas.Grind.{elements}
use Rattle.std.proofs.lemmas.Result.{err_from_is_err_and}
use Rattle.tlv_walk.specs.Reading.{AreOctets}
use Rattle.tlv_walk.proofs.FollowerLemmas.Pauses.{fails_sent, pauses_flushed, pauses_unflushed}
use Rattle.tlv_walk.proofs.one_piece.follow_and_flush.Goals as goal

pub returns-in_err-pause : goal.returns-in_err-pause
returns-in_err-pause g c =
    let octets : AreOctets c.args.piece.now = grind (arith, elements) in
    let p = err_from_is_err_and c.from_residual.result c.from_residual.ensures.1 in rw p.1
    (fails_sent g.F.Follow.next g.D.Drain.state _ _ _ octets c.requires.empty _ _ c.in_err-pause.ensures)

pub returns-in_err-flush : goal.returns-in_err-flush
returns-in_err-flush g c =
    let octets : AreOctets c.args.piece.now = grind (arith, elements) in
    let p = err_from_is_err_and c.from_residual-in_err-flush.result c.from_residual-in_err-flush.ensures.1 in rw p.1
    (pauses_unflushed g.F.Follow.next g.D.Drain.state _ _ _ _ octets c.requires.empty _ _ _ c.in_ok-pause.ensures
    c.in_err-flush.ensures.puts)

pub returns : goal.returns
returns g c =
    let octets : AreOctets c.args.piece.now = grind (arith, elements) in
    pauses_flushed g.F.Follow.next g.D.Drain.state _ _ _ _ octets c.requires.empty _ c.in_ok-pause.ensures
    c.in_ok-flush.ensures.puts (search rules)
