use Rattle.std.proofs.Common.{sym, drop, ◌∙◌, arith}
use Rattle.tlv_show.proofs.SetOrderLemmas.Compared.{past_stays}
use Rattle.tlv_show.proofs.set_frame.compare_octets.Goals as goal

pub returns-then-at-ge-COMPARED : goal.returns-then-at-ge-COMPARED
returns-then-at-ge-COMPARED c =
    let l = c.loop-octet in
    sym
    (past_stays l.frame (drop l.octet-index c.args.octets.now)
    (omega (arith, c.if-at-ge-COMPARED.true, c.from-at.ensures)))
    ∙ l.invariant
