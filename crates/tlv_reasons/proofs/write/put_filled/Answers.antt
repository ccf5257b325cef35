use Rattle.std.proofs.Common.{rules}
use Rattle.tlv_reasons.proofs.FilledLemmas.{filled-failed, filled-more}
use Rattle.tlv_reasons.proofs.write.put_filled.Goals as goal

pub returns-in_err-put_octet_or_value : goal.returns-in_err-put_octet_or_value
returns-in_err-put_octet_or_value g c =
    filled-failed g.D.Drain.state _ _ _ c.args.octets.now c.args.words.now c.args.values.now c.loop-octet.octet-index _ _ _
    _ c.loop-octet-test.true c.loop-octet.invariant c.in_err-put_octet_or_value.ensures (search rules)

pub loop-octet-preserved : goal.loop-octet-preserved
loop-octet-preserved g c =
    rw c.values_after-left.ensures
    (filled-more g.D.Drain.state _ _ _ c.args.octets.now c.args.words.now c.args.values.now c.loop-octet.octet-index _ _
    c.loop-octet-test.true c.loop-octet.invariant c.in_ok-put_octet_or_value.ensures)
