use Rattle.std.proofs.Common.{sym, ◌∙◌}
use Rattle.tlv_text.proofs.RunLemmas.{stretch-more}
use Rattle.tlv_text.proofs.runs.stretch_size.Goals as goal

pub loop-rest-preserved : goal.loop-rest-preserved
loop-rest-preserved c =
    stretch-more c.args.text.now c.loop-rest.rest.now c.break_size.result
    c.in-len1-up.len_at_least (sym c.is_symbol.ensures ∙ c.if-is_symbol.true) c.break_size.ensures.size
    c.break_size.ensures.within c.loop-rest.invariant
