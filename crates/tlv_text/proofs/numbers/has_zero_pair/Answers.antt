use Rattle.std.proofs.Common.{◌∙◌, arith, sym}
use Rattle.tlv_text.proofs.NumberLemmas.{few-zero_pair}
use Rattle.tlv_text.proofs.numbers.has_zero_pair.Goals as goal

pub returns : goal.returns
returns c =
    sym (c.loop-rest.invariant ∙ few-zero_pair c.loop-rest.rest.now (omega (arith, c.in_default.len_below)))
