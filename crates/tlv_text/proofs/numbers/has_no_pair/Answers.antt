use Rattle.std.proofs.Common.{◌∙◌, arith, sym}
use Rattle.tlv_text.proofs.NumberLemmas.{few-no_pair}
use Rattle.tlv_text.proofs.numbers.has_no_pair.Goals as goal

pub returns : goal.returns
returns c =
    sym (c.loop-rest.invariant ∙ few-no_pair c.loop-rest.rest.now (omega (arith, c.in_default.len_below)))
