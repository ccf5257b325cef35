use Rattle.tlv_reasons.proofs.LengthLemmas.{flipped-below}
use Rattle.tlv_reasons.proofs.tried_lengths.flipped.Goals as goal

pub returns-then-said-value-eq0-clause-below : goal.returns-then-said-value-eq0-clause-below
returns-then-said-value-eq0-clause-below c =
    flipped-below c.args.said c.args.bit c.pow-value.result c.requires.said c.requires.bit c.pow-value.ensures
