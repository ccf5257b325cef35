use Rattle.tlv_reasons.proofs.ShownLemmas.ShownSentences.{sentences-shown}
use Rattle.tlv_reasons.proofs.laws.sentences_are_shown.Goals as goal

pub returns : goal.returns
returns c = sentences-shown
