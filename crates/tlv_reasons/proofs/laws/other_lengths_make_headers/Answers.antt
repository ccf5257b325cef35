use Rattle.tlv_reasons.proofs.LawLemmas.{header-said}
use Rattle.tlv_reasons.proofs.laws.other_lengths_make_headers.Goals as goal

pub returns : goal.returns
returns c = header-said
