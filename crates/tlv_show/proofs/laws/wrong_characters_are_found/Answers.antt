use Rattle.tlv_show.proofs.SegmentLemmas.Forests.{wrong_characters_found}
use Rattle.tlv_show.proofs.laws.wrong_characters_are_found.Goals as goal

pub returns : goal.returns
returns c = wrong_characters_found
