use Rattle.tlv_show.proofs.FindingLemmas.Spellings.{spelled-alike}
use Rattle.tlv_show.proofs.laws.one_spelling.Goals as goal

pub returns : goal.returns
returns c = spelled-alike
