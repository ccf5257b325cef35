use Rattle.tlv_open.proofs.LawLemmas.OpenedInputs.{opening-safe}
use Rattle.tlv_open.proofs.laws.opening_is_safe.Goals as goal

pub returns : goal.returns
returns c = opening-safe
