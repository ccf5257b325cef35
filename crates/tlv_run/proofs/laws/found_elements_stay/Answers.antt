use Rattle.std.proofs.Common.{false}
use Rattle.tlv_run.proofs.ExtractLemmas.LongerInputs.{found_elements_stay}
use Rattle.tlv_run.proofs.laws.found_elements_stay.Goals as goal

pub returns : goal.returns
returns x framing b c f g r s n = found_elements_stay framing b c f g r s n false
