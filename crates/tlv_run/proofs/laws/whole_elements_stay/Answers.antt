use Rattle.std.proofs.Common.{false}
use Rattle.tlv_run.proofs.ExtractLemmas.LongerInputs.{same_extract_text, same_found, same_whole}
use Rattle.tlv_run.proofs.laws.whole_elements_stay.Goals as goal

pub returns : goal.returns
returns x framing b c f g r s n e =
    record {
      found = same_found framing b c f g r s n false e;
      whole = same_whole framing b c f g r s n false e;
      text = λ only. same_extract_text framing b c f g r s n only e;
    }
