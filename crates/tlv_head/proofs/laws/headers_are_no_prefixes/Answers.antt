use Rattle.std.proofs.Common.{refl}
use Rattle.tlv_head.specs.Header.{octets_of}
use Rattle.tlv_head.proofs.GrammarLemmas.Headers.{prefix-no_header}
use Rattle.tlv_head.proofs.laws.headers_are_no_prefixes.Goals as goal

pub returns : goal.returns
returns c = λ h valid prefix. prefix-no_header (octets_of h) h prefix valid refl
