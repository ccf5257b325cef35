use Rattle.tlv_head.proofs.GrammarLemmas.Headers.{octet-cases, after-octet}
use Rattle.tlv_head.proofs.laws.octets_go_on_or_are_refused.Goals as goal

pub returns : goal.returns
returns c = λ octets x octet begun first. octet-cases octets x first (after-octet octets x octet begun)
