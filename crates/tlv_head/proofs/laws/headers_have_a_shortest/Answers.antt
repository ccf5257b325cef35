use Rattle.tlv_head.proofs.ShortestLemmas.ShortestSpelling.{shortest-there}
use Rattle.tlv_head.proofs.laws.headers_have_a_shortest.Goals as goal

pub returns : goal.returns
returns c = shortest-there
