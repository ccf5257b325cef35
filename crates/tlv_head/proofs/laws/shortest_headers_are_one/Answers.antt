use Rattle.tlv_head.proofs.ShortestLemmas.OneShortest.{shortest_are_one}
use Rattle.tlv_head.proofs.laws.shortest_headers_are_one.Goals as goal

pub returns : goal.returns
returns c = shortest_are_one
