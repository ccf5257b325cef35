use Rattle.tlv_head.proofs.ShortestLemmas.OneShortest.{shortest_are_shortest}
use Rattle.tlv_head.proofs.laws.no_header_is_shorter.Goals as goal

pub returns : goal.returns
returns c = shortest_are_shortest
