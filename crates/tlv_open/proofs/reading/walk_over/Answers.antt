use Rattle.std.proofs.Common.{[], refl}
use Rattle.tlv_open.proofs.FinderLemmas.Walks.{way-first}
use Rattle.tlv_open.proofs.reading.walk_over.Goals as goal

pub returns : goal.returns
returns c =
    c.walk_on.ensures.walks c.args.framing.now []
    (way-first c.args.framing.now c.new-walker.result (rw c.new-walker.ensures.state refl) c.new-walker.ensures.stands
    c.new-walker.ensures.ready.0)
