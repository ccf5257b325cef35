use Rattle.tlv_open.specs.Opens.{closed_framing}
use Rattle.tlv_open.proofs.FinderLemmas.Walks.{ending-count}
use Rattle.tlv_open.proofs.reading.count_read.Goals as goal

pub returns-in-Done : goal.returns-in-Done
returns-in-Done c = λ f r.
    ending-count (closed_framing c.args.padding) c.args.octets.now _ f (rw c.in-Done.is at c.ending_of.ensures) r

pub returns-in-Fault : goal.returns-in-Fault
returns-in-Fault c = λ f r.
    ending-count (closed_framing c.args.padding) c.args.octets.now _ f (rw c.in-Fault.is at c.ending_of.ensures) r
