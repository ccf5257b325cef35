use Rattle.std.proofs.Common.{◌++◌, arith, ap, length, length-append}
use Rattle.tlv_open.proofs.FinderLemmas.Walks.{way-ended, way-on, way-start}
use Rattle.tlv_open.proofs.reading.walk_on.Goals as goal

pub steps-init : goal.steps-init
steps-init c = record {
  within = omega arith;
  walks = λ framing octets h. way-start framing octets c.args.octets.now c.args.walker.now h;
}

pub steps-preserved : goal.steps-preserved
steps-preserved c =
    let y = c.in-Event.ensures in
    record {
      within =
          omega (
            arith,
            c.steps.invariant.within,
            y.takes.offset,
            ap length y.takes.piece_is,
            length-append y.takes.taken c.step.new.piece.now,
          );
      walks = λ framing octets h.
          way-on framing (octets ++ c.args.octets.now) _ _ _ _ _ (c.steps.invariant.walks framing octets h) y;
    }

pub returns-in-NeedMore-clause-walks : goal.returns-in-NeedMore-clause-walks
returns-in-NeedMore-clause-walks c = λ framing octets h.
    way-ended framing (octets ++ c.args.octets.now) _ _ _ _ _ (c.steps.invariant.walks framing octets h)
    c.step.ensures c.in-NeedMore.is
