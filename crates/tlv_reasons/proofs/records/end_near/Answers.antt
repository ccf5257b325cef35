use Rattle.tlv_reasons.proofs.LengthLemmas.{begins-there}
use Rattle.tlv_reasons.proofs.RecordLemmas.{ends-at, ends-far, ends-no_header, ends-open, ends-past}
use Rattle.std.proofs.Common.{arith, length-drop}
use Rattle.tlv_reasons.proofs.records.end_near.Goals as goal

pub returns-then-offset-octets-clause-end : goal.returns-then-offset-octets-clause-end
returns-then-offset-octets-clause-end c = ends-past c.args.octets.now c.args.offset c.if-offset-octets.true

pub returns-in_default-clause-end : goal.returns-in_default-clause-end
returns-in_default-clause-end c = ends-no_header c.args.octets.now c.args.offset c.in_default.ensures

pub returns-in_default-size-clause-end : goal.returns-in_default-size-clause-end
returns-in_default-size-clause-end c =
    ends-open c.args.octets.now c.args.offset c.in-Some.count c.in-Some.fields
    (begins-there c.args.octets.now c.args.offset c.in-Some.count c.in-Some.fields c.in-Some.ensures)
    c.in_default-size.is

pub returns-then-size-octets-clause-end : goal.returns-then-size-octets-clause-end
returns-then-size-octets-clause-end c =
    ends-far c.args.octets.now c.args.offset c.in-Some.count c.in-Some.fields
    (begins-there c.args.octets.now c.args.offset c.in-Some.count c.in-Some.fields c.in-Some.ensures)
    c.in-Definite.size c.in-Definite.is (omega arith)

pub returns-clause-end : goal.returns-clause-end
returns-clause-end c =
    let b = begins-there c.args.octets.now c.args.offset c.in-Some.count c.in-Some.fields c.in-Some.ensures in
    ends-at c.args.octets.now c.args.offset c.in-Some.count c.in-Some.fields b c.in-Definite.size c.in-Definite.is
    (omega (arith, b.within, length-drop c.args.offset c.args.octets.now))
