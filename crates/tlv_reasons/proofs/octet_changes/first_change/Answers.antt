use Rattle.std.specs.Prelude.{None, Some}
use Rattle.tlv_reasons.proofs.OctetLemmas.{change-here, change-later, changes-end}
use Rattle.tlv_reasons.proofs.octet_changes.first_change.Goals as goal

pub returns-in-Some : goal.returns-in-Some
returns-in-Some c =
    c.loop-candidate.invariant (Some c.in-Some.change)
    (change-here c.args.framing.now c.args.octets.now c.args.candidates.now c.loop-candidate.candidate-index
    c.loop-candidate-test.true (rw c.in-Some.is at c.in_ok-change.ensures))

pub loop-candidate-preserved : goal.loop-candidate-preserved
loop-candidate-preserved c = λ found f. c.loop-candidate.invariant found
    (change-later c.args.framing.now c.args.octets.now c.args.candidates.now c.loop-candidate.candidate-index
    c.loop-candidate-test.true (rw c.in_default.is at c.in_ok-change.ensures) f)

pub returns : goal.returns
returns c =
    c.loop-candidate.invariant None
    (changes-end c.args.framing.now c.args.octets.now c.args.candidates.now c.loop-candidate.candidate-index
    c.loop-candidate-test.false)
