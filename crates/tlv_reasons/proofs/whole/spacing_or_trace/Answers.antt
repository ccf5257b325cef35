use Rattle.std.proofs.Common.{refl}
use Rattle.tlv_reasons.specs.FirstOf.{first, next}
use Rattle.tlv_reasons.proofs.whole.spacing_or_trace.Goals as goal

pub returns-in-Some : goal.returns-in-Some
returns-in-Some c = first (rw c.in-Some.is at c.spaced_encodings.ensures)

pub returns-in-Some-trace_of : goal.returns-in-Some-trace_of
returns-in-Some-trace_of c =
    next (rw c.in-None.is at c.spaced_encodings.ensures) (first (rw c.in-Some-trace_of.is at c.trace_of.ensures))

pub returns-in-None-trace_of : goal.returns-in-None-trace_of
returns-in-None-trace_of c =
    next (rw c.in-None.is at c.spaced_encodings.ensures) (next (rw c.in-None-trace_of.is at c.trace_of.ensures) refl)
