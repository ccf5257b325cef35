use Rattle.std.proofs.Common.{arith}
use Rattle.tlv_open.proofs.BreakLemmas.Around.{around-framing, around-length, breaks-done, breaks-within}
use Rattle.tlv_open.proofs.breaking.fault_in.Goals as goal

pub returns-then-end-gt-INPUT_LIMIT : goal.returns-then-end-gt-INPUT_LIMIT
returns-then-end-gt-INPUT_LIMIT c = λ f b.
    absurd (omega (
      arith,
      b.within_limit,
      around-length c.args.depth c.args.string.now,
      c.from-before.ensures,
      c.if-end-gt-INPUT_LIMIT.true,
    ))

pub ending_around-requires : goal.ending_around-requires
ending_around-requires c =
    omega (arith, around-length c.args.depth c.args.string.now, c.from-before.ensures, c.if-end-gt-INPUT_LIMIT.false)

pub returns-in-Fault : goal.returns-in-Fault
returns-in-Fault c = record {
  within_limit =
      omega (arith, around-length c.args.depth c.args.string.now, c.from-before.ensures, c.if-end-gt-INPUT_LIMIT.false);
  is_ending =
      around-framing c.args.depth _ _ c.args.string.now _ c.in_ok-lent.ensures.0 (omega (arith, c.from-before.ensures))
      c.in-Fault.ensures;
  within_string = omega (arith, c.if-fault-end.true, c.from-before.ensures);
}

pub returns-in_default : goal.returns-in_default
returns-in_default c =
    breaks-within c.args.depth c.args.string.now c.in-Fault.fault
    (around-framing c.args.depth _ _ c.args.string.now _ c.in_ok-lent.ensures.0 (omega (arith, c.from-before.ensures))
    c.in-Fault.ensures)
    (omega (arith, c.if-fault-end.false, c.from-before.ensures))

pub returns-in_default-2 : goal.returns-in_default-2
returns-in_default-2 c =
    breaks-done c.args.depth c.args.string.now
    (around-framing c.args.depth _ _ c.args.string.now _ c.in_ok-lent.ensures.0 (omega (arith, c.from-before.ensures))
    c.in_default.ensures)
