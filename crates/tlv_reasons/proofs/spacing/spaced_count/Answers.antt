use Rattle.std.proofs.Common.{arith}
use Rattle.tlv_reasons.specs.Spacing.{last, last_with_gap}
use Rattle.tlv_reasons.proofs.SpacingLemmas.{counted-more, counted-on, none-spaced, spaced-on}
use Rattle.tlv_reasons.proofs.spacing.spaced_count.Goals as goal

pub returns-in_default : goal.returns-in_default
returns-in_default c =
    c.loop-end.invariant.none (λ n s. none-spaced c.args.gap c.args.octets.now c.loop-end.at n c.in_default.ensures.end s)

pub returns-then-end-octets : goal.returns-then-end-octets
returns-then-end-octets c =
    counted-on c.args.gap c.args.octets.now c.loop-end.at c.args.first c.loop-end.count c.loop-end.invariant.found
    (last c.in-Some.ensures.end (omega (arith, c.if-end-octets.true)))

pub returns-then-end-gap : goal.returns-then-end-gap
returns-then-end-gap c =
    counted-on c.args.gap c.args.octets.now c.loop-end.at c.args.first c.loop-end.count c.loop-end.invariant.found
    (last_with_gap c.in-Some.ensures.end (omega (arith, c.if-end-gap.true)))

pub returns-then-end-gap-2 : goal.returns-then-end-gap-2
returns-then-end-gap-2 c =
    c.loop-end.invariant.none
    (λ n s. spaced-on c.args.gap c.args.octets.now c.loop-end.at c.in-Some.end n c.in-Some.ensures.end
    (λ e. absurd (omega (arith, e, c.if-end-octets.false))) (λ e. absurd (omega (arith, e, c.if-end-gap.false)))
    (λ m less more. absurd (omega (arith, less, c.if-end-gap-2.true))) s)

pub loop-end-preserved : goal.loop-end-preserved
loop-end-preserved c = record {
  found = λ n more. counted-more c.args.gap c.args.octets.now c.loop-end.at c.args.first c.in-Some.end c.loop-end.count n
      c.loop-end.invariant.found c.in-Some.ensures.end
      (omega (arith, c.if-end-gap.false, c.if-end-gap-2.false)) more;
  none = λ none. c.loop-end.invariant.none
      (λ n s. spaced-on c.args.gap c.args.octets.now c.loop-end.at c.in-Some.end n c.in-Some.ensures.end
      (λ e. absurd (omega (arith, e, c.if-end-octets.false))) (λ e. absurd (omega (arith, e, c.if-end-gap.false)))
      (λ m less more. none m more) s);
  counted = omega (arith, c.loop-end.invariant.counted, c.in-Some.ensures.within);
}
