use Rattle.std.proofs.Common.{◌≡◌, ◌+◌, ◌-◌, ◌*◌, ◌%◌, ◌<◌, ◌^◌, ◌∙◌, arith, lit<, subst}
use Rattle.std.proofs.lemmas.Nat.{mod_below}
use Rattle.tlv_reasons.proofs.LengthLemmas.{front-below, front-fits, more-front, reversed-step}
use Rattle.tlv_reasons.proofs.tried_lengths.reversed.Goals as goal

pub overflow_mul-front : goal.overflow_mul-front
overflow_mul-front c =
    let small = front-fits (c.args.count - c.loop-left.left) c.loop-left.front
    (omega (arith, c.requires, c.loop-left-test.true, c.loop-left.invariant.few)) c.loop-left.invariant.below in
    omega (arith, small)

pub overflow_add-front : goal.overflow_add-front
overflow_add-front c =
    let small = front-fits (c.args.count - c.loop-left.left) c.loop-left.front
    (omega (arith, c.requires, c.loop-left-test.true, c.loop-left.invariant.few)) c.loop-left.invariant.below in
    omega (arith, small, mod_below c.loop-left.rest 256 (lit< tt))

pub loop-left-preserved : goal.loop-left-preserved
loop-left-preserved c =
    let next : (c.args.count - c.loop-left.left) + 1 ≡ c.args.count - (c.loop-left.left - 1) =
    omega (arith, c.loop-left-test.true, c.loop-left.invariant.few) in
    record {
      few = omega (arith, c.loop-left.invariant.few);
      same =
          c.loop-left.invariant.same
          ∙ reversed-step c.loop-left.left c.loop-left.rest c.loop-left.front c.loop-left-test.true;
      below =
          subst (λ n. c.loop-left.front * 256 + c.loop-left.rest % 256 < 256 ^ n) next
          (more-front (c.args.count - c.loop-left.left) c.loop-left.front (c.loop-left.rest % 256)
          c.loop-left.invariant.below (mod_below c.loop-left.rest 256 (lit< tt)));
    }

pub returns-clause-below : goal.returns-clause-below
returns-clause-below c =
    let small = front-below (c.args.count - c.loop-left.left) c.loop-left.front (omega (arith, c.requires))
    c.loop-left.invariant.below in
    omega (arith, small)
