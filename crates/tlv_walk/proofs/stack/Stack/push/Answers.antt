use Rattle.std.proofs.Common.{◌≢◌, ◌-◌, ◌^◌, ◌<◌, arith, rules, subst, sym}
use Rattle.tlv_walk.specs.declared.stack.FrameKind.{FrameKind}
use Rattle.tlv_walk.specs.Private.FrameFields.{HasEnd}
use Rattle.tlv_walk.proofs.StackLemmas.{length-frames, more_indefinite}
use Rattle.tlv_walk.proofs.stack.Stack.push.Goals.{then-wrapper, else-wrapper}
use Rattle.tlv_walk.proofs.stack.Stack.push.Goals as goal

pub push-requires : goal.push-requires
push-requires c =
    let shallow = c.requires.shallow in
    let e = length-frames c.self.inside.innermost c.self.inside.outer _ c.self.view_is in
    search (rules, e)

pub invariant_of-self : goal.invariant_of-self
invariant_of-self c =
    let below : c.in-Some.end < 2 ^ 64 - 1 = rw c.in-Some.is at c.requires.end in
    let apart : c.in-Some.end ≢ 2 ^ 64 - 1 = λ q. omega arith in
    let known : HasEnd c.if-wrapper.self c.in-Some.end = elim c.if-wrapper.branch [
      | then-wrapper w ↦ subst (λ (k : FrameKind). HasEnd k c.in-Some.end) (sym w.self-is) apart
      | else-wrapper w ↦ subst (λ (k : FrameKind). HasEnd k c.in-Some.end) (sym w.self-is) apart
    ] in rw c.push.ensures (known, c.self.invariant)

pub invariant_of-self-in-None : goal.invariant_of-self-in-None
invariant_of-self-in-None c = rw c.push.ensures (tt, c.self.invariant)

pub returns-in-None : goal.returns-in-None
returns-in-None c = rw c.push.ensures
    (more_indefinite c.self.inside.innermost c.self.inside.outer c.args.self.now c.args.end c.args.wrapper
    c.self.invariant c.self.view_is c.in-None.is c.requires.definite)
