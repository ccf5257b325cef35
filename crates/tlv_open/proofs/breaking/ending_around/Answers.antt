use Rattle.std.proofs.Common.{◌≡◌, List, ℕ, ◌++◌, [], ◌∷◌, arith, subst, append_assoc, ap, ◌∙◌}
use Rattle.tlv_walk.specs.Ending.{IsEnding}
use Rattle.tlv_walk.proofs.WalkerLemmas.HasRead.{has_ending}
use Rattle.tlv_open.specs.Breaks.{octets_around, sequence_starts}
use Rattle.tlv_open.specs.Private.Walks.{HasWalkedOver}
use Rattle.tlv_open.proofs.BreakLemmas.Around.{around-length, starts-next}
use Rattle.tlv_open.proofs.breaking.ending_around.Goals as goal

pub loop-preserved : goal.loop-preserved
loop-preserved c = record {
  within = omega (arith, c.walk_on.ensures.within, c.loop.invariant.within);
  walked =
      subst (λ (o : List ℕ). HasWalkedOver c.args.framing.now o c.walk_on.new.walker) (starts-next c.loop.counter)
      (c.walk_on.ensures.walks c.args.framing.now (sequence_starts c.loop.counter) c.loop.invariant.walked);
}

pub walk_on-requires-2 : goal.walk_on-requires-2
walk_on-requires-2 c =
    omega (
      arith,
      c.loop.invariant.within,
      c.loop-test.false,
      c.loop.auto.counter-end,
      c.requires,
      around-length c.args.depth c.args.string.now,
    )

pub walk_on-requires-3 : goal.walk_on-requires-3
walk_on-requires-3 c =
    omega (
      arith,
      c.walk_on-2.ensures.within,
      c.loop.invariant.within,
      c.loop-test.false,
      c.loop.auto.counter-end,
      c.requires,
      around-length c.args.depth c.args.string.now,
    )

pub finish-requires : goal.finish-requires
finish-requires c =
    let framing = c.args.framing.now in
    let starts = sequence_starts c.loop.counter in
    let second = c.walk_on-2.ensures.walks framing starts c.loop.invariant.walked in
    (c.walk_on-3.ensures.walks framing (starts ++ c.args.string.now) second).idle

pub returns : goal.returns
returns c =
    let framing = c.args.framing.now in
    let starts = sequence_starts c.loop.counter in
    let second = c.walk_on-2.ensures.walks framing starts c.loop.invariant.walked in
    let walked = c.walk_on-3.ensures.walks framing (starts ++ c.args.string.now) second in
    let ends =
    has_ending _ ((starts ++ c.args.string.now) ++ 5 ∷ 0 ∷ []) walked.yielded _ c.finish.ensures.ending
    c.finish.ensures.refused walked.at_end in
    let counter : c.loop.counter ≡ c.args.depth = omega (arith, c.loop-test.false, c.loop.auto.counter-end) in
    let same : (starts ++ c.args.string.now) ++ 5 ∷ 0 ∷ [] ≡ octets_around c.args.depth c.args.string.now =
    append_assoc starts c.args.string.now (5 ∷ 0 ∷ [])
    ∙ ap (λ (n : ℕ). octets_around n c.args.string.now) counter in
    subst (λ (o : List ℕ). IsEnding framing o c.finish.result) same
    (rw walked.framing_is at ends.is_ending)
