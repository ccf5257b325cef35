use Rattle.std.proofs.Common.{◌≡◌, ◌∙◌, ◌-◌, ℕ, Bool, List, ap, arith, drop, length, sym, take}
use Rattle.std.proofs.lemmas.List.{take_rest}
use Rattle.std.specs.Prelude.{None, Some}
use Rattle.tlv_reasons.specs.Doubled.{all_tried, begins_twice, elsewhere, no_more, tried_in_vain, tried_well}
use Rattle.tlv_reasons.proofs.MoveLemmas.{denied}
use Rattle.tlv_reasons.proofs.doubled.first_doubled.Goals.{else-begins_twice, then-begins_twice+in_ok-is_sound_without+else-branch}
use Rattle.tlv_reasons.proofs.doubled.first_doubled.Goals as goal

-- what was said of the octets from an offset on
begins-from : (octets : List ℕ) (size at : ℕ) (said told : Bool)
    → said ≡ begins_twice size (take (length octets - at) (drop at octets)) → said ≡ told
    → begins_twice size (drop at octets) ≡ told
begins-from octets size at said told e t = sym (e ∙ ap (λ o. begins_twice size o) (take_rest octets at)) ∙ t

pub returns-then-tries-eq0 : goal.returns-then-tries-eq0
returns-then-tries-eq0 c = c.loop-at.invariant None (rw c.if-tries-eq0.true all_tried)

pub returns-then-branch : goal.returns-then-branch
returns-then-branch c =
    c.loop-at.invariant (Some c.loop-at.at)
    (tried_well (omega (arith, c.if-tries-eq0.false)) (begins-from c.args.octets.now c.args.size c.loop-at.at _ _ c.begins_twice.ensures c.if-begins_twice.true)
    (c.in_ok-is_sound_without.ensures.0 c.if-branch.true))

pub loop-at-preserved : goal.loop-at-preserved
loop-at-preserved c = λ found f. c.loop-at.invariant found (elim c.if-begins_twice.branch [
  | then-begins_twice+in_ok-is_sound_without+else-branch b ↦ tried_in_vain (omega (arith, c.if-tries-eq0.false))
      (begins-from c.args.octets.now c.args.size c.loop-at.at _ _ c.begins_twice.ensures b.if-begins_twice.true)
      (denied _ b.in_ok-is_sound_without.ensures b.if-branch.false) (rw b.tries-is at f)
  | else-begins_twice b ↦ elsewhere (begins-from c.args.octets.now c.args.size c.loop-at.at _ _ c.begins_twice.ensures b.if-begins_twice.false) (rw b.tries-is at f)
])

pub returns : goal.returns
returns c = c.loop-at.invariant None (no_more (omega (arith, c.loop-at-test.false)))
