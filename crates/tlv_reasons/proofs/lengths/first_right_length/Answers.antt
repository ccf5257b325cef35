use Rattle.std.proofs.Common.{◌≡◌, ◌-◌, ℕ, true, false, get_or, sym, ◌∙◌}
use Rattle.std.specs.Prelude.{None, Some}
use Rattle.tlv_reasons.proofs.FirstLemmas.{sayable-end, sayable-here, sayable-later, unsayable-later}
use Rattle.tlv_reasons.proofs.lengths.first_right_length.Goals.{else-can_say-via-then-can_say+else-is_mended_with}
use Rattle.tlv_reasons.proofs.lengths.first_right_length.Goals.{else-can_say-via-else-can_say}
use Rattle.tlv_reasons.proofs.lengths.first_right_length.Goals as goal

pub returns-then-is_mended_with-clause-first : goal.returns-then-is_mended_with-clause-first
returns-then-is_mended_with-clause-first c =
    let xs = c.args.lengths.now in
    let i = c.loop-length.length-index in
    c.loop-length.invariant.first (Some (get_or xs i 0))
    (sayable-here (c.args.place.end - c.args.place.start) xs i c.loop-length-test.true
    (sym c.can_say.ensures ∙ c.if-can_say.true) (c.is_mended_with.ensures.mended.0 c.if-is_mended_with.true))

pub loop-length-preserved : goal.loop-length-preserved
loop-length-preserved c =
    let xs = c.args.lengths.now in
    let i = c.loop-length.length-index in
    let w : ℕ = c.args.place.end - c.args.place.start in
    elim c.else-can_say.branch [
      | else-can_say-via-then-can_say+else-is_mended_with b ↦ record {
        copied = b.copy-is ∙ b.is_mended_with.ensures.copied;
        first = λ found f. c.loop-length.invariant.first found
            (sayable-later w xs i c.loop-length-test.true (sym c.can_say.ensures ∙ b.if-can_say.true)
            (λ s. let e : true ≡ false = sym (b.is_mended_with.ensures.mended.1 s) ∙ b.if-is_mended_with.false in cc) f);
      }
      | else-can_say-via-else-can_say b ↦ record {
        copied = b.copy-is ∙ c.loop-length.invariant.copied;
        first = λ found f. c.loop-length.invariant.first found
            (unsayable-later w xs i c.loop-length-test.true (sym c.can_say.ensures ∙ b.if-can_say.false) f);
      }
    ]

pub returns-clause-first : goal.returns-clause-first
returns-clause-first c =
    c.loop-length.invariant.first None
    (sayable-end (c.args.place.end - c.args.place.start) c.args.lengths.now c.loop-length.length-index
    c.loop-length-test.false)
