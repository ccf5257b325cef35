use Rattle.std.proofs.Common.{◌≡◌, ◌∙◌, Bool, false, sym, true}
use mathlib.Core.Bool.{true≢false}
use Rattle.tlv_reasons.specs.Remedies.{IsTextChange as change}
use Rattle.tlv_reasons.proofs.text_changes.text_change.Goals as goal

-- it does not hold, since the test that tells says so
refuted : {P : Type 0} (test : Bool) → (P → test ≡ true) → test ≡ false → P → ⊥
refuted test tells e p = true≢false (sym (tells p) ∙ e)

pub returns-then-branch : goal.returns-then-branch
returns-then-branch c = change.utf8 (c.in_ok-undone_utf8.ensures.0 c.if-branch.true)

pub returns-then-branch-2 : goal.returns-then-branch-2
returns-then-branch-2 c =
    change.line_ends (refuted _ c.in_ok-undone_utf8.ensures.1 c.if-branch.false)
    (c.in_ok-undone_line_ends.ensures.0 c.if-branch-2.true)

pub returns-then-has_replacement : goal.returns-then-has_replacement
returns-then-has_replacement c =
    change.replaced (refuted _ c.in_ok-undone_utf8.ensures.1 c.if-branch.false)
    (refuted _ c.in_ok-undone_line_ends.ensures.1 c.if-branch-2.false)
    (sym c.has_replacement.ensures ∙ c.if-has_replacement.true)

pub returns-else-has_replacement : goal.returns-else-has_replacement
returns-else-has_replacement c =
    change.none (refuted _ c.in_ok-undone_utf8.ensures.1 c.if-branch.false)
    (refuted _ c.in_ok-undone_line_ends.ensures.1 c.if-branch-2.false)
    (sym c.has_replacement.ensures ∙ c.if-has_replacement.false)
