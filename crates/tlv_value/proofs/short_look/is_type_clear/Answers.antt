use Rattle.std.proofs.Common.{sym, ◌∙◌, arith}
use Rattle.std.proofs.lemmas.Bool.Decides.{nat_tests}
use Rattle.tlv_value.proofs.CheckLemmas.ClearStrings.{fours-clear, twos-clear, utf8-clear}
use Rattle.tlv_value.proofs.CheckLemmas.KeptFindings.{date-clear, iri-clear}
use Rattle.tlv_value.proofs.short_look.is_type_clear.Goals as goal

pub returns-in-9-clause-contents : goal.returns-in-9-clause-contents
returns-in-9-clause-contents c =
    λ h. rw c.in-9.is (c.is_clear_real.ensures h)

pub returns-in-12-clause-contents : goal.returns-in-12-clause-contents
returns-in-12-clause-contents c =
    λ h. rw c.in-12.is (utf8-clear c.args.contents.now (sym c.is_utf8.ensures ∙ h))

pub returns-then-contents-eq0-clause-contents : goal.returns-then-contents-eq0-clause-contents
returns-then-contents-eq0-clause-contents c =
    λ h. rw c.in-28.is
    (fours-clear c.args.contents.now c.if-contents-eq0.true (sym c.are_characters_of_four.ensures ∙ h))

pub returns-then-contents-eq0-2-clause-contents : goal.returns-then-contents-eq0-2-clause-contents
returns-then-contents-eq0-2-clause-contents c =
    λ h. rw c.in-30.is
    (twos-clear c.args.contents.now c.if-contents-eq0-2.true (sym c.are_characters_of_two.ensures ∙ h))

pub returns-in-31-clause-contents : goal.returns-in-31-clause-contents
returns-in-31-clause-contents c =
    λ h. date-clear c.args.number c.args.contents.now (grind (arith, nat_tests)) (sym c.is_date_or_time.ensures ∙ h)

pub returns-in-35-clause-contents : goal.returns-in-35-clause-contents
returns-in-35-clause-contents c =
    λ h. iri-clear c.args.number c.args.contents.now (grind (arith, nat_tests)) (sym c.is_iri.ensures ∙ h)
