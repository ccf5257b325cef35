-- Findings of which a test keeps some.
use Rattle.std.proofs.Common.{◌≡◌, ◌&&◌, Bool, true, false, List, [], ◌∷◌, refl, ap, ◌∙◌}
use Rattle.std.specs.List.{filter}
use Rattle.tlv_value.specs.declared.finding.Finding.{Finding}
use Rattle.tlv_value.specs.Checks.{findings_by}
use Rattle.tlv_value.proofs.CheckLemmas.ListedRows.{kept-found, kept_rows}
use Rattle.tlv_show.specs.declared.rules.Rules.{Rules}
use Rattle.tlv_show.specs.ListedFindings.{findings_under, rules_have}
use Rattle.tlv_show.specs.ShownFindings.{is_listed, listed_by, shown_findings}

-- two tests, one after the other
both-kept : (p q : Finding → Bool) (fs : List Finding) → filter (λ x. p x && q x) fs ≡ filter p (filter q fs)
both-kept p q [] = refl
both-kept p q (f ∷ fs) = by (p f) (q f) refl refl (both-kept p q fs)
  where
    by : (a b : Bool) → p f ≡ a → q f ≡ b → filter (λ x. p x && q x) fs ≡ filter p (filter q fs)
        → filter (λ x. p x && q x) (f ∷ fs) ≡ filter p (filter q (f ∷ fs))
    by true true d e h = rw (e, d) (ap (λ (l : List Finding). f ∷ l) h)
    by true false d e h = rw (e, d) h
    by false true d e h = rw (e, d) h
    by false false d e h = rw (e, d) h

-- the findings by the rules, of the rows whose findings are listed
pub listed-found : (rules : Rules) (rows : List (Finding × Bool))
    → shown_findings (listed_by rules) rows ≡ findings_under rules (kept_rows is_listed rows)
listed-found rules rows =
    both-kept (rules_have rules) is_listed (findings_by rows) ∙ ap (filter (rules_have rules)) (kept-found is_listed rows)
