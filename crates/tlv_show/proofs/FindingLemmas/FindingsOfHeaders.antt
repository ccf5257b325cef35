-- Whether a listed finding of some kind is reported, by the conditions.
use Rattle.std.proofs.Common.{◌≡◌, ◌&&◌, ◌||◌, Bool, true, false, List, [], ◌∷◌, ◌++◌, refl, ap, ◌∙◌}
use Rattle.std.specs.List.{filter, list_any}
use Rattle.std.specs.Prelude.{if◌then◌else◌}
use Rattle.tlv_head.specs.Header.{HeaderValue}
use Rattle.tlv_value.specs.declared.finding.Finding.{Finding}
use Rattle.tlv_value.specs.Checks.{findings_by}
use Rattle.tlv_show.specs.declared.rules.Rules.{Rules}
use Rattle.tlv_show.specs.Conditions.{listed_header_conditions}
use Rattle.tlv_show.specs.ListedFindings.{findings_under, rules_have, listed_findings}
use Rattle.tlv_show.specs.Site.{Site}

-- one of the conditions holds whose findings the rules have, and pass the test
abbrev pub any_of : (Finding → Bool) → Rules → List (Finding × Bool) → Bool
any_of test rules [] = false
any_of test rules (row ∷ rows) = (if rules_have rules row.0 && test row.0 then row.1 else false) || any_of test rules rows

-- one condition, and the findings of others
one-found : (test : Finding → Bool) (rules : Rules) (there had asked : Bool) (f : Finding) (fs : List Finding)
    → rules_have rules f ≡ had → test f ≡ asked
    → list_any test (filter (rules_have rules) ((if there then f ∷ [] else []) ++ fs))
    ≡ ((if had && asked then there else false) || list_any test (filter (rules_have rules) fs))
one-found test rules false true true f fs s t = refl
one-found test rules false true false f fs s t = refl
one-found test rules false false asked f fs s t = refl
one-found test rules true true true f fs s t = rw (s, t) refl
one-found test rules true true false f fs s t = rw (s, t) refl
one-found test rules true false asked f fs s t = rw s refl

pub all-found : (test : Finding → Bool) (rules : Rules) (rows : List (Finding × Bool))
    → list_any test (findings_under rules rows) ≡ any_of test rules rows
all-found test rules [] = refl
all-found test rules (row ∷ rows) =
    one-found test rules row.1 (rules_have rules row.0) (test row.0) row.0 (findings_by rows) refl refl
    ∙ ap (λ (b : Bool). (if rules_have rules row.0 && test row.0 then row.1 else false) || b) (all-found test rules rows)

pub found-with_header : (test : Finding → Bool) (rules : Rules) (s : Site) (h : HeaderValue)
    → list_any test ((listed_findings rules).of_header s h) ≡ any_of test rules (listed_header_conditions s h)
found-with_header test rules s h = all-found test rules (listed_header_conditions s h)
