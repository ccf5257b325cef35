-- The findings in an element, by which findings are wanted.
use Rattle.std.specs.Prelude.{ℕ, Bool, true, false, ◌&&◌, if◌then◌else◌, List, [], ◌∷◌}
use Rattle.std.specs.List.{filter}
use Rattle.tlv_head.specs.Header.{HeaderValue}
use Rattle.tlv_value.specs.declared.finding.Finding.{Finding}
use Rattle.tlv_value.specs.declared.finding.Finding.TheVariants.{B28, S05, S06, D01, D02, C01, C02, C03, C04, C05, C06}
use Rattle.tlv_value.specs.AllChecks.{contents_conditions}
pub use Rattle.tlv_value.specs.AllChecks.{is_listed}
use Rattle.tlv_value.specs.Checks.{findings_by}
use Rattle.tlv_walk.specs.Forest.{Forest}
use Rattle.tlv_show.specs.declared.rules.Rules.{Rules}
use Rattle.tlv_show.specs.declared.scope.Scope.{Scope}
use Rattle.tlv_show.specs.declared.scope.Scope.TheVariants.{Listed, All}
use Rattle.tlv_show.specs.declared.wanted.Wanted.{Wanted}
use Rattle.tlv_show.specs.AllConditions.{end_conditions, header_conditions}
use Rattle.tlv_show.specs.Conditions.{headers}
use Rattle.tlv_show.specs.ListedFindings.{ElementFindings, rules_have}
use Rattle.tlv_show.specs.SegmentCharacters.{has_wrong_characters}
use Rattle.tlv_show.specs.SetOrder.{Element, holder_element, is_out_of_order_at, primitive_element}
use Rattle.tlv_show.specs.Site.{Site}

-- ---- Which findings are wanted

-- the scope has the finding
abbrev pub is_within : Scope → Finding → Bool
is_within Listed finding = is_listed finding
is_within All finding = true

abbrev pub is_shown : Wanted → Finding → Bool
is_shown wanted finding = rules_have wanted.rules finding && is_within wanted.scope finding

-- the listed findings by these rules, and all
abbrev pub listed_by : Rules → Wanted
listed_by rules = record { rules = rules; scope = Listed }

abbrev pub all_by : Rules → Wanted
all_by rules = record { rules = rules; scope = All }

-- ---- What is found

-- of the findings by these conditions, the findings that are wanted
abbrev pub shown_findings : Wanted → List (Finding × Bool) → List Finding
shown_findings wanted conditions = filter (is_shown wanted) (findings_by conditions)

-- the findings of a header, on the contents of a primitive, and of the end of a holder, from its
-- header and the headers of what it held
abbrev pub header_findings : Wanted → Site → HeaderValue → List Finding
header_findings wanted s h = shown_findings wanted (header_conditions s h)

abbrev pub contents_findings : Wanted → HeaderValue → List ℕ → List Finding
contents_findings wanted h c = shown_findings wanted (contents_conditions h c)

abbrev pub end_findings : Wanted → HeaderValue → List HeaderValue → List Finding
end_findings wanted h children = shown_findings wanted (end_conditions h children)

-- ---- With the characters of segments

-- B28 is wanted
abbrev pub wants_characters : Wanted → Bool
wants_characters wanted = is_shown wanted B28

-- B28 and other findings of the end of a string. A string has no B27, so that B28 comes first
abbrev pub with_characters_if : Bool → List Finding → List Finding
with_characters_if wrong findings = if wrong then B28 ∷ findings else findings

-- the findings of the end of a holder, without the order of a SET
abbrev pub held_findings : Wanted → HeaderValue → Forest → List Finding
held_findings wanted h children =
    with_characters_if (wants_characters wanted && has_wrong_characters h children)
    (end_findings wanted h (headers children))

-- ---- With the order of a SET

-- the code comes after S05
abbrev pub comes_after_order : Finding → Bool
comes_after_order S06 = true
comes_after_order D01 = true
comes_after_order D02 = true
comes_after_order C01 = true
comes_after_order C02 = true
comes_after_order C03 = true
comes_after_order C04 = true
comes_after_order C05 = true
comes_after_order C06 = true
comes_after_order finding = false

-- S05 among these findings, in the order of the codes
abbrev pub with_order : List Finding → List Finding
with_order [] = S05 ∷ []
with_order (f ∷ fs) = if comes_after_order f then S05 ∷ f ∷ fs else f ∷ with_order fs

abbrev pub with_order_if : Bool → List Finding → List Finding
with_order_if out_of_order findings = if out_of_order then with_order findings else findings

-- S05 is wanted
abbrev pub wants_order : Wanted → Bool
wants_order wanted = is_shown wanted S05

-- the findings that a whole element has with its last octet, if these are the others
abbrev pub last_findings : Wanted → Site → Element → List Finding → List Finding
last_findings wanted s e others =
    with_order_if (wants_order wanted && is_out_of_order_at wanted.rules s e) others

-- ---- All that is found

-- what is found of the findings that are wanted
abbrev pub wanted_findings : Wanted → ElementFindings
wanted_findings wanted = record {
  of_header = λ s h. header_findings wanted s h;
  of_primitive = λ s h c. last_findings wanted s (primitive_element h c) (contents_findings wanted h c);
  of_holder = λ s h children. last_findings wanted s (holder_element h children) (held_findings wanted h children);
}
