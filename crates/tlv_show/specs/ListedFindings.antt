-- What is found in an element; and the listed findings there, under each set of rules.
use Rattle.std.specs.Prelude.{ℕ, Bool, List, ◌==◌, slice_index, codes}
use Rattle.std.specs.List.{filter, list_any}
use Rattle.tlv_head.specs.Header.{HeaderValue}
use Rattle.tlv_value.specs.declared.finding.Finding.{Finding}
use Rattle.tlv_value.specs.Checks.{findings_by, listed_contents_conditions}
use Rattle.tlv_value.specs.Finding.{finding_code}
use Rattle.tlv_walk.specs.Forest.{Forest}
use Rattle.tlv_show.specs.declared.rules.Rules.{Rules}
use Rattle.tlv_show.specs.declared.rules.Rules.TheVariants.{Ber, Der, Cer}
use Rattle.tlv_show.specs.Conditions.{headers, listed_end_conditions, listed_header_conditions}
use Rattle.tlv_show.specs.Site.{Site}

-- what is found in an element, given its site and its header
pub record ElementFindings : Type 0 where
  -- with its header
  pub of_header : Site → HeaderValue → List Finding
  -- with the last octet of a primitive with these contents
  pub of_primitive : Site → HeaderValue → List ℕ → List Finding
  -- with the end of an element that held these elements
  pub of_holder : Site → HeaderValue → Forest → List Finding

-- the letters of the codes: B is for all encodings, S for DER and for CER, D for DER alone, C for CER alone
abbrev pub letters : Rules → List ℕ
letters Ber = codes "B"
letters Der = codes "BSD"
letters Cer = codes "BSC"

-- the rules have the finding
abbrev pub rules_have : Rules → Finding → Bool
rules_have rules finding = list_any (λ letter. slice_index (finding_code finding) 0 == letter) (letters rules)

-- the findings whose conditions hold and which the rules have
abbrev pub findings_under : Rules → List (Finding × Bool) → List Finding
findings_under rules conditions = filter (rules_have rules) (findings_by conditions)

-- the listed findings
abbrev pub listed_findings : Rules → ElementFindings
listed_findings rules = record {
  of_header = λ s h. findings_under rules (listed_header_conditions s h);
  of_primitive = λ s h c. findings_under rules (listed_contents_conditions h c);
  of_holder = λ s h children. findings_under rules (listed_end_conditions h (headers children));
}
