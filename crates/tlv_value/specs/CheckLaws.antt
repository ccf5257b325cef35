-- Laws of the findings on contents.
use Rattle.std.specs.Str.{is_utf8}
use Rattle.std.specs.List.{filter, list_all}
use Rattle.std.specs.Prelude.{◌≡◌, ◌↔◌, ℕ, true, List, ◌++◌, IsUtf8}
use Rattle.tlv_head.specs.Header.{HasAllContents, HeaderValue}
use Rattle.tlv_head.specs.declared.kind.Kind.TheVariants.{Utf8}
use Rattle.tlv_value.specs.AllChecks.{all_contents_findings, is_listed}
use Rattle.tlv_value.specs.Checks.{findings_by, listed_contents_conditions}
use Rattle.tlv_value.specs.ValueCheckState.{ValueCheckState, findings_in, value_check_for}
use Rattle.tlv_value.specs.ValueCheckState.{value_check_after}
use Rattle.tlv_value.specs.Rows.{rows_of}

-- two pieces, one after the other, have the effect of one
abbrev pub ChecksJoin : Type 0
ChecksJoin = (s : ValueCheckState) (x y : List ℕ)
    → value_check_after (value_check_after s x) y ≡ value_check_after s (x ++ y)

-- at the end of the contents exactly the findings on them are reported
abbrev pub FindingsEnd : Type 0
FindingsEnd =
    (h : HeaderValue) (octets : List ℕ) → HasAllContents h octets
    → findings_in (value_check_for h octets) ≡ all_contents_findings h octets

-- all findings on contents, without those that are not listed, are the findings by the listed conditions, in the same
-- order
abbrev pub ListedFindingsStay : Type 0
ListedFindingsStay =
    (h : HeaderValue) (octets : List ℕ)
    → filter is_listed (all_contents_findings h octets) ≡ findings_by (listed_contents_conditions h octets)

-- contents are well-formed UTF-8 if and only if each of their rows is
abbrev pub RowsAreUtf8 : Type 0
RowsAreUtf8 = (octets : List ℕ) → IsUtf8 octets ↔ (list_all is_utf8 (rows_of Utf8 octets) ≡ true)
