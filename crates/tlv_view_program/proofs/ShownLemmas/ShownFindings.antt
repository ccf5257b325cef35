-- Findings and their lines are printable ASCII.
use Rattle.std.proofs.Common.{ℕ, Bool, List, [], ◌∷◌, drop, refl, subst, sym, take, take-append-drop}
use Rattle.std.specs.Prelude.{flat_map}
use Rattle.std.proofs.lemmas.List.Folds.{list_all-append}
use Rattle.tlv_value.specs.Finding.{finding_code, finding_text}
use Rattle.tlv_value.specs.Names.{NamesValue}
use Rattle.tlv_value.specs.declared.finding.Finding.{Finding}
use Rattle.tlv_value.specs.declared.finding.Finding.TheVariants as finding
use Rattle.tlv_show.specs.Items.{ClosingLine, FindingAt, Item, OpenPrimitiveLines, OpeningLine, PaddingLine}
use Rattle.tlv_show.specs.Items.{PrimitiveLines, items}
use Rattle.tlv_show.specs.ShownFindings.{all_by, wanted_findings}
use Rattle.tlv_show.specs.Site.{top_site}
use Rattle.tlv_show.specs.Texts.{check_line}
use Rattle.tlv_show.specs.declared.rules.Rules.{Rules}
use Rattle.tlv_reasons.specs.Laws.{AreShown}
use Rattle.tlv_reasons.proofs.ShownLemmas.ShownValues.{decimal-shown}
use Rattle.tlv_view_program.specs.Reasons.{AreFirstOctets}
use Rattle.tlv_view_program.proofs.ShownLemmas.ShownLabels.{front-shown, joined-shown}

-- ---- texts

pub wording-shown : (f : Finding) → AreShown (finding_code f) × AreShown (finding_text f)
wording-shown finding.B01 = (refl, refl)
wording-shown finding.B02 = (refl, refl)
wording-shown finding.B03 = (refl, refl)
wording-shown finding.B04 = (refl, refl)
wording-shown finding.B05 = (refl, refl)
wording-shown finding.B06 = (refl, refl)
wording-shown finding.B07 = (refl, refl)
wording-shown finding.B08 = (refl, refl)
wording-shown finding.B09 = (refl, refl)
wording-shown finding.B10 = (refl, refl)
wording-shown finding.B11 = (refl, refl)
wording-shown finding.B12 = (refl, refl)
wording-shown finding.B13 = (refl, refl)
wording-shown finding.B14 = (refl, refl)
wording-shown finding.B15 = (refl, refl)
wording-shown finding.B16 = (refl, refl)
wording-shown finding.B17 = (refl, refl)
wording-shown finding.B18 = (refl, refl)
wording-shown finding.B19 = (refl, refl)
wording-shown finding.B20 = (refl, refl)
wording-shown finding.B21 = (refl, refl)
wording-shown finding.B22 = (refl, refl)
wording-shown finding.B23 = (refl, refl)
wording-shown finding.B24 = (refl, refl)
wording-shown finding.B25 = (refl, refl)
wording-shown finding.B26 = (refl, refl)
wording-shown finding.B27 = (refl, refl)
wording-shown finding.B28 = (refl, refl)
wording-shown finding.B29 = (refl, refl)
wording-shown finding.B30 = (refl, refl)
wording-shown finding.S01 = (refl, refl)
wording-shown finding.S02 = (refl, refl)
wording-shown finding.S03 = (refl, refl)
wording-shown finding.S04 = (refl, refl)
wording-shown finding.S05 = (refl, refl)
wording-shown finding.S06 = (refl, refl)
wording-shown finding.D01 = (refl, refl)
wording-shown finding.D02 = (refl, refl)
wording-shown finding.C01 = (refl, refl)
wording-shown finding.C02 = (refl, refl)
wording-shown finding.C03 = (refl, refl)
wording-shown finding.C04 = (refl, refl)
wording-shown finding.C05 = (refl, refl)
wording-shown finding.C06 = (refl, refl)

check_line-shown : (item : Item) → AreShown (check_line item)
check_line-shown (FindingAt level offset f) =
    simp (list_all-append, decimal-shown, (wording-shown f).0, (wording-shown f).1)
check_line-shown (OpeningLine level h) = refl
check_line-shown (ClosingLine level offset) = refl
check_line-shown (PrimitiveLines level h c) = refl
check_line-shown (OpenPrimitiveLines level h c) = refl
check_line-shown (PaddingLine level offset) = refl

pub check_lines-shown : (xs : List Item) → AreShown (flat_map check_line xs)
check_lines-shown [] = refl
check_lines-shown (x ∷ xs) =
    joined-shown (check_line x) (flat_map check_line xs) (check_line-shown x) (check_lines-shown xs)

-- the first octets that a check writes
pub first_octets-shown : (rules : Rules) (names : NamesValue) (closed padding : Bool) (octets : List ℕ) (room : ℕ)
    (first : List ℕ) → AreFirstOctets rules names closed padding octets room first → AreShown first
first_octets-shown rules names closed padding octets room first x =
    let all : AreShown (flat_map check_line (items (wanted_findings (all_by rules)) top_site x.is_made.reading)) =
    check_lines-shown (items (wanted_findings (all_by rules)) top_site x.is_made.reading) in
    let output : AreShown x.made.output = subst (λ (l : List ℕ). AreShown l) (sym x.is_made.output_is) all in
    subst (λ (l : List ℕ). AreShown l) (sym x.first_are)
    (front-shown (take room x.made.output) (drop room x.made.output)
    (subst (λ (l : List ℕ). AreShown l) (sym (take-append-drop room x.made.output)) output))
