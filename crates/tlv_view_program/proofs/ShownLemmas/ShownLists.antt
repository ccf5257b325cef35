-- Lists of findings and of offsets, as they are written, are printable ASCII.
use Rattle.std.proofs.Common.{◌==◌, ℕ, Bool, true, false, List, [], ◌∷◌}
use Rattle.std.proofs.Common.{length, refl}
use Rattle.std.proofs.lemmas.List.Folds.{list_all-append}
use Rattle.tlv_io.specs.Device.{DrainState}
use Rattle.tlv_value.specs.Names.{NamesValue}
use Rattle.tlv_show.specs.Items.{items}
use Rattle.tlv_show.specs.ShownFindings.{all_by, wanted_findings}
use Rattle.tlv_show.specs.Site.{top_site}
use Rattle.tlv_show.specs.declared.rules.Rules.{Rules}
use Rattle.tlv_run.specs.Report.{ReportValue}
use Rattle.tlv_view_program.specs.Offsets.{listed_offset, offsets_line}
use Rattle.tlv_view_program.specs.Views.{Views}
use Rattle.tlv_view_program.specs.declared.view_call.View.TheVariants as view
use Rattle.tlv_reasons.specs.Laws.{AreShown}
use Rattle.tlv_reasons.proofs.ShownLemmas.ShownValues.{decimal-shown}
use Rattle.tlv_view_program.specs.ShownLines.{TakesShown}
use Rattle.tlv_view_program.proofs.ShownLemmas.ShownFindings.{check_lines-shown}
use Rattle.tlv_view_program.proofs.ShownLemmas.ShownLabels.{joined-shown}
use Rattle.tlv_view_program.proofs.ShownLemmas.ShownReasons.{sends-shown}

-- ---- offsets

listed-shown : (offset : ℕ) (is_last : Bool) → AreShown (listed_offset offset is_last)
listed-shown offset true = simp (list_all-append, decimal-shown)
listed-shown offset false = simp (list_all-append, decimal-shown)

pub offsets_line-shown : (offsets : List ℕ) → AreShown (offsets_line offsets)
offsets_line-shown [] = refl
offsets_line-shown (offset ∷ offsets) =
    joined-shown (listed_offset offset (length offsets == 0)) (offsets_line offsets)
    (listed-shown offset (length offsets == 0)) (offsets_line-shown offsets)

-- ---- octets

pub check-takes : (rules : Rules) (names : NamesValue) (closed padding : Bool) (octets : List ℕ) (old new : DrainState)
    (report : ReportValue)
    → Views (view.Check rules) names closed padding octets old new report → TakesShown old new
check-takes rules names closed padding octets old new report x =
    sends-shown old new _ _ (check_lines-shown (items (wanted_findings (all_by rules)) top_site x.runs.runs.reading)) x.runs.runs.sends
