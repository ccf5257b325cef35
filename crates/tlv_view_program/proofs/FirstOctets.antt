-- The first octets that a check writes, by what its drain shows.
use Rattle.std.proofs.Common.{◌≡◌, ◌==◌, ℕ, true, ◌<◌, ◌≤◌, slice_index_or, Fits, w8, Bool, false, List, [], ◌∷◌, length}
use Rattle.std.proofs.Common.{ap, arith, inl, inr, refl, subst, sym, take_all}
use Rattle.arrayvec.specs.ArrayVec.{ArrayVec}
use Rattle.std.proofs.lemmas.Bool.{cases_lt, eqb-true, true≢false}
use Rattle.std.specs.Prelude.{Some}
use Rattle.tlv_head.specs.Limits.{input_limit}
use Rattle.tlv_io.specs.Device.{DrainState, new_source}
use Rattle.tlv_open.specs.Laws.{opened_framing}
use Rattle.tlv_run.proofs.InMemory.{runs_octets}
use Rattle.tlv_open.proofs.FinderLemmas.Inputs.{octets-fit}
use Rattle.tlv_run.specs.Report.{ReportValue}
use Rattle.tlv_run.specs.Results.{IsResult}
use Rattle.tlv_run.specs.RunsOctets.{RunsOctets}
use Rattle.tlv_show.proofs.DumpLemmas.LongerInputs.{checks_on}
use Rattle.tlv_show.specs.ShownFindings.{all_by}
use Rattle.tlv_show.specs.declared.rules.Rules.{Rules}
use Rattle.tlv_show.specs.declared.rules.Rules.TheVariants.{Der}
use Rattle.tlv_value.specs.Names.{NamesValue}
use Rattle.tlv_view_program.specs.Reasons.{AreFirstFindings, AreFirstOctets, findings_room, none, some}
use Rattle.tlv_view_program.specs.Views.{Views, job_of_view}
use Rattle.tlv_view_program.specs.declared.view_call.View.TheVariants as view

module _ (rules : Rules) (table : NamesValue) (closed padding : Bool) (octets : List ℕ)
    (fit : (i : ℕ) → Fits w8 (slice_index_or octets i 0)) (short : length octets ≤ input_limit) (room : ℕ)
    (from to : DrainState) (from_is : from ≡ record { octets = Some []; failures = 0 }) (written : ArrayVec ℕ)
    (took : to.octets ≡ Some written.items) (fits : length written.items ≤ room)
    (full_if_failed : length written.items < room → to.failures ≡ 0) (report : ReportValue) where
  failed-full : to.failures ≡ 1 → length written.items ≡ room
  failed-full one = elim (cases_lt (length written.items) room) [
    | inl less ↦ let none = full_if_failed less in absurd (cc (one, none))
    | inr more ↦ omega (arith, fits, more)
  ]

  -- a check that is viewed writes these octets first
  pub first-of-view : Views (view.Check rules) table closed padding octets from to report
      → AreFirstOctets rules table closed padding octets room written.items
  first-of-view v =
      let job = job_of_view (view.Check rules) (opened_framing padding v.offsets) table in
      let x : RunsOctets job octets false room written.items report =
      runs_octets job (λ b c f g r s e. absurd (true≢false (sym e)))
      (checks_on (all_by rules) (opened_framing padding v.offsets)) octets (octets-fit octets fit) false
      (new_source (Some octets)) v.source from to room written.items refl refl (λ k. absurd (cc (k, v.no_failures)))
      (λ _ _. refl) (ap (λ (s : DrainState). s.octets) from_is) (ap (λ (s : DrainState). s.failures) from_is) took fits
      failed-full report v.runs in
      record {
        offsets = v.offsets;
        are_opened = v.are_opened;
        made = x.made;
        is_made = subst (λ (o : List ℕ). IsResult job o x.made) (take_all input_limit octets short) x.is_made;
        first_are = x.written_is;
      }

-- a message that is not empty has a number of findings
pub some-findings : (table : NamesValue) (closed padding : Bool) (octets message first : List ℕ)
    → (message ≡ [] → ⊥) → AreFirstOctets Der table closed padding octets findings_room first
    → AreFirstFindings table closed padding octets message first
some-findings table closed padding octets [] first k f = absurd (k refl)
some-findings table closed padding octets (x ∷ message) first k f = some f

-- an empty one has none
pub no-findings : (table : NamesValue) (closed padding : Bool) (octets message first : List ℕ)
    → (length message == 0) ≡ true → first ≡ [] → AreFirstFindings table closed padding octets message first
no-findings table closed padding octets [] first e f = rw f none
no-findings table closed padding octets (x ∷ message) first e f =
    let size : length (x ∷ message) ≡ 0 = eqb-true (length (x ∷ message)) 0 e in absurd (omega (arith, size))
