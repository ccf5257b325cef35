-- Which status an input comes to.
use Rattle.std.proofs.Common.{◌≡◌, ◌==◌, ℕ, Bool, true, false, refl, sym, ap, ◌∙◌, subst}
use Rattle.std.specs.Prelude.{Option, Some, None}
use Rattle.tlv_run.specs.CutLaws.{has_element_at}
use Rattle.tlv_show.specs.declared.outcome.Outcome.{Outcome}
use Rattle.tlv_show.specs.ShowJob.{check_job, dump_job}
use Rattle.tlv_value.specs.Names.{NamesValue}
use Rattle.tlv_walk.proofs.FollowerLemmas.Enough.{ends_as_octets}
use Rattle.tlv_walk.proofs.GrammarLemmas.Endings.{done-sound, sound-done}
use Rattle.tlv_walk.proofs.GrammarLemmas.OneEnding.{ending-unique}
use Rattle.tlv_walk.specs.declared.ending.Ending.{Ending}
use Rattle.tlv_walk.specs.declared.ending.Ending.TheVariants as ending
use Rattle.tlv_walk.specs.Ending.{IsEnding}
use Rattle.tlv_walk.specs.Forest.{Forest}
use Rattle.tlv_run.specs.Laws.{StatusesShowSoundness}
use Rattle.tlv_run.specs.Report.{ReportValue, cut_report, outcome_report}
use Rattle.tlv_run.specs.Results.{command_job}
use Rattle.tlv_run.specs.declared.command.Command.{Command}
use Rattle.tlv_run.specs.declared.command.Command.TheVariants.{Check, Dump, Extract, Indef}

-- what is reported if there is no fault
outcome_quiet : (outcome : Outcome) (unused : Option ℕ) (none : Bool) → outcome.ending ≡ ending.Done
    → outcome.unused ≡ unused → (outcome.findings == 0) ≡ none → (outcome_report outcome).status ≡ 2 → ⊥
outcome_quiet outcome (Some offset) none d u z e = let e' : 1 ≡ 2 = rw (d, u) at e in absurd (cc (e'))
outcome_quiet outcome None false d u z e = let e' : 1 ≡ 2 = rw (d, u, z) at e in absurd (cc (e'))
outcome_quiet outcome None true d u z e = let e' : 0 ≡ 2 = rw (d, u, z) at e in absurd (cc (e'))

found_quiet : (offset : ℕ) (found : Bool)
    → (cut_report offset (record { ending = ending.Done; found = found })).status ≡ 2 → ⊥
found_quiet offset true e = absurd (cc (e))
found_quiet offset false e = absurd (cc (e))

done_quiet : (command : Command) (names : NamesValue) (f : Forest)
    → ((command_job command names).returns f ending.Done).status ≡ 2 → ⊥
done_quiet (Dump options names_file file) names f e =
    let outcome : Outcome = (dump_job options names).returns f ending.Done in
    outcome_quiet outcome outcome.unused (outcome.findings == 0) refl refl refl e
done_quiet (Check rules framing file) names f e =
    let outcome : Outcome = (check_job rules framing).returns f ending.Done in
    outcome_quiet outcome outcome.unused (outcome.findings == 0) refl refl refl e
done_quiet (Extract offset contents framing file) names f e = found_quiet offset (has_element_at offset f) e
done_quiet (Indef padding file) names f e = absurd (cc (e))

fault_loud : (command : Command) (names : NamesValue) (f : Forest) (e : Ending) → (e ≡ ending.Done → ⊥)
    → ((command_job command names).returns f e).status ≡ 2
fault_loud command names f ending.Done apart = absurd (apart refl)
fault_loud (Dump options names_file file) names f (ending.Fault k) apart = refl
fault_loud (Check rules framing file) names f (ending.Fault k) apart = refl
fault_loud (Extract offset contents framing file) names f (ending.Fault k) apart = refl
fault_loud (Indef padding file) names f (ending.Fault k) apart = refl

pub statuses_show_soundness : StatusesShowSoundness
statuses_show_soundness command names b made x open_ =
    let job = command_job command names in
    let ends : IsEnding job.framing b made.ending =
    ends_as_octets job b x.reading made.ending x.ends open_ in
    let status : made.report.status ≡ (job.returns x.reading made.ending).status =
    ap (λ (r : ReportValue). r.status) x.report_is in (
      λ two sound. done_quiet command names x.reading
          (ap (λ (e : Ending). (job.returns x.reading e).status)
          (sym (ending-unique job.framing b made.ending ending.Done ends (sound-done job.framing b sound)))
          ∙ sym status ∙ two),
      λ unsound. status
          ∙ fault_loud command names x.reading made.ending
          (λ done. unsound (done-sound job.framing b (subst (IsEnding job.framing b) done ends))),
    )
