-- A run over a source that knows its octets, if neither device fails.
use Rattle.std.proofs.Common.{◌≡◌, inl, inr, ℕ, ◌-◌, ◌^◌, ◌<◌, ◌≤◌, List, [], ◌++◌, length, take, refl, sym, ap, ◌∙◌}
use Rattle.std.proofs.Common.{subst, arith, append-nil, length-append}
use Rattle.std.proofs.lemmas.List.{take_all}
use Rattle.std.specs.Prelude.{Some, Result, Ok, Err}
use Rattle.std.specs.Io.KnownBytes.{Appends}
use Rattle.tlv_walk.proofs.FollowerLemmas.Enough.{comes_to-result}
use Rattle.tlv_io.proofs.Sends.{sends_appends}
use Rattle.tlv_head.specs.Limits.{input_limit}
use Rattle.tlv_walk.specs.declared.ending.Ending.{Ending}
use Rattle.tlv_walk.specs.declared.run.DeviceFault.{DeviceFault}
use Rattle.tlv_walk.specs.declared.run.DeviceFault.TheVariants.{ReadFailed, WriteFailed, InputTooLong}
use Rattle.tlv_io.specs.Device.{next_count, octets_given}
use Rattle.tlv_walk.specs.Job.{DeviceStates, IsSettled, Job, Runs}
use Rattle.tlv_walk.specs.Reading.{AreOctets}
use Rattle.tlv_run.proofs.KnownDevices.{at_end, left_of}
use Rattle.tlv_run.proofs.Results.{EnoughStays, command_result, settled_stays, stays_for}
use Rattle.tlv_run.specs.Laws.{RunsAreResults}
use Rattle.tlv_run.specs.Report.{ReportValue, result_report}
use Rattle.tlv_run.specs.Results.{CommandResult, IsResult, command_job}

-- a count below its end goes on
goes_up : (n : ℕ) → n < 2 ^ 64 - 1 → next_count n ≡ n → ⊥
goes_up n less e = omega (arith, less, e)

module _ (job : Job ReportValue) (stays : EnoughStays job) (octets : List ℕ) (all : AreOctets octets)
    (few : length octets ≤ input_limit)
    (old new : DeviceStates) (known : old.source.left ≡ Some octets) where
  -- the result of the octets was written, and this is reported
  GivesReport : ReportValue → Type 0
  GivesReport report =
      (made : CommandResult) × IsResult job octets made × Appends old.drain.octets new.drain.octets made.output
      × (report ≡ made.report)

  gives_ok : (report : ReportValue) → Runs job old new (Ok report) → GivesReport report
  unfolding GivesReport
  gives_ok report x =
      let given : List ℕ = octets_given x.pieces in
      let left = left_of old.source.left new.source.left octets given known x.pieces.consumed in
      let k = comes_to-result job input_limit given x.reading new.source (Ok report) x.comes in
      let e : Ending = k.0 in
      let m : CommandResult = command_result job x.reading e in
      let short : length given ≤ input_limit = omega (arith, few, ap length left.2, length-append given left.0) in
      let is : octets ≡ take input_limit given ++ left.0 =
      left.2 ∙ ap (λ (l : List ℕ). l ++ left.0) (sym (take_all input_limit given short)) in
      let y : IsResult job (take input_limit given) m = record {
        reading = x.reading;
        is_reading = x.is_reading;
        ends = k.2;
        output_is = refl;
        report_is = refl;
      } in
      let sent : Appends old.drain.octets new.drain.octets m.output =
      sends_appends old.drain new.drain (job.text x.reading) tt x.sends in
      let final : IsSettled job x.reading e → GivesReport report = λ (z : IsSettled job x.reading e).
      let z = settled_stays job stays (take input_limit given) left.0 m (subst AreOctets is all) y z in
      (m, subst (λ (o : List ℕ). IsResult job o m) (sym is) z.0, sent, k.1) in
      elim k.3 [
        | inl enough ↦ final (inl enough)
        | inr rest ↦ elim rest [
          | inl refused ↦ final (inr refused)
          | inr end ↦
              let none : left.0 ≡ [] = at_end new.source.left left.0 left.1 end.1 in
              let same : octets ≡ take input_limit given =
              is ∙ ap (λ (l : List ℕ). take input_limit given ++ l) none ∙ append-nil (take input_limit given) in
              (m, subst (λ (o : List ℕ). IsResult job o m) (sym same) y, sent, k.1)
        ]
      ]

  run-gives_report : old.source.failures < 2 ^ 64 - 1 → new.source.failures ≡ old.source.failures
      → old.drain.failures < 2 ^ 64 - 1 → new.drain.failures ≡ old.drain.failures
      → (result : Result ReportValue DeviceFault) → Runs job old new result
      → GivesReport (result_report result)
  run-gives_report old_few quiet from_few took (Ok report) x = gives_ok report x
  run-gives_report old_few quiet from_few took (Err ReadFailed) x =
      absurd (goes_up old.source.failures old_few (sym x.failures ∙ quiet))
  run-gives_report old_few quiet from_few took (Err WriteFailed) x =
      absurd (goes_up old.drain.failures from_few (sym x.sends.failures ∙ took))
  run-gives_report old_few quiet from_few took (Err InputTooLong) x =
      let left = left_of old.source.left new.source.left octets (octets_given x.pieces) known x.pieces.consumed in
      absurd (omega (
        arith,
        few,
        (comes_to-result job input_limit (octets_given x.pieces) x.reading new.source (Err InputTooLong) x.comes).0,
        ap length left.2,
        length-append (octets_given x.pieces) left.0,
      ))

pub run_results : RunsAreResults
unfolding GivesReport
run_results command names octets before after report input nowhere x =
    let job = command_job command names in
    let y =
    run-gives_report job (stays_for command names) octets input.are_octets input.limit before after input.left_is
    nowhere.can_count_failed_read nowhere.no_failed_read nowhere.can_count_failed_write nowhere.no_failed_write x.result
    x.runs in
    (y.0, y.1, y.2, x.report_is ∙ y.3)
