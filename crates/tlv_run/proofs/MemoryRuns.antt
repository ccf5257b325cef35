-- The runs of `run_octets`, by what its devices show: one to the end of the octets, one until a read fails.
use Rattle.std.proofs.Common.{◌≡◌, inl, inr, ℕ, zero, suc, ◌<◌, ◌≤◌, slice_index_or, Fits, w8, List, [], length}
use Rattle.std.proofs.Common.{false, true, refl, ap, arith}
use Rattle.arrayvec.specs.ArrayVec.{ArrayVec}
use Rattle.std.proofs.lemmas.Bool.{cases_lt}
use Rattle.std.proofs.lemmas.List.{get_or_default}
use Rattle.std.specs.Prelude.{Some}
use Rattle.std.specs.Io.KnownBytes.{IsAtEnd}
use Rattle.tlv_value.specs.Names.{NamesValue}
use Rattle.tlv_io.specs.Device.{DrainState, LastReadValue, SourceState, failed, gave, never, new_source}
use Rattle.tlv_walk.specs.Job.{device_states}
use Rattle.tlv_io.specs.MemSource.{MemSourceState}
use Rattle.tlv_walk.specs.Reading.{AreOctets}
use Rattle.tlv_run.proofs.Results.{stays_for, text_on}
use Rattle.tlv_run.specs.declared.command.Command.{Command}
use Rattle.tlv_run.specs.Private.MemoryDevices.{FailingSourceState, failing_last_read, failing_source_state}
use Rattle.tlv_run.specs.Private.MemoryDevices.{octets_left}
use Rattle.tlv_run.specs.UnfailingSource.{unfailing_source_state}
use Rattle.tlv_run.specs.RunsOctets.{RunsOctets}
use Rattle.tlv_run.specs.Report.{ReportValue}
use Rattle.tlv_run.specs.Results.{command_job}
use Rattle.tlv_run.specs.RunsAndReports.{RunsAndReports}
use Rattle.tlv_run.proofs.InMemory.{runs_octets}

-- if each number of a slice fits an octet, they are octets
octets_fit : (xs : List ℕ) → ((i : ℕ) → Fits w8 (slice_index_or xs i 0)) → AreOctets xs
octets_fit xs fits k d less = below (slice_index_or xs k d) (rw (get_or_default xs k d 0 less) (fits k)) where
  below : (x : ℕ) → Fits w8 x → x < 256
  below x f = omega (arith, f)

-- what a source shows that has failed after its octets: it has nothing left
failed-at_end : (s : FailingSourceState) → s.failures ≡ 1 → IsAtEnd (failing_source_state s).left
failed-at_end s e = by_count s.failures e where
  by_count : (failures : ℕ) → failures ≡ 1 → octets_left failures s.source.left ≡ []
  by_count zero e = absurd (cc (e))
  by_count (suc n) e = refl

-- and it never gave nothing
gave_some : (l : LastReadValue) → failing_last_read l ≡ gave 0 → ⊥
gave_some never e = cc (e)
gave_some (gave zero) e = cc (e)
gave_some (gave (suc n)) e = cc (e)
gave_some failed e = cc (e)

module _ (command : Command) (names : NamesValue) (octets : List ℕ)
    (fit : (i : ℕ) → Fits w8 (slice_index_or octets i 0)) (room : ℕ)
    (from to : DrainState) (from_is : from ≡ record { octets = Some []; failures = 0 }) (written : ArrayVec ℕ)
    (took : to.octets ≡ Some written.items) (fits : length written.items ≤ room)
    (full_if_failed : length written.items < room → to.failures ≡ 0) (report : ReportValue) where
  failed-drain_full : to.failures ≡ 1 → length written.items ≡ room
  failed-drain_full one = elim (cases_lt (length written.items) room) [
    | inl less ↦ let none = full_if_failed less in absurd (cc (one, none))
    | inr more ↦ omega (arith, fits, more)
  ]

  pub to_end : (old : SourceState) (new : MemSourceState) → old ≡ new_source (Some octets)
      → RunsAndReports (command_job command names) (device_states old from)
      (device_states (unfailing_source_state new) to) report
      → RunsOctets (command_job command names) octets false room written.items report
  to_end old new e x =
      runs_octets (command_job command names) (stays_for command names) (text_on command names) octets
      (octets_fit octets fit) false old (unfailing_source_state new) from to room written.items
      (ap (λ (s : SourceState). s.left) e) (ap (λ (s : SourceState). s.failures) e) (λ k. absurd (cc (k))) (λ _ _. refl)
      (ap (λ (t : DrainState). t.octets) from_is) (ap (λ (t : DrainState). t.failures) from_is)
      took fits failed-drain_full report x

  pub until_failure : (old : SourceState) (new : FailingSourceState) → old ≡ new_source (Some octets)
      → RunsAndReports (command_job command names) (device_states old from)
      (device_states (failing_source_state new) to) report
      → RunsOctets (command_job command names) octets true room written.items report
  until_failure old new e x =
      runs_octets (command_job command names) (stays_for command names) (text_on command names) octets
      (octets_fit octets fit) true old (failing_source_state new) from to room written.items
      (ap (λ (s : SourceState). s.left) e) (ap (λ (s : SourceState). s.failures) e)
      (λ k. (refl, failed-at_end new k)) (λ _ k. absurd (gave_some new.source.log.last k))
      (ap (λ (t : DrainState). t.octets) from_is) (ap (λ (t : DrainState). t.failures) from_is)
      took fits failed-drain_full report x
