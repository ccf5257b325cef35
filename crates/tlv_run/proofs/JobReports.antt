-- A job with what is reported of its result runs as the job itself.
use Rattle.std.proofs.Common.{◌≡◌, ℕ, ◌^◌, List, ap, refl, take}
use Rattle.std.specs.Prelude.{Result, Ok, Err}
use Rattle.tlv_walk.specs.declared.run.DeviceFault.{DeviceFault}
use Rattle.tlv_walk.specs.declared.run.DeviceFault.TheVariants.{ReadFailed, WriteFailed, InputTooLong}
use Rattle.tlv_io.specs.Device.{octets_given}
use Rattle.tlv_walk.specs.Job.{DeviceStates, Job, Runs, WantMore, read_failed, too_long, write_failed}
use Rattle.tlv_walk.proofs.FollowerLemmas.Enough.{comes_to, comes_to-result, ends_alike}
use Rattle.tlv_run.specs.Report.{ReportValue, device_report}
use Rattle.tlv_run.specs.Results.{job_with_report}
use Rattle.tlv_run.specs.RunsAndReports.{RunsAndReports}

-- what is reported of a result, or that a device failed or the input is too long
abbrev pub report_of : {A : Type 0} → (A → ReportValue) → Result A DeviceFault → ReportValue
report_of report (Ok a) = report a
report_of report (Err fault) = device_report fault

module _ {A : Type 0} (report : A → ReportValue) (job : Job A) where
  abbrev reported_job : Job ReportValue
  reported_job = job_with_report report job

  abbrev wants_too : (b : List ℕ) → WantMore job b → WantMore (job_with_report report job) b
  wants_too b x = x

  module _ (old new : DeviceStates) where
    runs_too : (result : Result A DeviceFault) → Runs job old new result
        → (reported : ReportValue) → reported ≡ report_of report result
        → RunsAndReports (job_with_report report job) old new reported
    runs_too (Ok a) x reported e = record {
      result = Ok (report a);
      runs = record {
        pieces = x.pieces;
        failures = x.failures;
        wants_more = wants_too _ x.wants_more;
        within = x.within;
        reading = x.reading;
        is_reading = x.is_reading;
        sends = x.sends;
        sent_before = λ failed. absurd (cc (failed));
        comes =
            let k = comes_to-result job (2 ^ 40) (octets_given x.pieces) x.reading new.source (Ok a) x.comes in
            comes_to reported_job (2 ^ 40) (octets_given x.pieces) x.reading new.source (Ok (report a)) (
              k.0,
              ap report k.1,
              ends_alike reported_job (take (2 ^ 40) (octets_given x.pieces)) x.reading job refl refl k.0 k.2,
              k.3,
            );
      };
      report_is = e;
    }
    runs_too (Err ReadFailed) x reported e = record {
      result = Err ReadFailed;
      runs = record {
        pieces = x.pieces;
        failures = x.failures;
        wants_more = wants_too _ x.wants_more;
        within = x.within;
        reading = x.reading;
        is_reading = x.is_reading;
        sends = x.sends;
        sent_before = λ failed. absurd (cc (failed));
        comes =
            read_failed
            (comes_to-result job (2 ^ 40) (octets_given x.pieces) x.reading new.source (Err ReadFailed) x.comes);
      };
      report_is = e;
    }
    runs_too (Err WriteFailed) x reported e = record {
      result = Err WriteFailed;
      runs = record {
        pieces = x.pieces;
        failures = x.failures;
        wants_more = wants_too _ x.wants_more;
        within = x.within;
        reading = x.reading;
        is_reading = x.is_reading;
        sends = x.sends;
        sent_before = λ failed. x.sent_before refl;
        comes = write_failed;
      };
      report_is = e;
    }
    runs_too (Err InputTooLong) x reported e = record {
      result = Err InputTooLong;
      runs = record {
        pieces = x.pieces;
        failures = x.failures;
        wants_more = wants_too _ x.wants_more;
        within = x.within;
        reading = x.reading;
        is_reading = x.is_reading;
        sends = x.sends;
        sent_before = λ failed. absurd (cc (failed));
        comes =
            let k =
            comes_to-result job (2 ^ 40) (octets_given x.pieces) x.reading new.source (Err InputTooLong) x.comes in
            too_long k.0 (wants_too _ k.1);
      };
      report_is = e;
    }

  -- as a run of a command shows it
  pub reported_runs : {old new : DeviceStates} {result : Result A DeviceFault} {reported : ReportValue}
      → Runs job old new result → reported ≡ report_of report result
      → RunsAndReports (job_with_report report job) old new reported
  reported_runs {old} {new} {result} {reported} x e = runs_too old new result x reported e
