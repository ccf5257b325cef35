-- The result of a run over octets in memory.
use Rattle.std.specs.Prelude.{◌≡◌, ℕ, ◌<◌, ◌≤◌, Bool, true, false, List, length, take}
use Rattle.tlv_head.specs.Limits.{input_limit}
use Rattle.tlv_walk.specs.declared.ending.Ending.{Ending}
use Rattle.tlv_walk.specs.declared.run.DeviceFault.TheVariants.{ReadFailed, WriteFailed, InputTooLong}
use Rattle.tlv_walk.specs.Forest.{Forest}
use Rattle.tlv_walk.specs.Job.{IsSettled, Job}
use Rattle.tlv_run.specs.Report.{ReportValue, device_report}
use Rattle.tlv_run.specs.Results.{CommandResult, IsResult}

-- the job, all the octets, and whether a read fails after them
module _ (job : Job ReportValue) (octets : List ℕ) (read_fails : Bool) where
  -- the report of a run that had room for all of its output. `f` is the reading of the first `input_limit` octets, and
  -- `e` the ending of the job for them (`EndsWith`), as if the input ended there. One line for each thing that may come
  -- next; if two lines hold, they give the same report
  pub data IsReport (f : Forest) (e : Ending) : ReportValue → Type 0 where
    -- nothing that could follow matters
    at_settled_result : IsSettled job f e → IsReport f e (job.returns f e)
    -- the input is not too long, and no read fails after it
    at_source_end : read_fails ≡ false → length octets ≤ input_limit → IsReport f e (job.returns f e)
    -- there are at most `input_limit` octets, and the read after them failed
    read_failed : (IsSettled job f e → ⊥) → read_fails ≡ true → length octets ≤ input_limit
        → IsReport f e (device_report ReadFailed)
    -- there are more than `input_limit` octets, whether or not a read fails after them
    too_long : (IsSettled job f e → ⊥) → input_limit < length octets → IsReport f e (device_report InputTooLong)

  -- what was written, into this much room, and what is reported. If the output has more octets than the room, a write
  -- fails, and E2 is reported, whatever else there is to report
  pub record RunsOctets (room : ℕ) (written : List ℕ) (report : ReportValue) : Type 0 where
    pub made : CommandResult
    pub is_made : IsResult job (take input_limit octets) made
    pub written_is : written ≡ take room made.output
    pub with_room : length made.output ≤ room → IsReport is_made.reading made.ending report
    pub without_room : room < length made.output → report ≡ device_report WriteFailed
