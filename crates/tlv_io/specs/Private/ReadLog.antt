-- What the code keeps about reads.
use Rattle.std.specs.Prelude.{ℕ, Result}
use Rattle.tlv_io.specs.Device.{LastReadValue, ReadLogState, never, gave, failed, failures_after, last_after}
use Rattle.tlv_io.specs.Device.{next_count}
use Rattle.tlv_io.specs.declared.source.LastRead.{LastRead}
use Rattle.tlv_io.specs.declared.source.LastRead.TheVariants.{Never, Gave, Failed}

-- about the last read
abbrev pub last_read : LastRead → LastReadValue
last_read Never = never
last_read (Gave n) = gave n
last_read Failed = failed

module _ {E : Type 0} where
  -- about all reads, after one more with this result
  abbrev pub read_log_after : Result ℕ E → ReadLogState → ReadLogState
  read_log_after result old =
      record { reads = next_count old.reads; last = last_after result; failures = failures_after result old.failures }
