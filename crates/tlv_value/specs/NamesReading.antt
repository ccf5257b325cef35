-- The result of reading a names file from a source.
use Rattle.std.specs.Prelude.{◌≡◌, ℕ, ◌+◌, ◌<◌, ◌≤◌, ◌⊎◌, List, length, Result, Err}
use Rattle.std.specs.Io.KnownBytes.{IsAtEnd}
use Rattle.tlv_io.specs.Device.{LastReadValue, Pieces, SourceState, failed, gave, next_count, octets_given}
use Rattle.tlv_value.specs.Names.{NamesValue, names_of}
use Rattle.tlv_value.specs.declared.names.fault.NamesFault.{NamesFault}
use Rattle.tlv_value.specs.declared.names.fault.NamesFault.TheVariants.{TooLarge, ReadFailed, Memory}

-- the largest number of octets in a names file
abbrev pub file_limit : ℕ
file_limit = 1048576

-- the source has ended after these octets, within the limit
pub record EndsWithin (new : SourceState) (octets : List ℕ) : Type 0 where
  pub ended : new.last ≡ gave 0
  pub at_end : IsAtEnd new.left
  pub within : length octets ≤ file_limit

-- a read has failed after these octets, within the limit
pub record FailsWithin (new : SourceState) (octets : List ℕ) : Type 0 where
  pub failed_last : new.last ≡ failed
  pub within : length octets ≤ file_limit

-- the source has ended, and the octets determine the result
pub record IsWholeFile
    (new : SourceState) (octets : List ℕ) (result : Result NamesValue NamesFault)
    : Type 0 where
  pub ends : EndsWithin new octets
  pub result_is : names_of octets ≡ result

-- the last read gave the first octet beyond the limit
pub record IsTooLong (last : LastReadValue) (octets : List ℕ) : Type 0 where
  pub count : ℕ
  pub gave_last : last ≡ gave count
  pub beyond : file_limit < length octets
  pub before : length octets ≤ file_limit + count

-- the result of reading these octets, by what the last read gave and what is left to read
abbrev pub ReadsNames : SourceState → List ℕ → Result NamesValue NamesFault → Type 0
ReadsNames new octets (Err TooLarge) = IsWholeFile new octets (Err TooLarge) ⊎ IsTooLong new.last octets
ReadsNames new octets (Err ReadFailed) = FailsWithin new octets
ReadsNames new octets (Err Memory) = length octets ≤ file_limit
ReadsNames new octets result = IsWholeFile new octets result

-- the failures of a source: one more if a read failed
abbrev pub names_failures_after : {T : Type 0} → Result T NamesFault → ℕ → ℕ
names_failures_after (Err ReadFailed) old = next_count old
names_failures_after _ old = old

-- some octets are read, in pieces, and they determine the result
pub record ReadsFrom (old new : SourceState) (result : Result NamesValue NamesFault) : Type 0 where
  pub pieces : Pieces old new
  pub result_is : ReadsNames new (octets_given pieces) result
  pub failures : new.failures ≡ names_failures_after result old.failures
