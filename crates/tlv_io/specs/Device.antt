-- What contracts see of sources and drains, and the effect of one call on it.
use Rattle.std.specs.Prelude.{◌≡◌, ◌⊎◌, ◌+◌, ◌-◌, ◌^◌, ◌<◌, ◌≤◌, ℕ, List, [], ◌++◌, All, Option, Result, Ok, Err, min}
use Rattle.std.specs.Prelude.{IfOk, length}
use Rattle.std.specs.List.{concat}
use Rattle.std.specs.Io.{ReadsAtMost}
use Rattle.std.specs.Io.KnownBytes.{Consumes, ReadConsumes, WriteAppends}

-- what the last read gave: a number of octets, or a failure; nothing before the first read
pub data LastReadValue : Type 0 where
  never : LastReadValue
  gave : ℕ → LastReadValue
  failed : LastReadValue

-- what is kept about reads: their number, including failed ones, what the last read gave, and the number of failed
-- reads
pub record ReadLogState : Type 0 where
  pub reads : ℕ
  pub last : LastReadValue
  pub failures : ℕ

-- what contracts see of a source: the octets still to give, if it knows them, and its reads
pub record SourceState : Type 0 where
  pub left : Option (List ℕ)
  pub reads : ℕ
  pub last : LastReadValue
  pub failures : ℕ

-- what contracts see of a drain: the octets that it took, if it knows them, and the number of failed writes
pub record DrainState : Type 0 where
  pub octets : Option (List ℕ)
  pub failures : ℕ

-- the log of a source that has not been read
abbrev pub new_read_log : ReadLogState
new_read_log = record { reads = 0; last = never; failures = 0 }

-- a source with these octets left, and this log of its reads
abbrev pub source_with : Option (List ℕ) → ReadLogState → SourceState
source_with left log = record { left = left; reads = log.reads; last = log.last; failures = log.failures }

-- a source with these octets that has not been read
abbrev pub new_source : Option (List ℕ) → SourceState
new_source left = source_with left new_read_log

-- a count after `more` is added at once; it stops at 2^64 - 1
abbrev pub count_after : ℕ → ℕ → ℕ
count_after n more = min (n + more) (2 ^ 64 - 1)

-- a count after one more call
abbrev pub next_count : ℕ → ℕ
next_count n = count_after n 1

module _ {T E : Type 0} where
  -- the number of failed calls, after a call with this result
  abbrev pub failures_after : Result T E → ℕ → ℕ
  failures_after (Ok x) old = old
  failures_after (Err e) old = next_count old

module _ {E : Type 0} where
  -- what a read with this result gave
  abbrev pub last_after : Result ℕ E → LastReadValue
  last_after (Ok n) = gave n
  last_after (Err e) = failed

  -- one read into room that holds these octets afterwards
  pub record ReadsOnce (old new : SourceState) (result : Result ℕ E) (to : List ℕ) : Type 0 where
    pub octets : ReadConsumes old.left new.left result to
    pub within : ReadsAtMost result to
    pub reads : new.reads ≡ next_count old.reads
    pub last : new.last ≡ last_after result
    pub failures : new.failures ≡ failures_after result old.failures

  -- one write of these octets: it takes a prefix of them, one octet or more, or fails
  pub record WritesOnce (old new : DrainState) (result : Result ℕ E) (from : List ℕ) : Type 0 where
    pub octets : WriteAppends old.octets new.octets result from
    pub some : IfOk result (λ n. (0 < n) × (n ≤ length from))
    pub failures : new.failures ≡ failures_after result old.failures

-- the most octets that each read of a call gives
abbrev pub read_limit : ℕ
read_limit = 4096

-- what a read gave that is not the last: one octet or more, and at most `read_limit`
abbrev pub IsPiece : List ℕ → Type 0
IsPiece octets = (0 < length octets) × (length octets ≤ read_limit)

-- the last read gave these octets, or failed and gave none
abbrev pub GaveLast : LastReadValue → List ℕ → Type 0
GaveLast last octets = (last ≡ gave (length octets)) ⊎ ((last ≡ failed) × (octets ≡ []))

-- one or more reads of a source: the octets that each read but the last gave, and the octets that the last one gave
pub record Pieces (old new : SourceState) : Type 0 where
  pub pieces : List (List ℕ)
  pub last : List ℕ
  pub each : All IsPiece pieces
  pub short : length last ≤ read_limit
  pub gave_last : GaveLast new.last last
  pub reads : new.reads ≡ count_after old.reads (length pieces + 1)
  pub consumed : Consumes old.left new.left (concat pieces ++ last)

-- the octets that the reads gave
abbrev pub octets_given : {old new : SourceState} → Pieces old new → List ℕ
octets_given p = concat p.pieces ++ p.last
