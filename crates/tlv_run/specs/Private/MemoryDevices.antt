-- A source over octets in memory that fails after them, as contracts see it.
use Rattle.std.specs.Prelude.{ℕ, zero, suc, List, [], Some}
use Rattle.tlv_io.specs.Device.{LastReadValue, SourceState, failed, gave, never}
use Rattle.tlv_io.specs.MemSource.{MemSourceState, source_state_of}

-- a source that fails after its octets: the source of its octets, and the number of failed reads
pub record FailingSourceState : Type 0 where
  pub source : MemSourceState
  pub failures : ℕ

-- at its end, where `MemSource` gives nothing, a failing source fails
abbrev pub failing_last_read : LastReadValue → LastReadValue
failing_last_read never = never
failing_last_read (gave zero) = failed
failing_last_read (gave (suc n)) = gave (suc n)
failing_last_read failed = failed

-- once it has failed, it has no octets left
abbrev pub octets_left : ℕ → List ℕ → List ℕ
octets_left zero octets = octets
octets_left (suc failures) octets = []

-- what contracts see of a failing source, as of any source
abbrev pub failing_source_state : FailingSourceState → SourceState
failing_source_state s = record (source_state_of s.source) {
  left = Some (octets_left s.failures s.source.left);
  last = failing_last_read s.source.log.last;
  failures = s.failures;
}
