-- A source over memory, as contracts see it.
use Rattle.std.specs.Prelude.{ℕ, List, Option, Some, min, max, length, slice_get}
use Rattle.std.specs.Option.{option_map_or}
use Rattle.tlv_io.specs.Device.{ReadLogState, SourceState, source_with}

-- what a source over memory has left, its cuts, the read that is to fail, and its log of reads
pub record MemSourceState : Type 0 where
  pub left : List ℕ
  pub cuts : List ℕ
  pub fail_at : Option ℕ
  pub log : ReadLogState

-- what contracts see of a source over memory, as of any source
abbrev pub source_state_of : MemSourceState → SourceState
source_state_of s = source_with (Some s.left) s.log

-- the number of octets, out of `count`, that read i may give: its cut, at least one; after the end of the cuts, all
abbrev pub cut_count : List ℕ → ℕ → ℕ → ℕ
cut_count cuts i count = option_map_or (λ cut. min count (max 1 cut)) (slice_get cuts i) count

-- the number of octets that the next read gives into this much room
abbrev pub read_count : MemSourceState → ℕ → ℕ
read_count source room = min (cut_count source.cuts source.log.reads room) (length source.left)
