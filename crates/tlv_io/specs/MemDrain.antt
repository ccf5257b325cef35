-- A drain over memory, as contracts see it.
use Rattle.std.specs.Prelude.{ℕ, List, ◌++◌, Result, Ok, Err, Some, min, max, length, take, drop}
use Rattle.std.specs.Borrow.{MutBor}
use Rattle.tlv_io.specs.Device.{DrainState, next_count}
use Rattle.tlv_io.specs.declared.memory.MemDrain.{MemDrain}

-- the octets that a drain over memory has taken, which are a prefix of its room; the rest of the room; the most
-- octets that one write takes; and the number of failed writes
pub record MemDrainState : Type 0 where
  pub taken : List ℕ
  pub rest : List ℕ
  pub most : ℕ
  pub failures : ℕ

-- the room that a drain over memory borrows
abbrev pub drain_room : MemDrain → MutBor (List ℕ)
drain_room drain = drain.room

abbrev pub mem_drain_state_of : MemDrain → MemDrainState
mem_drain_state_of drain = record {
  taken = take drain.used drain.room.now;
  rest = drop drain.used drain.room.now;
  most = max 1 drain.most;
  failures = drain.failures;
}

-- what contracts see of a drain over memory, as of any drain
abbrev pub drain_state_of : MemDrainState → DrainState
drain_state_of drain = record { octets = Some drain.taken; failures = drain.failures }

-- the number of octets that the next write takes, out of `count`
abbrev pub write_count : MemDrainState → ℕ → ℕ
write_count drain count = min count (min drain.most (length drain.rest))

module _ {E : Type 0} where
  -- the drain after a write of these octets with this result
  abbrev pub mem_drain_after : Result ℕ E → List ℕ → MemDrainState → MemDrainState
  mem_drain_after (Ok n) octets old = record old { taken = old.taken ++ take n octets; rest = drop n old.rest }
  mem_drain_after (Err e) octets old = record old { failures = next_count old.failures }
