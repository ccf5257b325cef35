-- Equal octets in a row that stand in place of others.
use Rattle.std.specs.Prelude.{ℕ, ◌+◌, ◌-◌, Bool, ◌&&◌, ◌||◌, eqb, nat_le, nat_lt, if◌then◌else◌, List, [], ◌∷◌, length, take}
use Rattle.std.specs.Prelude.{drop, Option, Some, None, slice_index}
use Rattle.tlv_reasons.specs.declared.overwritten.Run.{Run}

-- the number of octets x with which these begin
abbrev pub count_front : ℕ → List ℕ → ℕ
count_front x [] = 0
count_front x (y ∷ more) = if eqb y x then count_front x more + 1 else 0

-- the number of octets x in a row, after one octet more
abbrev pub counted_on : ℕ → ℕ → ℕ → ℕ
counted_on x count y = if eqb y x then count + 1 else 0

-- the number of octets x with which these end; so many stand in front of them
abbrev pub count_back : ℕ → ℕ → List ℕ → ℕ
count_back x count [] = count
count_back x count (y ∷ more) = count_back x (counted_on x count y) more

-- erased memory, or a block that was not read, has such an octet
abbrev pub is_erased : ℕ → Bool
is_erased x = eqb x 0 || eqb x 0xff

-- a run of fewer octets is not told of: a limit of our own
abbrev pub least_run : ℕ
least_run = 24

-- where the octets x around this offset begin, and where they end
abbrev pub octet_run : ℕ → List ℕ → ℕ → Run
octet_run x octets at = record {
  start = at - count_back x 0 (take at octets);
  end = at + count_front x (drop at octets);
}

-- this run, if it has enough octets
abbrev pub long_run : Run → Option Run
long_run run = if nat_le (run.start + least_run) run.end then Some run else None

-- the octets 00 or ff in a row around this offset, if there are enough of them
abbrev pub run_around : List ℕ → ℕ → Option Run
run_around octets at =
    if nat_lt at (length octets) && is_erased (slice_index octets at)
    then long_run (octet_run (slice_index octets at) octets at) else None
