use Rattle.std.proofs.Common.{◌≡◌, ◌+◌, ◌*◌, length}
use Rattle.tlv_io.specs.Private.PairTable.{ArePairsBelow}
use Rattle.tlv_io.proofs.held_octets.pair_table.all_pairs.Given as goal

abbrev pub invariant-loop-high : goal.invariant-loop-high
invariant-loop-high l = record {
  before : ArePairsBelow (16 * l.high) l.pairs;
  size : length l.pairs ≡ 256;
}

abbrev pub invariant-loop-low : goal.invariant-loop-low
invariant-loop-low l = record {
  before : ArePairsBelow (16 * l.high + l.low) l.pairs;
  size : length l.pairs ≡ 256;
}
