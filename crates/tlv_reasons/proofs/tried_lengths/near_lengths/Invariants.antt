use Rattle.std.proofs.Common.{◌≡◌, ◌≤◌, ◌<◌, ◌*◌, ◌^◌, length, All}
use Rattle.tlv_reasons.specs.WrongLength.{lengths_within}
use Rattle.tlv_reasons.proofs.tried_lengths.near_lengths.Given as goal

abbrev pub invariant-loop-by : goal.invariant-loop-by
invariant-loop-by l = record {
  lengths : l.lengths.items ≡ lengths_within l.said l.by;
  few : length l.lengths.items ≤ 2 * l.by;
  below : All (λ n. n < 2 ^ 41) l.lengths.items;
}
