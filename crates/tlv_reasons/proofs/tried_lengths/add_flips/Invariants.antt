use Rattle.std.proofs.Common.{◌≡◌, ◌≤◌, ◌<◌, ◌+◌, ◌^◌, ◌++◌, length, All}
use Rattle.tlv_reasons.specs.WrongLength.{flips}
use Rattle.tlv_reasons.proofs.tried_lengths.add_flips.Given as goal

abbrev pub invariant-loop-bit : goal.invariant-loop-bit
invariant-loop-bit l = record {
  added : l.lengths.items ≡ l.initial.lengths.items ++ flips l.said l.bit;
  few : length l.lengths.items ≤ 10 + l.bit;
  below : All (λ n. n < 2 ^ 41) l.lengths.items;
}
