use Rattle.std.proofs.Common.{◌≡◌, ℕ, ◌*◌, ◌-◌, ◌++◌, List, length, take}
use Rattle.tlv_io.specs.LineTexts.{spaced_pairs, spaces}
use Rattle.tlv_io.proofs.held_octets.texts.write_spaced_row.Given as goal

abbrev pub invariant-loop-i : goal.invariant-loop-i
invariant-loop-i l = record {
  pairs : (rest : List ℕ) × (l.to ≡ spaced_pairs (take l.i l.octets) ++ (spaces (48 - 3 * l.i) ++ rest));
  size : length l.to ≡ length l.initial.to;
}
