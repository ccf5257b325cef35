use Rattle.std.proofs.Common.{◌≡◌, ◌*◌, length, take}
use Rattle.tlv_io.specs.LineTexts.{spaced_pairs}
use Rattle.tlv_io.proofs.held_octets.texts.write_spaced_pairs.Given as goal

abbrev pub invariant-loop-i : goal.invariant-loop-i
invariant-loop-i l = record {
  pairs : take (3 * l.i) l.to ≡ spaced_pairs (take l.i l.octets);
  size : length l.to ≡ length l.initial.to;
}
