use Rattle.std.proofs.Common.{◌≡◌, ◌≤◌, ◌+◌, ◌*◌, ◌++◌, length}
use Rattle.tlv_reasons.specs.Values.{offsets_in_words}
use Rattle.tlv_reasons.proofs.value.offsets_in_words.Given as goal

abbrev pub invariant-loop-left : goal.invariant-loop-left
invariant-loop-left l = record {
  text : offsets_in_words l.offsets ≡ l.text.items ++ offsets_in_words l.left;
  room : length l.text.items + 28 * length l.left ≤ 224;
}

abbrev pub decreases-loop-left : goal.decreases-loop-left
decreases-loop-left l = length l.left
