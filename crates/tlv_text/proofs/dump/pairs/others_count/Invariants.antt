use Rattle.std.proofs.Common.{◌≡◌, ◌≤◌, take}
use Rattle.tlv_text.specs.DumpPairs.{others_count}
use Rattle.tlv_text.proofs.dump.pairs.others_count.Given as goal

abbrev pub invariant-loop-character : goal.invariant-loop-character
invariant-loop-character l = record {
  counted : l.count ≡ others_count (take l.character-index l.text);
  within : l.count ≤ l.character-index;
}
