use Rattle.std.proofs.Common.{◌≡◌, true}
use Rattle.tlv_text.specs.DumpWords.{show_words}
use Rattle.tlv_text.proofs.dump.words.is_text_of_words.Given as goal

abbrev pub invariant-loop-at : goal.invariant-loop-at
invariant-loop-at l = show_words l.size l.octets l.text l.at ≡ true
