use Rattle.std.proofs.Common.{◌≡◌, map, take}
use Rattle.tlv_text.specs.Taken.{shown_character}
use Rattle.tlv_text.proofs.characters.first_words.Given as goal

abbrev pub invariant-loop-character : goal.invariant-loop-character
invariant-loop-character l = l.words.items ≡ map shown_character (take l.character-index l.character-items)
