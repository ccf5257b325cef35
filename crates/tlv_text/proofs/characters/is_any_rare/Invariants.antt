use Rattle.std.proofs.Common.{◌≡◌, take}
use Rattle.std.specs.List.{list_any}
use Rattle.tlv_text.specs.Taken.{is_rare}
use Rattle.tlv_text.proofs.characters.is_any_rare.Given as goal

abbrev pub invariant-loop-character : goal.invariant-loop-character
invariant-loop-character l = l.found ≡ list_any is_rare (take l.character-index l.piece)
