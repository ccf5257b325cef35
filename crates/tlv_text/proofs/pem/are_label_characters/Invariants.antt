use Rattle.std.proofs.Common.{◌≡◌, drop}
use Rattle.std.specs.List.{list_all}
use Rattle.tlv_text.specs.Pem.{is_label_character}
use Rattle.tlv_text.proofs.pem.are_label_characters.Given as goal

abbrev pub invariant-loop-character : goal.invariant-loop-character
invariant-loop-character l = list_all is_label_character l.label ≡ list_all is_label_character (drop l.character-index l.label)
