use Rattle.std.proofs.Common.{◌≡◌, drop}
use Rattle.std.specs.List.{list_any}
use Rattle.tlv_text.specs.Taken.{is_control}
use Rattle.tlv_text.proofs.characters.has_controls.Given as goal

abbrev pub invariant-loop-character : goal.invariant-loop-character
invariant-loop-character l =
    list_any is_control l.character-items ≡ list_any is_control (drop l.character-index l.character-items)
