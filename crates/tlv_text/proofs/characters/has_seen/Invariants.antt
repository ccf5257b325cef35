use Rattle.std.proofs.Common.{◌≡◌, drop}
use Rattle.std.specs.List.{list_any}
use Rattle.tlv_text.specs.Taken.{is_seen}
use Rattle.tlv_text.proofs.characters.has_seen.Given as goal

abbrev pub invariant-loop-character : goal.invariant-loop-character
invariant-loop-character l = list_any is_seen l.text ≡ list_any is_seen (drop l.character-index l.text)
