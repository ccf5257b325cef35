use Rattle.std.proofs.Common.{◌≡◌, drop}
use Rattle.std.specs.List.{list_all}
use Rattle.tlv_text.specs.Plain.{is_padding_or_end}
use Rattle.tlv_text.proofs.plain.are_padding_or_ends.Given as goal

abbrev pub invariant-loop-character : goal.invariant-loop-character
invariant-loop-character l =
    list_all is_padding_or_end (drop l.character-index l.text) ≡ list_all is_padding_or_end l.text
