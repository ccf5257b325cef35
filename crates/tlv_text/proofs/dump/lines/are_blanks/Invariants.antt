use Rattle.std.proofs.Common.{◌≡◌, drop}
use Rattle.std.specs.List.{list_all}
use Rattle.tlv_text.specs.DumpLines.{is_dump_blank}
use Rattle.tlv_text.proofs.dump.lines.are_blanks.Given as goal

abbrev pub invariant-loop-character : goal.invariant-loop-character
invariant-loop-character l = list_all is_dump_blank l.text ≡ list_all is_dump_blank (drop l.character-index l.text)
