use Rattle.std.proofs.Common.{◌≡◌, ◌+◌, length}
use Rattle.std.specs.Option.{option_map_or}
use Rattle.tlv_program.specs.Values.{comma_parts, part_offsets}
use Rattle.tlv_run.specs.BorrowedText.{text_in}
use Rattle.tlv_program.proofs.OffsetLemmas.{rest_offsets, with_next}
use Rattle.tlv_program.proofs.values.offset_list.Given as goal

abbrev pub invariant-loop-rest : goal.invariant-loop-rest
invariant-loop-rest l = part_offsets (comma_parts l.text) ≡ with_next l.offsets.items (rest_offsets (text_in l.rest))

abbrev pub decreases-loop-rest : goal.decreases-loop-rest
decreases-loop-rest l = option_map_or (λ text. length text.now + 1) l.rest 0
