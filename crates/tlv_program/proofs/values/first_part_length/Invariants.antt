use Rattle.std.proofs.Common.{◌≡◌, ◌+◌, ◌==◌, drop}
use Rattle.std.specs.List.{position_or_len}
use Rattle.tlv_program.proofs.values.first_part_length.Given as goal

abbrev pub invariant-loop-index : goal.invariant-loop-index
invariant-loop-index l =
    position_or_len (λ x. x == 44) l.text ≡ l.index + position_or_len (λ x. x == 44) (drop l.index l.text)
