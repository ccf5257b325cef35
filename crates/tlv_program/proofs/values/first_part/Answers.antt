use Rattle.std.proofs.Common.{rules}
use Rattle.tlv_program.proofs.OffsetLemmas.{one_part, parts_at_comma}
use Rattle.tlv_program.proofs.values.first_part.Goals as goal

pub returns-then-end-text-clause-parts : goal.returns-then-end-text-clause-parts
returns-then-end-text-clause-parts c =
    parts_at_comma c.args.text.now c.first_part_length-end.result c.first_part_length-end.ensures.value (search rules)

pub returns-else-end-text-clause-parts : goal.returns-else-end-text-clause-parts
returns-else-end-text-clause-parts c =
    one_part c.args.text.now (let e = c.first_part_length-end.ensures.value in search rules)
