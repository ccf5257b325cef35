use Rattle.std.proofs.lemmas.Grind.{common_steps}
use Rattle.std.proofs.Common.{◌≡◌, ◌∙◌, None, rules, arith}
use Rattle.tlv_program.specs.Values.{comma_parts, part_offsets}
use Rattle.tlv_run.specs.BorrowedText.{text_in}
use Rattle.tlv_program.proofs.OffsetLemmas.{inside_offsets, last_part}
use Rattle.tlv_program.proofs.values.offset_list.Goals as goal

pub returns : goal.returns
returns c =
    let ns = c.loop-rest.offsets.items in
    let none : text_in c.loop-rest.rest ≡ None = search rules in
    inside_offsets c.new.result ns (search rules) (search rules) (search rules)
    ∙ last_part (part_offsets (comma_parts c.args.text.now)) ns (text_in c.loop-rest.rest) none c.loop-rest.invariant

pub loop-rest-preserved : goal.loop-rest-preserved
loop-rest-preserved c = grind (arith, common_steps)
