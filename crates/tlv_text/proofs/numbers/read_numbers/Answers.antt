use Rattle.std.proofs.Common.{◌∙◌, ap, refl, sym}
use Rattle.std.specs.Prelude.{option_map}
use Rattle.tlv_text.proofs.NumberLemmas.{first-only}
use Rattle.tlv_text.specs.Private.NumberSteps.{list_value}
use Rattle.tlv_text.proofs.numbers.read_numbers.Goals as goal

pub returns-clause-list : goal.returns-clause-list
returns-clause-list c =
    let list = c.in_ok-list-2.list in (
      list_value list,
      first-only c.args.text.now c.first_list.new.text.now (list_value c.in-Some.list) (list_value list)
          (ap (option_map list_value) (sym c.in-Some.is) ∙ c.in_ok-list.ensures.list) c.in_ok-list.ensures.rest
          c.in_ok-list-2.ensures,
      refl,
      c.refused_in.ensures,
    )
