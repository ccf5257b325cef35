use Rattle.std.proofs.Common.{◌∙◌}
use Rattle.tlv_text.proofs.NumberLemmas.{alone-before, alone-refused, some-mapped}
use Rattle.tlv_text.specs.Private.NumberSteps.{list_value}
use Rattle.tlv_text.proofs.numbers.only_list.Goals as goal

pub returns-then-is_none : goal.returns-then-is_none
returns-then-is_none c =
    alone-before c.args.rest.now (list_value c.args.list) _ c.in_ok-first_list.ensures.list
    (some-mapped list_value c.in_ok-first_list.field-0 ∙ c.if-is_none.ensures)

pub returns : goal.returns
returns c =
    alone-refused c.args.rest.now c.first_list.new.text.now (list_value c.args.list) _ _ c.or.ensures
    c.in_ok-first_list.ensures.list (some-mapped list_value c.in_ok-first_list.field-0 ∙ c.if-is_none.ensures)
    c.in_ok-first_list.ensures.rest
