use Rattle.std.proofs.Common.{sym, ◌∙◌}
use Rattle.tlv_value.specs.Times.{hour, maybe, minute, sign}
use Rattle.tlv_value.proofs.CheckLemmas.Forms.{empty-left, empty-there, no-third, third}
use Rattle.tlv_value.proofs.time.is_generalized_difference.Goals as goal

pub returns-then-is_empty : goal.returns-then-is_empty
returns-then-is_empty c =
    empty-there minute c.in-Some.rest.now c.is_empty.result c.is_empty.ensures c.if-is_empty.true
    ∙ sym (third sign hour (maybe minute) c.args.octets.now c.in-Some.rest.now c.in-Some.ensures)

pub returns-else-is_empty : goal.returns-else-is_empty
returns-else-is_empty c =
    empty-left minute c.in-Some.rest.now c.is_minute.result c.is_empty.result c.is_empty.ensures c.if-is_empty.false
    c.is_minute.ensures
    ∙ sym (third sign hour (maybe minute) c.args.octets.now c.in-Some.rest.now c.in-Some.ensures)

pub returns-in-None : goal.returns-in-None
returns-in-None c = no-third sign hour (maybe minute) c.args.octets.now c.in-None.ensures
