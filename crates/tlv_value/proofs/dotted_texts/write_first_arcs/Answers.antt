use Rattle.std.proofs.Common.{arith}
use Rattle.std.specs.Prelude.{◌-◌}
use Rattle.tlv_value.proofs.TextLemmas.Arcs.{arcs-0, arcs-1, arcs-2, first-text}
use Rattle.tlv_value.proofs.dotted_texts.write_first_arcs.Goals as goal

pub returns-then-number-lt40 : goal.returns-then-number-lt40
returns-then-number-lt40 c =
    first-text c.args.held.now c.add.new.self c.wide_number.new.self c.args.number 0 c.args.number (omega arith)
    (arcs-0 c.args.number (omega arith)) c.add.ensures c.wide_number.ensures

pub returns-then-number-lt80 : goal.returns-then-number-lt80
returns-then-number-lt80 c =
    first-text c.args.held.now c.add-then-number-lt80.new.self c.wide_number-then-number-lt80.new.self c.args.number 1
    (c.args.number - 40) (omega arith)
    (arcs-1 c.args.number (omega arith) (omega arith)) c.add-then-number-lt80.ensures
    c.wide_number-then-number-lt80.ensures

pub returns-else-number-lt80 : goal.returns-else-number-lt80
returns-else-number-lt80 c =
    first-text c.args.held.now c.add-else-number-lt80.new.self c.wide_number-else-number-lt80.new.self c.args.number 2
    (c.args.number - 80) (omega arith)
    (arcs-2 c.args.number (omega arith)) c.add-else-number-lt80.ensures c.wide_number-else-number-lt80.ensures
