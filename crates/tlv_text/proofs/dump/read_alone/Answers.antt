use Rattle.std.proofs.Common.{ap, ◌∙◌, subst}
use Rattle.tlv_text.proofs.DumpStepLemmas.{first-read, first-refused, place-of_none}
use Rattle.tlv_text.specs.Dump.{DumpPlace, rows_read}
use Rattle.tlv_text.specs.DumpLines.{dump_lines}
use Rattle.tlv_text.specs.Private.DumpSteps.{IsAdded}
use Rattle.tlv_text.specs.declared.dump.rows.Phase.{Phase}
use Rattle.tlv_text.proofs.dump.read_alone.Goals as goal

pub returns-then-not-branch : goal.returns-then-not-branch
returns-then-not-branch c =
    first-refused c.args.limit _ c.in_ok-add_single.field-0 c.no_octets-output.result c.add_single.new.output c.args.left _ _
    c.if-not-branch.true c.in_ok-add_single.ensures c.refused.ensures

pub returns : goal.returns
returns c =
    let place = place-of_none Phase.End c.args.row.offset c.new.result.items c.new.ensures in
    first-read c.args.limit _ c.in_ok-add_single.field-0 c.no_octets-output.result c.add_single.new.output c.args.left _ _
    c.if-not-branch.false c.in_ok-add_single.ensures c.no_octets-output.ensures
    (subst (λ (p : DumpPlace). IsAdded (rows_read c.args.radix 16 p (dump_lines c.args.rest.now)).octets
    c.add_single.new.output c.read_rows.new.output) place c.in_ok-left.ensures.octets)
    (c.in_ok-left.ensures.left
    ∙ ap (λ (p : DumpPlace). (rows_read c.args.radix 16 p (dump_lines c.args.rest.now)).left) place)
