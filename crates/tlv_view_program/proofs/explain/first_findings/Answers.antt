use Rattle.std.proofs.Common.{rules, sym}
use Rattle.std.proofs.lemmas.Result.{IfOk-weaker}
use Rattle.tlv_view_program.proofs.FirstOctets.{no-findings, some-findings}
use Rattle.tlv_view_program.proofs.explain.first_findings.Goals as goal

pub returns : goal.returns
returns g c =
    IfOk-weaker c.first_octets.result _ _
    (λ first are. some-findings _ c.args.closed c.args.padding c.args.octets.now c.args.message.now first.items
    (search rules) are) c.first_octets.ensures

pub returns-then-is_empty : goal.returns-then-is_empty
returns-then-is_empty g c =
    no-findings _ c.args.closed c.args.padding c.args.octets.now c.args.message.now _ (sym c.if-is_empty.ensures)
    c.new.ensures
