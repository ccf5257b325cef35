use Rattle.std.proofs.Common.{rules}
use Rattle.tlv_io.proofs.Puts.{puts_failed, puts_then}
use Rattle.tlv_view_program.proofs.explain.put_findings_text.Goals as goal

pub returns-in_err-put_findings : goal.returns-in_err-put_findings
returns-in_err-put_findings g c =
    puts_failed g.D.Drain.state _ _ _ _ _ _ c.in_err-put_findings.ensures (search rules)

pub returns : goal.returns
returns g c =
    puts_then g.D.Drain.state _ _ _ _ _ tt _ c.in_ok-put_findings.ensures
    (rw c.first_lines.ensures at c.put.ensures.puts)
