use Rattle.std.proofs.Common.{rules}
use Rattle.tlv_io.proofs.Sends.{sends_failed, sends_flushed}
use Rattle.tlv_view_program.proofs.explain.write_findings.Goals as goal

pub returns-in_err-flush : goal.returns-in_err-flush
returns-in_err-flush g c =
    sends_failed g.D.Drain.state c.new-out.result c.put_findings_text.new.out c.flush.new.self c.args.drain.now _ _ tt _ _
    (search rules) c.new-out.ensures.empty (search rules) c.in_ok-put_findings_text.ensures c.in_err-flush.ensures.puts
    (search rules)

pub returns : goal.returns
returns g c =
    sends_flushed g.D.Drain.state c.new-out.result c.put_findings_text.new.out c.flush.new.self c.args.drain.now _ _ tt tt
    (search rules) c.new-out.ensures.empty (search rules) c.in_ok-put_findings_text.ensures c.in_ok-flush.ensures.puts
    c.in_ok-flush.ensures.empty
