use Rattle.std.proofs.Common.{◌∙◌, arith, append_assoc, rules, refl}
use Rattle.tlv_io.proofs.Puts.{puts_as, puts_failed_in, puts_then}
use Rattle.tlv_show.proofs.FindingLemmas.FindingLines.{next_line}
use Rattle.tlv_show.proofs.finding_lines.put_each.Goals as goal

pub returns-in_err-put_finding : goal.returns-in_err-put_finding
returns-in_err-put_finding g c =
    let i = c.loop-finding.invariant in
    (puts_failed_in g.D.Drain.state
    _ _ _ _ _ _ (puts_then g.D.Drain.state _ _ _ _ _ _ _ i.put.1 c.in_err-put_finding.ensures) (search rules)
    (record {
      rest = _;
      is =
          append_assoc i.put.0 _ _
          ∙ next_line c.args.style c.args.level c.args.offset i.put.0 _ _ c.args.findings.now
          c.loop-finding.finding-index _ (omega arith) refl i.put.2;
    }))

pub loop-finding-preserved : goal.loop-finding-preserved
loop-finding-preserved g c =
    let i = c.loop-finding.invariant in
    record {
      put = (
        _,
        puts_as g.D.Drain.state
            _ _ _ _ _ _ (puts_then g.D.Drain.state _ _ _ _ _ _ _ i.put.1 c.in_ok-put_finding.ensures) refl,
        append_assoc i.put.0 _ _
            ∙ next_line c.args.style c.args.level c.args.offset i.put.0 _ _ c.args.findings.now
            c.loop-finding.finding-index _ (omega arith) refl i.put.2,
      );
    }
