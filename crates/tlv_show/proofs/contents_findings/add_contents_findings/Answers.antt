use Rattle.std.proofs.Common.{sym, ◌∙◌}
use Rattle.tlv_value.proofs.CheckLemmas.Filtered.{filter-hidden, kept, next-within, stays-within}
use Rattle.tlv_show.specs.ShownFindings.{is_shown}
use Rattle.tlv_show.proofs.contents_findings.add_contents_findings.Goals as goal
use Rattle.tlv_show.proofs.contents_findings.add_contents_findings.Goals.{then-is_shown, else-is_shown}

pub loop-finding-preserved : goal.loop-finding-preserved
loop-finding-preserved c =
    let l = c.as_slice-finding-items.result.now in
    let old = c.loop-finding.invariant in
    elim c.if-is_shown.branch [
      | then-is_shown w ↦
          rw w.found-is
          (record {
            kept =
                kept (is_shown c.args.wanted) l _ c.loop-finding.finding-index _ c.loop-finding-test.true old.kept
                _ (sym c.is_shown.ensures ∙ w.if-is_shown.true) w.push.ensures.items;
            short = next-within _ _ _ old.short w.push.ensures.len;
            all = old.all;
            all_short = old.all_short;
          })
      | else-is_shown w ↦
          rw w.found-is
          (record {
            kept =
                filter-hidden (is_shown c.args.wanted) l _ c.loop-finding.finding-index _ c.loop-finding-test.true
                old.kept
                (sym c.is_shown.ensures ∙ w.if-is_shown.false);
            short = stays-within _ _ old.short;
            all = old.all;
            all_short = old.all_short;
          })
    ]
