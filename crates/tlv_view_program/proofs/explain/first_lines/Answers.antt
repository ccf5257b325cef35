use Rattle.std.proofs.Common.{◌++◌, ◌∙◌, ap, arith, take}
use Rattle.tlv_view_program.proofs.LineLemmas.{line-feed, other-octet}
use Rattle.tlv_view_program.proofs.explain.first_lines.Goals.{then-octet-eq10, else-octet-eq10}
use Rattle.tlv_view_program.proofs.explain.first_lines.Goals as goal

pub loop-index-preserved : goal.loop-index-preserved
loop-index-preserved c =
    let i = c.loop-index.invariant in
    let text = c.args.text.now in
    elim c.if-octet-eq10.branch [
      | then-octet-eq10 w ↦ record {
        few = omega (arith, w.lines-is, i.few, c.if-lines-most.false);
        behind = omega (arith, w.end-is);
        lines = rw (w.end-is, w.lines-is)
            (i.lines
            ∙ line-feed c.args.most text c.loop-index.end c.loop-index.lines c.loop-index.index c.loop-index-test.true
            i.behind (omega (arith, i.few, c.if-lines-most.false)) w.if-octet-eq10.true);
      }
      | else-octet-eq10 w ↦ record {
        few = omega (arith, w.lines-is, i.few);
        behind = omega (arith, w.end-is, i.behind);
        lines = rw (w.end-is, w.lines-is)
            (i.lines
            ∙ ap (λ l. take c.loop-index.end text ++ l)
            (other-octet c.args.most text c.loop-index.end c.loop-index.lines c.loop-index.index c.loop-index-test.true
            i.behind w.if-octet-eq10.false));
      }
    ]
