use Rattle.std.proofs.Common.{sym, ◌∙◌, arith}
use Rattle.tlv_value.proofs.NamesLemmas.Texts.{shorter_end, last_end, empty_end}
use Rattle.tlv_value.proofs.names.names_line.without_last_blanks.Goals as goal
use Rattle.tlv_value.proofs.names.names_line.without_last_blanks.Goals.{then-loop-end-test+else-is_blank}
use Rattle.tlv_value.proofs.names.names_line.without_last_blanks.Goals.{else-loop-end-test}

pub loop-end-preserved : goal.loop-end-preserved
loop-end-preserved c = record {
  within = omega arith;
  same =
      c.loop-end.invariant.same
      ∙ shorter_end c.args.text.now c.loop-end.end (omega arith) c.loop-end.invariant.within
      (sym c.is_blank.ensures ∙ c.if-is_blank.true);
}

pub returns : goal.returns
returns c =
    elim c.loop-end-test.branch [
      | then-loop-end-test+else-is_blank w ↦
          sym (c.loop-end.invariant.same
          ∙ last_end c.args.text.now c.loop-end.end w.loop-end-test.true c.loop-end.invariant.within
          (sym w.is_blank.ensures ∙ w.if-is_blank.false))
      | else-loop-end-test w ↦ sym (c.loop-end.invariant.same ∙ empty_end c.args.text.now c.loop-end.end (omega arith))
    ]
