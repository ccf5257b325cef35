use Rattle.std.proofs.Common.{rules, ltb-true, sym, ◌∙◌}
use Rattle.std.proofs.lemmas.Bool.{ne_eqb}
use Rattle.tlv_text.proofs.BodyLemmas.{counted-escaped_feed, counted-feed, counted-last, counted-other, counted-return}
use Rattle.tlv_text.proofs.body.headers_size.Goals as goal
use Rattle.tlv_text.proofs.body.headers_size.Goals.{then-rest-lt2, in-len2-up-2+else-is_escaped_return}

pub loop-rest-preserved-then-x-eq10 : goal.loop-rest-preserved-then-x-eq10
loop-rest-preserved-then-x-eq10 c =
    let i = c.loop-rest.invariant in
    record {
      size = counted-feed _ _ c.loop-rest.blank c.loop-rest.rest.now c.in-len1-up.len_at_least c.if-x-eq10.true
          c.if-blank.false i.size;
      less = search rules;
    }

pub loop-rest-preserved-then-is_escaped_line_feed : goal.loop-rest-preserved-then-is_escaped_line_feed
loop-rest-preserved-then-is_escaped_line_feed c =
    let i = c.loop-rest.invariant in
    record {
      size = counted-escaped_feed _ _ c.loop-rest.blank c.loop-rest.rest.now c.in-len2-up.len_at_least
          (ne_eqb _ _ c.if-x-eq10.false) (sym c.is_escaped_line_feed.ensures ∙ c.if-is_escaped_line_feed.true)
          c.if-blank-2.false i.size;
      less = search rules;
    }

pub loop-rest-preserved-then-is_escaped_return : goal.loop-rest-preserved-then-is_escaped_return
loop-rest-preserved-then-is_escaped_return c =
    let i = c.loop-rest.invariant in
    record {
      size = counted-return _ _ c.loop-rest.blank c.loop-rest.rest.now c.in-len2-up.len_at_least
          (ne_eqb _ _ c.if-x-eq10.false) (sym c.is_escaped_line_feed.ensures ∙ c.if-is_escaped_line_feed.false)
          (sym c.is_escaped_return.ensures ∙ c.if-is_escaped_return.true) i.size;
      less = search rules;
    }

pub loop-rest-preserved : goal.loop-rest-preserved
loop-rest-preserved c =
    let i = c.loop-rest.invariant in
    record {
      size = elim c.in-len1-up-2-1.branch [
        | then-rest-lt2 w ↦
            counted-last _ _ c.loop-rest.blank _ c.loop-rest.rest.now c.in-len1-up.len_at_least
            (ltb-true _ 2 w.if-rest-lt2-1.true)
            i.size
        | in-len2-up-2+else-is_escaped_return w ↦
            counted-other _ _ c.loop-rest.blank _ c.loop-rest.rest.now w.in-len2-up.len_at_least
            (ne_eqb _ _ c.if-x-eq10.false) (sym w.is_escaped_line_feed.ensures ∙ w.if-is_escaped_line_feed.false)
            (sym w.is_escaped_return.ensures ∙ w.if-is_escaped_return.false) c.stays_blank-blank.ensures i.size
      ];
      less = search rules;
    }
