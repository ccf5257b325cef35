use Rattle.std.proofs.Common.{arith}
use Rattle.tlv_text.proofs.PemLemmas.{block-found-in, marker-within, no-block-in, none-before_next_in}
use Rattle.tlv_text.proofs.pem.first_block.Goals as goal

pub returns-in-Some-label_length : goal.returns-in-Some-label_length
returns-in-Some-label_length c =
    let i = c.loop-more.invariant in
    block-found-in c.args.text.now _ _ _ _ c.loop-more.start c.in-Some.more c.in-Some-label_length.length
    c.in-Some.ensures i.before c.in-Some-label_length.ensures c.split_at.ensures.front c.split_at.ensures.back
    c.split_body.ensures

pub loop-more-preserved : goal.loop-more-preserved
loop-more-preserved c =
    let i = c.loop-more.invariant in
    record {
      within = omega (arith, marker-within c.args.text.now c.loop-more.start c.in-Some.more c.in-Some.ensures);
      before = none-before_next_in c.args.text.now c.loop-more.start c.in-Some.more c.in-Some.ensures i.before
          c.in_default-label_length.ensures;
    }

pub returns : goal.returns
returns c = no-block-in c.args.text.now c.loop-more.start c.in_default.ensures c.loop-more.invariant.before
