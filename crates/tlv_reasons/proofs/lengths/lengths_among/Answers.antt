use Rattle.std.proofs.Common.{◌<◌, arith, length}
use Rattle.tlv_reasons.specs.WrongLength.{most_named}
use Rattle.tlv_reasons.proofs.LengthLemmas.{candidates-end, candidates-enough, candidates-more, few-named}
use Rattle.tlv_reasons.proofs.lengths.lengths_among.Goals as goal

pub returns-then-len-most : goal.returns-then-len-most
returns-then-len-most c =
    candidates-enough c.args.framing.now c.args.bounds c.args.octets.now c.args.holders.now c.args.candidates.now
    c.loop-candidate.candidate-index _ c.loop-candidate.found.items
    (omega (arith, c.if-len-most.true, c.len.ensures.value, c.most_named-most.ensures.most))
    c.loop-candidate.invariant.so_far

pub loop-candidate-preserved : goal.loop-candidate-preserved
loop-candidate-preserved c =
    let less : length c.loop-candidate.found.items < most_named c.args.bounds.wide =
    omega (arith, c.if-len-most.false, c.len.ensures.value, c.most_named-most.ensures.most) in
    record {
      copied = c.wrong_length_at-wrong.ensures.copied;
      few = rw c.add_length.ensures (few-named _ c.loop-candidate.found.items c.wrong_length_at-wrong.result less);
      so_far =
          rw c.add_length.ensures
          (candidates-more c.args.framing.now c.args.bounds c.args.octets.now c.args.holders.now c.args.candidates.now
          c.loop-candidate.candidate-index _ c.loop-candidate.found.items c.wrong_length_at-wrong.result
          c.loop-candidate-test.true less c.wrong_length_at-wrong.ensures.found c.loop-candidate.invariant.so_far);
    }

pub returns : goal.returns
returns c =
    candidates-end c.args.framing.now c.args.bounds c.args.octets.now c.args.holders.now c.args.candidates.now
    c.loop-candidate.candidate-index _ c.loop-candidate.found.items c.loop-candidate-test.false
    c.loop-candidate.invariant.so_far
