use Rattle.std.proofs.Common.{rules}
use Rattle.tlv_reasons.specs.Sentences.{sentence_text}
use Rattle.tlv_reasons.proofs.PartLemmas.{fails_part, puts_part}
use Rattle.tlv_reasons.proofs.write.put_sentences.Goals as goal

pub returns-in_err-put_sentence : goal.returns-in_err-put_sentence
returns-in_err-put_sentence g c =
    fails_part (sentence_text c.args.octets.now) g.D.Drain.state _ _ _ c.args.sentences.now c.loop-sentence.sentence-index
    _ _ _ c.loop-sentence-test.true c.loop-sentence.invariant c.in_err-put_sentence.ensures (search rules)

pub loop-sentence-preserved : goal.loop-sentence-preserved
loop-sentence-preserved g c =
    puts_part (sentence_text c.args.octets.now) g.D.Drain.state _ _ _ c.args.sentences.now c.loop-sentence.sentence-index
    _ c.loop-sentence-test.true c.loop-sentence.invariant c.in_ok-put_sentence.ensures
