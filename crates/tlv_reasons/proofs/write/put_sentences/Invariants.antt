use Rattle.std.proofs.Common.{flat_map, take}
use Rattle.tlv_io.proofs.Puts.{HasPut}
use Rattle.tlv_reasons.specs.Sentences.{sentence_text}
use Rattle.tlv_reasons.proofs.write.put_sentences.Given as goal

abbrev pub invariant-loop-sentence : goal.invariant-loop-sentence
invariant-loop-sentence g l =
    HasPut g.D.Drain.state l.initial.out l.out
    (flat_map (sentence_text l.octets) (take l.sentence-index l.sentences))
