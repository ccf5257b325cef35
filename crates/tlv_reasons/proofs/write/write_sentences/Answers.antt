use Rattle.std.proofs.Common.{rules}
use Rattle.tlv_io.proofs.Sends.{sends_flushed}
use Rattle.tlv_reasons.proofs.write.write_sentences.Goals as goal

pub returns : goal.returns
returns g c =
    sends_flushed g.D.Drain.state c.new-out.result c.put_sentences.new.out c.flush.new.self c.args.drain.now _ _ tt tt
    (search rules) c.new-out.ensures.empty (search rules) c.in_ok-put_sentences.ensures
    c.in_ok-flush.ensures.puts c.in_ok-flush.ensures.empty
