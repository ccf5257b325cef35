use Rattle.std.proofs.Common.{◌≡◌, sym, ◌∙◌}
use Rattle.tlv_head.proofs.GrammarLemmas.Scan.{origin_of}
use Rattle.tlv_head.proofs.GrammarLemmas.Headers.{one-header}
use Rattle.tlv_head.proofs.laws.octets_begin_one_header.Goals as goal

pub returns : goal.returns
returns c = λ input offset named h g p q.
    let origin : origin_of h ≡ origin_of g =
    (λ i. record { offset = (p.offset ∙ sym q.offset) i; named = (p.named ∙ sym q.named) i }) in
    one-header h g p.rest q.rest p.valid q.valid origin (sym p.octets_are ∙ q.octets_are)
