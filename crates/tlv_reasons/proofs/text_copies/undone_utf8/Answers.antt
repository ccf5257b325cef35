use Rattle.std.proofs.Common.{◌≡◌, ◌∙◌, sym, arith}
use Rattle.std.proofs.lemmas.Bool.{ltb-true}
use Rattle.std.specs.Prelude.{Some}
use Rattle.tlv_reasons.specs.TextCopies.{latin1_of_utf8}
use Rattle.tlv_reasons.proofs.TextLemmas.{utf8-same, utf8-sound, utf8-undone}
use Rattle.tlv_reasons.proofs.text_copies.undone_utf8.Goals.{else-len-octets, then-len-octets}
use Rattle.tlv_reasons.proofs.text_copies.undone_utf8.Goals as goal

pub returns-after-len-octets : goal.returns-after-len-octets
returns-after-len-octets c =
    let k : Some c.in-Some.characters.items ≡ latin1_of_utf8 c.args.octets.now =
    rw c.in-Some.is at c.in_ok-characters.ensures in
    elim c.if-len-octets.branch [
      | then-len-octets b ↦ (
        (λ t. utf8-undone c.args.padding c.args.octets.now c.in-Some.characters.items b.as_slice.result.now k
            b.as_slice.ensures.value (omega (arith, b.if-len-octets.true, c.len.ensures))
            (b.is_sound.ensures.0 (sym b.result-is ∙ t))),
        (λ s. b.result-is ∙ b.is_sound.ensures.1 (utf8-sound c.args.padding c.args.octets.now
            c.in-Some.characters.items b.as_slice.result.now k b.as_slice.ensures.value s)),
      )
      | else-len-octets b ↦ (
        (λ t. absurd (omega (arith, ltb-true _ _ (sym b.result-is ∙ t), b.if-len-octets.false))),
        (λ s. absurd (utf8-same c.args.padding c.args.octets.now c.in-Some.characters.items k
            (omega (arith, b.if-len-octets.false, c.len.ensures)) s)),
      )
    ]
