use Rattle.std.proofs.Common.{◌∙◌, sym, arith}
use Rattle.std.proofs.lemmas.Bool.{ltb-true}
use Rattle.tlv_reasons.proofs.TextLemmas.{lf-same, lf-sound, lf-undone}
use Rattle.tlv_reasons.proofs.text_copies.undone_line_ends.Goals.{else-len-octets, then-len-octets}
use Rattle.tlv_reasons.proofs.text_copies.undone_line_ends.Goals as goal

pub returns : goal.returns
returns c = elim c.if-len-octets.branch [
  | then-len-octets b ↦ (
    (λ t. lf-undone c.args.padding c.args.octets.now c.in_ok-copy.copy.items b.as_slice.result.now c.in_ok-copy.ensures
        b.as_slice.ensures.value (omega (arith, b.if-len-octets.true, c.len.ensures))
        (b.is_sound.ensures.0 (sym b.result-is ∙ t))),
    (λ s. b.result-is ∙ b.is_sound.ensures.1 (lf-sound c.args.padding c.args.octets.now c.in_ok-copy.copy.items
        b.as_slice.result.now c.in_ok-copy.ensures b.as_slice.ensures.value s)),
  )
  | else-len-octets b ↦ (
    (λ t. absurd (omega (arith, ltb-true _ _ (sym b.result-is ∙ t), b.if-len-octets.false))),
    (λ s. absurd (lf-same c.args.padding c.args.octets.now c.in_ok-copy.copy.items c.in_ok-copy.ensures
        (omega (arith, b.if-len-octets.false, c.len.ensures)) s)),
  )
]
