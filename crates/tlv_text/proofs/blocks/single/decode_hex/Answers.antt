use Rattle.std.proofs.Common.{◌≡◌, ◌∙◌, ap, sym}
use Rattle.tlv_text.specs.Blocks.{hex_read}
use Rattle.tlv_text.specs.Pairs.{pairs_read}
use Rattle.tlv_text.specs.TextRead.{TextRead, refused_at}
use Rattle.tlv_text.proofs.BlockLemmas.{hex-of_pairs, hex-without_tokens}
use Rattle.tlv_text.proofs.blocks.single.decode_hex.Goals as goal
use Rattle.tlv_text.proofs.blocks.single.decode_hex.Goals.{then-is_none-via-then-is_none}
use Rattle.tlv_text.proofs.blocks.single.decode_hex.Goals.{then-is_none-via-else-is_none+then-not-has_tokens}

-- the text is read as pairs: it is pairs to its end, or has no tokens
are-pairs : (c : goal.Joined-then-is_none) → hex_read c.args.text.now ≡ pairs_read c.args.text.now
are-pairs c =
    elim c.then-is_none.branch [
      | then-is_none-via-then-is_none w ↦
          hex-of_pairs c.args.text.now c.in_ok-pairs.pairs.refused c.in_ok-pairs.ensures.refused w.if-is_none.ensures
      | then-is_none-via-else-is_none+then-not-has_tokens w ↦
          hex-without_tokens c.args.text.now (λ two. absurd (cc (w.if-not-has_tokens.ensures.1 two)))
    ]

pub returns-then-is_none-clause-octets : goal.returns-then-is_none-clause-octets
returns-then-is_none-clause-octets c =
    c.in_ok-pairs.ensures.octets ∙ ap (λ (r : TextRead). r.octets) (sym (are-pairs c))

pub returns-then-is_none-clause-refused : goal.returns-then-is_none-clause-refused
returns-then-is_none-clause-refused c =
    c.in_ok-pairs.ensures.refused
    ∙ ap (λ (r : TextRead). refused_at c.args.text.now r.rest) (sym (are-pairs c))
