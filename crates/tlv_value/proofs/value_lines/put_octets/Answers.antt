use Rattle.std.proofs.Common.{◌++◌, ◌∷◌, [], ◌∙◌, ℕ, List, refl, ap, append_assoc, arith}
use Rattle.tlv_io.proofs.Puts.{puts_held, puts_then_as}
use Rattle.tlv_value.specs.Private.UndottedText.{line_pairs}
use Rattle.tlv_io.proofs.HeldTexts.{length-added}
use Rattle.tlv_value.proofs.TextLemmas.RowTextLengths.{pairs-short}
use Rattle.tlv_value.proofs.TextLemmas.ObjectLines.{octets_long, octets_short}
use Rattle.tlv_value.proofs.value_lines.put_octets.Goals as goal

pub add-requires : goal.add-requires
add-requires g c =
    omega (
      arith,
      length-added _ _ (line_pairs c.args.with_text c.args.contents.now) c.write_pairs.ensures,
      pairs-short c.args.with_text c.args.contents.now c.requires.short,
      c.requires.room,
    )

pub returns : goal.returns
returns g c =
    let state_of = g.D.Drain.state in
    puts_then_as state_of _ _ _ _ _ _ (tt {0}) _ (puts_held state_of _ _ (10 ∷ []) (tt {0}) refl c.add-2.ensures)
    c.put_all_rows.ensures
    (octets_long c.args.with_text c.args.layout c.args.contents.now (omega (arith, c.if-contents-le16.false)))

pub returns-then-contents-le16 : goal.returns-then-contents-le16
returns-then-contents-le16 g c =
    let text : List ℕ = line_pairs c.args.with_text c.args.contents.now in
    let all =
    c.add.ensures ∙ ap (λ (l : List ℕ). l ++ 10 ∷ []) c.write_pairs.ensures
    ∙ append_assoc c.args.out.now.held text (10 ∷ []) in
    puts_held g.D.Drain.state _ _ _ _ refl
    (all
    ∙ ap (λ (l : List ℕ). c.args.out.now.held ++ l)
    (octets_short c.args.with_text c.args.layout c.args.contents.now c.if-contents-le16.true))
