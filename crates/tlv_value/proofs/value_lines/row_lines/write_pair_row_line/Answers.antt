use Rattle.std.proofs.Common.{◌-◌, ◌++◌, ◌∷◌, [], ◌∙◌, Bool, List, ℕ, ap, arith}
use Rattle.std.proofs.lemmas.List.{length-replicate}
use Rattle.std.specs.Prelude.{eqb, not}
use Rattle.tlv_io.proofs.HeldTexts.{length-added}
use Rattle.tlv_value.specs.Layout.{spaces}
use Rattle.tlv_value.specs.Private.UndottedText.{line_pairs}
use Rattle.tlv_value.proofs.RowLemmas.FullRows.{full_line_added}
use Rattle.tlv_value.proofs.TextLemmas.RowTextLengths.{row-short}
use Rattle.tlv_value.proofs.value_lines.row_lines.write_pair_row_line.Goals as goal

pub write_full_row-requires : goal.write_full_row-requires
write_full_row-requires g c =
    let indent : ℕ = c.row_indent.result - 1 in
    omega (
      arith,
      length-added _ _ (spaces indent) c.spaces.ensures,
      length-replicate {A = ℕ} indent 32,
      c.row_indent.ensures.within,
      c.requires,
    )

pub add-requires : goal.add-requires
add-requires g c =
    let indent : ℕ = c.row_indent.result - 1 in
    let with_text : Bool = not (eqb g.row.WITH_TEXT 0) in
    omega (
      arith,
      length-added _ _ (spaces indent) c.spaces.ensures,
      length-replicate {A = ℕ} indent 32,
      length-added _ _ (line_pairs with_text c.args.row.now) c.write_full_row.ensures,
      row-short with_text c.args.row.now,
      c.told-row,
      c.row_indent.ensures.two_or_more,
      c.requires,
    )

pub returns : goal.returns
returns g c =
    let with_text : Bool = not (eqb g.row.WITH_TEXT 0) in
    c.add.ensures
    ∙ ap (λ (l : List ℕ). l ++ 10 ∷ [])
    (c.write_full_row.ensures ∙ ap (λ (l : List ℕ). l ++ line_pairs with_text c.args.row.now) c.spaces.ensures)
    ∙ full_line_added with_text c.args.layout c.args.held.now c.args.row.now c.row_indent.result
    c.row_indent.ensures.text c.row_indent.ensures.two_or_more c.told-row
