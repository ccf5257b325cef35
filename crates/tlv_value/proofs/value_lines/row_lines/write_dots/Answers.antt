use Rattle.std.proofs.Common.{◌++◌, ◌∷◌, [], ◌∙◌, List, ℕ, ap, append_assoc, arith, sym}
use Rattle.std.specs.Prelude.{codes}
use Rattle.std.proofs.lemmas.List.{length-replicate}
use Rattle.tlv_value.specs.Layout.{spaces}
use Rattle.tlv_value.specs.Private.Rows.{row_margin}
use Rattle.tlv_io.proofs.HeldTexts.{length-added}
use Rattle.tlv_value.proofs.value_lines.row_lines.write_dots.Goals as goal

pub spaces-requires : goal.spaces-requires
spaces-requires c = omega (arith, c.requires, c.row_indent.ensures.within)

pub add-requires : goal.add-requires
add-requires c =
    omega (
      arith,
      c.requires,
      c.row_indent.ensures.within,
      length-added _ _ (spaces c.row_indent.result) c.spaces.ensures,
      length-replicate {A = ℕ} c.row_indent.result 32,
    )

pub returns : goal.returns
returns c =
    let held : List ℕ = c.args.held.now in
    let indent : List ℕ = row_margin c.args.layout in
    let dots : List ℕ = codes "...\n" in
    c.add.ensures
    ∙ ap (λ (l : List ℕ). l ++ dots) (c.spaces.ensures ∙ ap (λ (l : List ℕ). held ++ l) c.row_indent.ensures.text)
    ∙ append_assoc held indent dots
    ∙ ap (λ (l : List ℕ). held ++ l) (sym (append_assoc indent (codes "...") (10 ∷ [])))
