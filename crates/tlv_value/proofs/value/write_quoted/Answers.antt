use Rattle.std.proofs.Common.{◌++◌, ◌∷◌, [], List, ℕ, length, ap, ◌∙◌, arith, append_assoc, length-append}
use Rattle.std.specs.Prelude.{flat_map}
use Rattle.tlv_value.specs.Units.{unit_text, units}
use Rattle.tlv_value.proofs.TextLemmas.RowTextLengths.{units-short}
use Rattle.tlv_value.proofs.value.write_quoted.Goals as goal

pub write_characters-requires : goal.write_characters-requires
write_characters-requires c =
    omega (
      arith,
      ap length c.add.ensures,
      length-append c.args.held.now (32 ∷ 34 ∷ []),
      c.requires.short,
      c.requires.room,
    )

pub add-requires-2 : goal.add-requires-2
add-requires-2 c =
    let text : List ℕ = flat_map (unit_text c.args.kind) (units c.args.kind c.args.row.now) in
    omega (
      arith,
      ap length c.write_characters.ensures,
      length-append c.add.new.self text,
      ap length c.add.ensures,
      length-append c.args.held.now (32 ∷ 34 ∷ []),
      units-short c.args.kind c.args.row.now,
      c.requires.short,
      c.requires.room,
    )

pub returns : goal.returns
returns c =
    let text : List ℕ = flat_map (unit_text c.args.kind) (units c.args.kind c.args.row.now) in
    c.add-2.ensures
    ∙ ap (λ (l : List ℕ). l ++ 34 ∷ []) (c.write_characters.ensures ∙ ap (λ (l : List ℕ). l ++ text) c.add.ensures)
    ∙ append_assoc (c.args.held.now ++ 32 ∷ 34 ∷ []) text (34 ∷ [])
    ∙ append_assoc c.args.held.now (32 ∷ 34 ∷ []) (text ++ 34 ∷ [])
