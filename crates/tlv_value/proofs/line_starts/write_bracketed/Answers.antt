use Rattle.std.proofs.Common.{◌≡◌, ◌≤◌, ◌+◌, ◌++◌, ◌∷◌, ◌∙◌, List, ℕ, [], ap, append_assoc, arith}
use Rattle.std.proofs.Common.{decimal, length, refl, take}
use Rattle.tlv_io.proofs.HeldTexts.{length-added}
use Rattle.tlv_value.proofs.TextLemmas.LineLengths.{prefix_short, number_short}
use Rattle.tlv_value.proofs.line_starts.write_bracketed.Goals as goal

pub add-requires : goal.add-requires
add-requires c =
    let block = c.bracket_block-count in
    omega (
      arith,
      prefix_short _ _ block.result.0.now block.result.1 c.add_prefix.ensures,
      number_short _ _ _ c.ranges.number.fits c.number.ensures,
      c.requires,
      block.ensures.within,
    )

pub returns : goal.returns
returns c =
    let block = c.bracket_block-count in
    let prefix : List ℕ = take block.result.1 block.result.0.now in
    let all : c.add.new.self ≡ c.args.held.now ++ (prefix ++ decimal c.args.number ++ 93 ∷ []) =
    rw (c.add.ensures, c.number.ensures, c.add_prefix.ensures) (simp append_assoc refl) in
    let fewer : length c.add.new.self ≤ length c.args.held.now + 40 =
    omega (
      arith,
      prefix_short _ _ block.result.0.now block.result.1 c.add_prefix.ensures,
      number_short _ _ _ c.ranges.number.fits c.number.ensures,
      length-added _ _ (93 ∷ []) c.add.ensures,
      block.ensures.within,
    ) in
    record {
      universal = λ is. record {
        text = all
            ∙ ap (λ (l : List ℕ). c.args.held.now ++ (l ++ decimal c.args.number ++ 93 ∷ []))
            (block.ensures.universal is);
        within = fewer;
      };
      other = λ is. record {
        text = all ∙ ap (λ (l : List ℕ). c.args.held.now ++ l) (block.ensures.other is c.args.number);
        within = fewer;
      };
    }
