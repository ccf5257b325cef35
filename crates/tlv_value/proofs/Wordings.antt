-- The wordings of findings: the code, which has three octets, a space and the text.
use Rattle.std.proofs.Common.{◌≡◌, ℕ, ◌+◌, ◌-◌, ◌≤◌, List, [], ◌∷◌, ◌++◌, length, take, drop, refl, arith, sym, ap, ◌∙◌}
use Rattle.std.proofs.lemmas.List.{append_assoc, drop-take, length-append, length-take-le, take-take, take_at}
use Rattle.std.proofs.Math.Seq.{drop-append-add}
use Rattle.tlv_value.specs.declared.finding.Finding.{Finding}
use Rattle.tlv_value.specs.declared.finding.Finding.TheVariants.{B01, B02, B03, B04, B05, B06, B07, B08, B09, B10, B11}
use Rattle.tlv_value.specs.declared.finding.Finding.TheVariants.{B12, B13, B14, B15, B16, B17, B18, B19, S01, S02, S03}
use Rattle.tlv_value.specs.declared.finding.Finding.TheVariants.{S04, D01, D02, C01, C02, C03, C04, C05, C06}
use Rattle.tlv_value.specs.declared.finding.Finding.TheVariants.{B20, B21, B22, B23, B24, B25, B26, B27, B28, B29, B30}
use Rattle.tlv_value.specs.declared.finding.Finding.TheVariants.{S05, S06}
use Rattle.tlv_value.specs.Finding.{finding_code}

pub code_size : (finding : Finding) → length (finding_code finding) ≡ 3
code_size B01 = refl
code_size B02 = refl
code_size B03 = refl
code_size B04 = refl
code_size B05 = refl
code_size B06 = refl
code_size B07 = refl
code_size B08 = refl
code_size B09 = refl
code_size B10 = refl
code_size B11 = refl
code_size B12 = refl
code_size B13 = refl
code_size B14 = refl
code_size B15 = refl
code_size B16 = refl
code_size B17 = refl
code_size B18 = refl
code_size B19 = refl
code_size B20 = refl
code_size B21 = refl
code_size B22 = refl
code_size B23 = refl
code_size B24 = refl
code_size B25 = refl
code_size B26 = refl
code_size B27 = refl
code_size B28 = refl
code_size B29 = refl
code_size B30 = refl
code_size S01 = refl
code_size S02 = refl
code_size S03 = refl
code_size S04 = refl
code_size S05 = refl
code_size S06 = refl
code_size D01 = refl
code_size D02 = refl
code_size C01 = refl
code_size C02 = refl
code_size C03 = refl
code_size C04 = refl
code_size C05 = refl
code_size C06 = refl

-- a block begins with a code, a space, a text and a line feed
module _ (whole code text : List ℕ) (count : ℕ)
    (size : length code ≡ 3) (few : 5 ≤ count) (e : take count whole ≡ (code ++ 32 ∷ text) ++ 10 ∷ []) where
  parts : take count whole ≡ code ++ 32 ∷ (text ++ 10 ∷ [])
  parts = e ∙ append_assoc code (32 ∷ text) (10 ∷ [])

  pub code_is_prefix : take 3 whole ≡ code
  code_is_prefix =
      sym (take-take 3 count whole (omega arith)) ∙ ap (take 3) parts ∙ take_at code (32 ∷ (text ++ 10 ∷ [])) 3 size

  pub text_at_end : take (count - 4) (drop 4 whole) ≡ text ++ 10 ∷ []
  text_at_end =
      let code_end : length code + 1 ≡ 4 = omega arith in
      sym (drop-take 4 (count - 4) whole)
      ∙ ap (λ (n : ℕ). drop 4 (take n whole)) (omega arith)
      ∙ ap (drop 4) parts
      ∙ ap (λ (n : ℕ). drop n (code ++ 32 ∷ (text ++ 10 ∷ []))) (sym code_end)
      ∙ drop-append-add code (32 ∷ (text ++ 10 ∷ [])) 1

  module _ (within : count ≤ length whole) where
    text_size : length text ≡ count - 1 - 4
    text_size =
        let all = sym (length-take-le count whole within) ∙ ap (λ (l : List ℕ). length l) parts in
        let sum = length-append code (32 ∷ (text ++ 10 ∷ [])) in
        let last = length-append text (10 ∷ []) in
        omega (arith, all, sum, last, size)

    pub text_alone : take (count - 1 - 4) (drop 4 whole) ≡ text
    text_alone =
        sym (take-take (count - 1 - 4) (count - 4) (drop 4 whole) (omega arith))
        ∙ ap (take (count - 1 - 4)) text_at_end
        ∙ take_at text (10 ∷ []) (count - 1 - 4) text_size
