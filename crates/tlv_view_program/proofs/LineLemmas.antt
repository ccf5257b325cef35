-- The first lines of a text, from one octet to the next.
use Rattle.std.proofs.Common.{◌≡◌, ℕ, ◌+◌, ◌-◌, ◌<◌, ◌≤◌, true, false, eqb, List, [], ◌∷◌, ◌++◌, length}
use Rattle.std.proofs.Common.{◌∙◌, ap, append_assoc, arith, drop, get_or, get_or-drop, length-drop, refl, suc, sym, take}
use Rattle.std.proofs.Common.{take-add, zero}
use Rattle.std.specs.List.{concat}
use Rattle.std.proofs.Common.{ne_eqb}
use Rattle.std.proofs.lemmas.Bool.{eq-eqb}
use Rattle.std.proofs.lemmas.List.{drop_all, drop_more}
use Rattle.std.proofs.Math.Seq.{take-suc}
use Rattle.tlv_view_program.specs.Reasons.{ended_lines}

none : List (List ℕ)
none = []

none-taken : (n : ℕ) → concat (take n none) ≡ []
unfolding none
none-taken zero = refl
none-taken (suc n) = refl

module _ (most : ℕ) (text : List ℕ) where
  -- what of the first lines is still to come, where `end` octets of them and `lines` lines are there, and `index` octets
  -- of the text were looked at
  abbrev pub ToCome : ℕ → ℕ → ℕ → List ℕ
  ToCome end lines index =
      concat (take (most - lines) (ended_lines (take (index - end) (drop end text)) (drop index text)))

  -- nothing is to come if there are enough lines, or if the text is at its end
  pub enough-lines : (end lines index : ℕ) → lines ≡ most → ToCome end lines index ≡ []
  enough-lines end lines index e =
      let nothing : most - lines ≡ 0 = omega (arith, e) in
      ap (λ n. concat (take n (ended_lines (take (index - end) (drop end text)) (drop index text)))) nothing

  pub text-ends : (end lines index : ℕ) → length text ≤ index → ToCome end lines index ≡ []
  unfolding none
  text-ends end lines index h =
      ap (λ l. concat (take (most - lines) (ended_lines (take (index - end) (drop end text)) l))) (drop_all index text h)
      ∙ none-taken (most - lines)

  module _ (end lines index : ℕ) (within : index < length text) (behind : end ≤ index) where
    abbrev line : List ℕ
    line = take (index - end) (drop end text)

    abbrev octet : ℕ
    octet = get_or text index 0

    -- the line with the next octet
    next-line : line ++ octet ∷ [] ≡ take ((index + 1) - end) (drop end text)
    next-line =
        let there : end + (index - end) ≡ index = omega (arith, behind) in
        let more : (index + 1) - end ≡ suc (index - end) = omega (arith, behind) in
        rw more
        (ap (λ x. take (index - end) (drop end text) ++ x ∷ []) (sym (from-there there))
        ∙ sym (take-suc (drop end text) (index - end) 0 (room there)))
      where
        from-there : end + (index - end) ≡ index → get_or (drop end text) (index - end) 0 ≡ get_or text index 0
        from-there e = get_or-drop end text (index - end) 0 ∙ ap (λ i. get_or text i 0) e

        room : end + (index - end) ≡ index → index - end < length (drop end text)
        room e = omega (arith, e, within, length-drop end text)

    pub other-octet : (octet ≡ 10 → ⊥) → ToCome end lines index ≡ ToCome end lines (index + 1)
    other-octet k =
        let e : eqb octet 10 ≡ false = ne_eqb octet 10 k in
        ap (λ l. concat (take (most - lines) (ended_lines line l))) (drop_more text index 0 within)
        ∙ rw e (ap (λ l. concat (take (most - lines) (ended_lines l (drop (index + 1) text)))) next-line)

    pub line-feed : lines < most → octet ≡ 10
        → take end text ++ ToCome end lines index ≡ take (index + 1) text ++ ToCome (index + 1) (lines + 1) (index + 1)
    line-feed few k =
        let e : eqb octet 10 ≡ true = eq-eqb octet 10 k in
        let one : most - lines ≡ suc (most - (lines + 1)) = omega (arith, few) in
        let nothing : (index + 1) - (index + 1) ≡ 0 = omega arith in
        let first : ToCome end lines index
        ≡ (line ++ octet ∷ []) ++ concat (take (most - (lines + 1)) (ended_lines [] (drop (index + 1) text))) =
        ap (λ l. concat (take (most - lines) (ended_lines line l))) (drop_more text index 0 within) ∙ rw (e, one) refl in
        rw nothing
        (ap (λ l. take end text ++ l) first
        ∙ sym (append_assoc (take end text) (line ++ octet ∷ []) _)
        ∙ ap (λ l. l ++ concat (take (most - (lines + 1)) (ended_lines [] (drop (index + 1) text)))) whole)
      where
        whole : take end text ++ (line ++ octet ∷ []) ≡ take (index + 1) text
        whole =
            ap (λ l. take end text ++ l) next-line ∙ sym (take-add end ((index + 1) - end) text)
            ∙ ap (λ n. take n text) (omega (arith, behind))
