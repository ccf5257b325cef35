-- Outermost elements, one after another.
use Rattle.std.proofs.Common.{◌≡◌, ℕ, ◌+◌, ◌-◌, ◌<◌, ◌≤◌, Bool, true, false, List, ◌++◌, length}
use Rattle.std.proofs.Common.{drop, take, ap, arith, length-append, length-drop, subst, sym, ◌∙◌}
use Rattle.std.specs.Prelude.{◌↔◌, IsTrue, Some, nat_eq}
use Rattle.std.proofs.lemmas.Bool.{eq-eqb, eqb-true}
use Rattle.std.proofs.lemmas.List.{take_rest}
use Rattle.tlv_head.proofs.ReaderLemmas.Prefix.{header-two}
use Rattle.tlv_head.specs.declared.header.HeaderFields.{HeaderFields}
use Rattle.tlv_head.specs.declared.header.Size.TheVariants.{Definite, Indefinite}
use Rattle.tlv_head.specs.Header.{HeaderValue, definite_length, octets_of}
use Rattle.tlv_head.specs.HeaderFields.{new_header}
use Rattle.tlv_head.specs.ReadHeader.{BeginsWithFields}
use Rattle.tlv_head.specs.Refusal.{BeginsWith, BeginsWithNoHeader}
use Rattle.tlv_reasons.proofs.LengthLemmas.{begun-one}
use Rattle.tlv_reasons.proofs.OctetLemmas.{starts-at}
use Rattle.tlv_reasons.specs.WrongLength.{contents_start}
use Rattle.tlv_reasons.specs.OutermostSizes.{SizesAgree, agree_at_end, agree_behind_element, agree_behind_padding}
use Rattle.tlv_reasons.specs.OutermostSizes.{agree_without_end, is_padded_at}

-- a header begins inside the input
pub header-inside : (octets : List ℕ) (offset : ℕ) (h : HeaderValue) → BeginsWith (drop offset octets) offset false h
    → offset < length octets
header-inside octets offset h p =
    let two : 2 ≤ length (octets_of h) = header-two h p.valid in
    let all : length (drop offset octets) ≡ length (octets_of h ++ p.rest) = ap length p.octets_are in
    omega (arith, two, all, length-drop offset octets, length-append (octets_of h) p.rest)

module _ (padding : Bool) (octets : List ℕ) where
  abbrev pub Agree : ℕ → Type 0
  Agree offset = SizesAgree padding octets offset

  -- behind the input nothing agrees
  pub agree-within : (offset : ℕ) → Agree offset → offset ≤ length octets
  agree-within offset (agree_at_end e) = omega (arith, e)
  agree-within offset (agree_behind_padding within pad more) = omega (arith, within)
  agree-within offset (agree_behind_element h n pad p size more) = omega (arith, header-inside octets offset h p)
  agree-within offset (agree_without_end h pad p size) = omega (arith, header-inside octets offset h p)

  -- all elements in front were looked at
  pub sizes-end : (top offset : ℕ) → length octets ≤ offset → (Agree top ↔ Agree offset)
      → IsTrue (nat_eq offset (length octets)) ↔ Agree top
  sizes-end top offset past same = (
    (λ e. same.1 (agree_at_end (eqb-true offset (length octets) e))),
    (λ agree.
        let within : offset ≤ length octets = agree-within offset (same.0 agree) in
        eq-eqb offset (length octets) (omega (arith, past, within))),
  )

  module _ (offset : ℕ) (inside : offset < length octets) where
    padded-back : is_padded_at padding octets offset ≡ true → Agree offset → Agree (offset + 1)
    padded-back pad (agree_at_end e) = absurd (omega (arith, inside, e))
    padded-back pad (agree_behind_padding within is more) = more
    padded-back pad (agree_behind_element h n not p size more) = absurd (cc (pad, not))
    padded-back pad (agree_without_end h not p size) = absurd (cc (pad, not))

    pub padded-on : is_padded_at padding octets offset ≡ true → Agree offset ↔ Agree (offset + 1)
    padded-on pad = (padded-back pad, λ more. agree_behind_padding inside pad more)

    -- no header begins there
    pub headless : is_padded_at padding octets offset ≡ false
        → BeginsWithNoHeader (take (length octets - offset) (drop offset octets)) → Agree offset → ⊥
    headless pad none (agree_at_end e) = absurd (omega (arith, inside, e))
    headless pad none (agree_behind_padding within is more) = absurd (cc (pad, is))
    headless pad none (agree_behind_element h n not p size more) =
        none h p.rest p.valid (take_rest octets offset ∙ p.octets_are)
    headless pad none (agree_without_end h not p size) =
        none h p.rest p.valid (take_rest octets offset ∙ p.octets_are)

    module _ (count : ℕ) (fields : HeaderFields) (b : BeginsWithFields (drop offset octets) offset false fields count)
        (pad : is_padded_at padding octets offset ≡ false) where
      there : HeaderValue
      there = new_header fields (take count (drop offset octets))

      contents-begin : contents_start there ≡ offset + count
      unfolding there
      contents-begin = starts-at octets offset count fields b

      -- a header has octets
      pub further : (n : ℕ) → offset < offset + count + n
      unfolding there
      further n =
          let two : 2 ≤ length (octets_of there) = header-two there b.begins.valid in
          let start : there.offset ≡ offset = b.begins.offset in
          omega (arith, two, start, contents-begin)

      pub open-agrees : fields.size ≡ Indefinite → Agree offset
      unfolding there
      open-agrees size = agree_without_end there pad b.begins (ap definite_length size)

      module _ (n : ℕ) (size : fields.size ≡ Definite n) where
        onward : Agree (offset + count + n) → Agree offset
        unfolding there
        onward more =
            agree_behind_element there n pad b.begins (ap definite_length size)
            (subst (λ (i : ℕ). Agree (i + n)) (sym contents-begin) more)

        back : Agree offset → Agree (offset + count + n)
        unfolding there
        back (agree_at_end e) = absurd (omega (arith, inside, e))
        back (agree_behind_padding within is more) = absurd (cc (pad, is))
        back (agree_behind_element h m not p e more) =
            let one : there ≡ h = begun-one there h b.begins p in
            let known : definite_length h.size ≡ Some n =
            ap (λ (x : HeaderValue). definite_length x.size) (sym one) ∙ ap definite_length size in
            let same : m ≡ n = cc in
            let start : contents_start h ≡ offset + count = ap contents_start (sym one) ∙ contents-begin in
            subst Agree (λ i. start i + same i) more
        back (agree_without_end h not p e) =
            let one : there ≡ h = begun-one there h b.begins p in
            let known : definite_length h.size ≡ Some n =
            ap (λ (x : HeaderValue). definite_length x.size) (sym one) ∙ ap definite_length size in
            absurd (cc)

        pub element-on : Agree offset ↔ Agree (offset + count + n)
        element-on = (back, onward)

        -- the element ends behind the input
        pub element-behind : length octets < offset + count + n → Agree offset → ⊥
        element-behind far agree = absurd (omega (arith, far, agree-within (offset + count + n) (back agree)))
