-- What an extent says of the element with which octets begin.
use Rattle.std.proofs.Common.{◌≡◌, ◌↔◌, ℕ, ◌+◌, ◌<◌, ◌≤◌, Bool, true, false, List, length, take, drop, IsTrue}
use Rattle.std.proofs.Common.{refl, sym, ap, ap₂, ◌∙◌, subst}
use Rattle.std.proofs.lemmas.List.{length-take-le}
use Rattle.std.proofs.Math.Seq.{drop-append_seam}
use Rattle.tlv_head.specs.declared.header.HeaderFields.{HeaderFields}
use Rattle.tlv_head.specs.declared.header.Size.{Size}
use Rattle.tlv_head.specs.declared.header.Size.TheVariants.{Definite, Indefinite}
use Rattle.tlv_head.specs.Header.{announced_length}
use Rattle.tlv_head.specs.HeaderSoFar.{AllowsSize}
use Rattle.tlv_head.specs.HeaderFields.{new_header}
use Rattle.tlv_head.specs.ReadHeader.{BeginsWithFields}
use Rattle.tlv_walk.specs.Forest.{spelling}
use Rattle.tlv_walk.specs.Place.{Place}
use Rattle.tlv_open.specs.Held.{IsClearPrimitive}
use Rattle.tlv_open.specs.Private.Elements.{BeginsWithElement, BeginsWithElements, BeginsWithNoElement}
use Rattle.tlv_open.specs.Private.Elements.{BeginsWithNoElements, IfSound, is_elements_end, place_at}
use Rattle.tlv_open.proofs.ElementLemmas.FirstElement.{first-definite, first-indefinite, first-no_end, first-no_list}
use Rattle.tlv_open.proofs.ElementLemmas.FirstElement.{first-primitive, first-too_long, first-unclear}

-- 8.1.3.2: a primitive has a definite length
pub primitive-definite : (constructed : Bool) (s : Size) → constructed ≡ false → AllowsSize constructed s
    → s ≡ Definite (announced_length s)
primitive-definite true s e a = absurd (cc (e))
primitive-definite false (Definite n) e a = refl
primitive-definite false Indefinite e a = absurd (cc (a))

module _ (octets : List ℕ) (offset depth : ℕ) (likely : Bool) (f : HeaderFields) (count : ℕ)
    (b : BeginsWithFields octets offset false f count) where
  abbrev after : List ℕ
  after = drop count octets

  abbrev here : Place
  here = place_at offset depth

  abbrev inner : Place
  inner = place_at (offset + count) (depth + 1)

  definite-size : f.constructed ≡ false → f.size ≡ Definite (announced_length f.size)
  definite-size c = primitive-definite f.constructed f.size c b.begins.valid.allowed

  pub says-lacking : f.constructed ≡ false → length after < announced_length f.size
      → BeginsWithNoElement here likely octets
  says-lacking c less =
      first-too_long octets offset depth likely f count b (announced_length f.size) (definite-size c) less

  pub says-primitive : (m : ℕ) (clear : Bool) → f.constructed ≡ false → m ≡ announced_length f.size → m ≤ length after
      → (likely ≡ false → clear ≡ true)
      → (likely ≡ true → IsTrue clear ↔ IsClearPrimitive (new_header f (take count octets)) (take m after))
      → IfSound clear (BeginsWithElement here likely octets (count + m)) (BeginsWithNoElement here likely octets)
  says-primitive m true c all few unasked asked =
      subst (λ (n : ℕ). BeginsWithElement here likely octets n) (ap (λ (n : ℕ). count + n) (length-take-le m after few))
      (first-primitive octets offset depth likely f count b m c (definite-size c ∙ ap Definite (sym all)) few
      (λ l. (asked l).0 refl))
  says-primitive m false c all few unasked asked = by_likely likely refl
    where
      by_likely : (l : Bool) → likely ≡ l → BeginsWithNoElement here likely octets
      by_likely true e =
          first-unclear octets offset depth likely f count b m c (definite-size c ∙ ap Definite (sym all)) e
          (λ k. let t : false ≡ true = (asked e).1 k in absurd (cc (t)))
      by_likely false e = let t : false ≡ true = unasked e in absurd (cc (t))

  pub says-definite : (m n : ℕ) (sound : Bool) → f.constructed ≡ true → f.size ≡ Definite m → m ≤ length after
      → depth < 128
      → IfSound sound (BeginsWithElements inner false false (take m after) n)
      (BeginsWithNoElements inner false false (take m after))
      → IfSound sound (BeginsWithElement here likely octets (count + length (take m after)))
      (BeginsWithNoElement here likely octets)
  says-definite m n true c k few shallow e = first-definite octets offset depth likely f count b m n c k few shallow e
  says-definite m n false c k few shallow e = first-no_list octets offset depth likely f count b m c k e

  pub says-indefinite : (n : ℕ) (sound : Bool) → f.size ≡ Indefinite → depth < 128
      → IfSound sound (BeginsWithElements inner false true after n) (BeginsWithNoElements inner false true after)
      → IfSound sound (BeginsWithElement here likely octets (count + n + 2)) (BeginsWithNoElement here likely octets)
  says-indefinite n true k shallow e = first-indefinite octets offset depth likely f count b n k (λ c. shallow) e
  says-indefinite n false k shallow e = first-no_end octets offset depth likely f count b k e

  -- elements that end where they may do so
  pub says-unended : (n : ℕ) (sound : Bool) → f.size ≡ Indefinite → is_elements_end true (drop n after) ≡ false
      → IfSound sound (BeginsWithElements inner false true after n) (BeginsWithNoElements inner false true after)
      → BeginsWithNoElement here likely octets
  says-unended n true k no_end e =
      let there : drop n after ≡ e.rest =
      ap₂ drop (sym e.size) (sym e.spelled) ∙ drop-append_seam (spelling e.elements) e.rest in
      let t : true ≡ false = sym e.end ∙ (ap (is_elements_end true) (sym there) ∙ no_end) in
      absurd (cc (t))
  says-unended n false k no_end e = first-no_end octets offset depth likely f count b k e
