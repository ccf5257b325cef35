-- What strings hold.
use Rattle.std.proofs.Common.{◌≡◌, ◌↔◌, ℕ, ◌+◌, ◌<◌, ◌≤◌, Bool, true, false, eqb, List, [], ◌∷◌, ◌++◌, length, Option}
use Rattle.std.proofs.Common.{Some}
use Rattle.std.proofs.Common.{None, IsTrue, MatchOption, refl, sym, ap, ◌∙◌, arith, append-nil, eqb-true}
use Rattle.std.specs.Option.{is_some}
use Rattle.tlv_head.specs.Header.{HeaderValue}
use Rattle.tlv_head.proofs.ReaderLemmas.Prefix.{header-two}
use Rattle.tlv_walk.specs.Forest.{Forest, Holder, NoMore, OpenBitString, OpenEndOctets, OpenHeader, OpenHolder}
use Rattle.tlv_walk.specs.Forest.{OpenPrimitive, PaddingOctet, Primitive, has_element, spelling}
use Rattle.tlv_walk.specs.Place.{Place}
use Rattle.tlv_walk.specs.Reading.{IsSound}
use Rattle.tlv_walk.proofs.GrammarLemmas.Spellings.{length-holder, length-opening, length-primitive}
use Rattle.tlv_open.specs.Held.{HoldsEncodings, inner_octets}
use Rattle.tlv_open.specs.Private.Elements.{BeginsWithElements, BeginsWithNoElements, IfSound, is_elements_end}
use Rattle.tlv_open.specs.Private.Elements.{place_at}

-- there is something that the string holds
abbrev pub HoldsSome : ℕ → HeaderValue → List ℕ → Type 0
HoldsSome depth h contents = (inner : Forest) × HoldsEncodings depth h contents inner

at_end : (o : List ℕ) → is_elements_end false o ≡ true → o ≡ []
at_end [] w = refl
at_end (x ∷ o) w = absurd (cc (w))

-- sound elements that have octets are some
pub element-there : (p : Place) (f : Forest) → p.padding ≡ false → IsSound p f → eqb (length (spelling f)) 0 ≡ false
    → has_element f ≡ true
element-there p NoMore z s e = absurd (cc (e))
element-there p (PaddingOctet rest) z s e = let w : true ≡ false = sym s.0 ∙ z in absurd (cc (w))
element-there p (Primitive h c rest) z s e = refl
element-there p (Holder h inside rest) z s e = refl
element-there p (OpenPrimitive h c) z s e = absurd s
element-there p (OpenHolder h inside) z s e = absurd s
element-there p (OpenBitString h) z s e = absurd s
element-there p (OpenHeader octets) z s e = absurd s
element-there p OpenEndOctets z s e = absurd s

-- and the other way
octets-there : (p : Place) (f : Forest) → p.padding ≡ false → IsSound p f → has_element f ≡ true
    → length (spelling f) ≡ 0 → ⊥
octets-there p NoMore z s e n = absurd (cc (e))
octets-there p (PaddingOctet rest) z s e n = let w : true ≡ false = sym s.0 ∙ z in absurd (cc (w))
octets-there p (Primitive h c rest) z s e n = omega (arith, header-two h s.0.0.valid, length-primitive h c rest)
octets-there p (Holder h inside rest) z s e n =
    omega (arith, header-two h s.0.0.valid, length-holder h inside rest, length-opening h)
octets-there p (OpenPrimitive h c) z s e n = absurd s
octets-there p (OpenHolder h inside) z s e n = absurd s
octets-there p (OpenBitString h) z s e n = absurd s
octets-there p (OpenHeader octets) z s e n = absurd s
octets-there p OpenEndOctets z s e n = absurd s

module _ (depth : ℕ) (h : HeaderValue) (contents octets : List ℕ) (inner : inner_octets h contents ≡ Some octets) where
  abbrev within : Place
  within = place_at 0 (depth + 1)

  held-is : (f : Forest) → HoldsEncodings depth h contents f → spelling f ≡ octets
  held-is f s = let e : Some (spelling f) ≡ Some octets = sym s.octets ∙ inner in cc (e)

  holds-from : (n : ℕ) → depth < 128 → eqb (length octets) 0 ≡ false → BeginsWithElements within true false octets n
      → HoldsSome depth h contents
  holds-from n few some b =
      let same : spelling b.elements ≡ octets =
      sym (append-nil (spelling b.elements))
      ∙ (ap (λ (o : List ℕ). spelling b.elements ++ o) (sym (at_end b.rest b.end)) ∙ b.spelled) in (
        b.elements,
        record {
          octets = inner ∙ ap Some (sym same);
          shallow = few;
          sound = b.sound;
          some =
              element-there within b.elements refl b.sound
              (ap (λ (o : List ℕ). eqb (length o) 0) same ∙ some);
          likely = b.probable refl;
        },
      )

  pub holds-none : BeginsWithNoElements within true false octets → HoldsSome depth h contents → ⊥
  holds-none none s =
      none (length (spelling s.0)) (record {
        elements = s.0;
        sound = s.1.sound;
        probable = λ _. s.1.likely;
        rest = [];
        end = refl;
        spelled = append-nil (spelling s.0) ∙ held-is s.0 s.1;
        size = refl;
      })

  pub holds-nothing : eqb (length octets) 0 ≡ true → HoldsSome depth h contents → ⊥
  holds-nothing e s =
      octets-there within s.0 refl s.1.sound s.1.some
      (ap length (held-is s.0 s.1) ∙ eqb-true (length octets) 0 e)

  pub holds-by : (r : Option ℕ) (b : Bool) → depth < 128 → eqb (length octets) 0 ≡ false → b ≡ is_some r
      → MatchOption r (BeginsWithNoElements within true false octets)
      (λ n. BeginsWithElements within true false octets n)
      → IsTrue b ↔ HoldsSome depth h contents
  holds-by None b few some e m = (λ t. absurd (cc (e, t)), λ s. absurd (holds-none m s))
  holds-by (Some n) b few some e m = (λ _. holds-from n few some m, λ _. e)

  pub holds-if : (b : Bool) (n : ℕ) → depth < 128 → eqb (length octets) 0 ≡ false
      → IfSound b (BeginsWithElements within true false octets n) (BeginsWithNoElements within true false octets)
      → IsTrue b ↔ HoldsSome depth h contents
  holds-if true n few some m = (λ t. holds-from n few some m, λ s. refl)
  holds-if false n few some m = (λ t. absurd (cc (t)), λ s. absurd (holds-none m s))

  pub holds-too_deep : 128 ≤ depth → HoldsSome depth h contents → ⊥
  holds-too_deep deep s = omega (arith, deep, s.1.shallow)
