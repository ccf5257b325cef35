-- Bounds and lengths as tests, and what they say of an element's contents.
use Rattle.std.proofs.Common.{◌≡◌, inl, inr, ℕ, ◌+◌, ◌≤◌, Bool, true, false, not, ◌||◌, eqb, leb}
use Rattle.std.proofs.Common.{[], ◌∷◌, length, Option, Some, None, IfSome, refl, arith, eq-eqb, ne_eqb, eqb-true}
use Rattle.std.proofs.Common.{le-leb, leb-true}
use Rattle.std.proofs.lemmas.Bool.{cases_Bool, eqb-false, not-true}
use Rattle.tlv_head.specs.declared.header.Class.{Class}
use Rattle.tlv_head.specs.declared.header.Class.TheVariants.{Universal, Application, Context, Private}
use Rattle.tlv_head.specs.declared.header.Size.{Size}
use Rattle.tlv_head.specs.declared.header.Size.TheVariants.{Definite, Indefinite}
use Rattle.tlv_head.specs.Header.{HeaderValue, announced_length, holds, octets_of}
use Rattle.tlv_head.proofs.Wraps.{is_wrapper}
use Rattle.tlv_walk.specs.Forest.{end_octets, lead}
use Rattle.tlv_walk.proofs.GrammarLemmas.Leads.{lead_by}
use Rattle.tlv_walk.proofs.GrammarLemmas.Spellings.{length-opening}
use Rattle.tlv_walk.specs.Place.{Fits, Place, is_indefinite, place_of_children}
use Rattle.tlv_walk.specs.Private.Stack.{bound_in}
use Rattle.tlv_walk.proofs.GrammarLemmas.Lengths.{HasLength, LacksOctets}

-- the offset n is not beyond the bound
abbrev pub is_within_bound : Option ℕ → ℕ → Bool
is_within_bound None n = true
is_within_bound (Some b) n = leb n b

-- `Fits` as a test
abbrev pub fits : Place → ℕ → Bool
fits p n = is_within_bound p.bound (p.offset + n)

-- what the test says
pub within-fits : (b : Option ℕ) (n : ℕ) → is_within_bound b n ≡ true → IfSome b (λ b. n ≤ b)
within-fits None n e = tt
within-fits (Some b) n e = leb-true n b e

-- if the test says so
pub fits-within : (b : Option ℕ) (n : ℕ) → IfSome b (λ b. n ≤ b) → is_within_bound b n ≡ true
fits-within None n e = refl
fits-within (Some b) n e = le-leb n b e

-- what is before an offset within the bound is within it
pub within-le : (b : Option ℕ) (m n : ℕ) → n ≤ m → IfSome b (λ b. m ≤ b) → IfSome b (λ b. n ≤ b)
within-le None m n h f = tt
within-le (Some b) m n h f = omega arith

-- a definite length is that of the contents, as a test
abbrev pub has_length : Size → ℕ → Bool
has_length (Definite n) m = eqb m n
has_length Indefinite m = false

-- the length is definite, and it is m
pub record IsDefiniteLength (s : Size) (m : ℕ) : Type 0 where
  pub filled : HasLength s m
  pub ends : end_octets s ≡ []
  pub all : announced_length s ≡ m

-- what the test says
pub length-full : (s : Size) (m : ℕ) → has_length s m ≡ true → IsDefiniteLength s m
length-full (Definite n) m e = let same : m ≡ n = eqb-true m n e in record {
  filled = same;
  ends = refl;
  all = omega arith;
}
length-full Indefinite m e = absurd (cc)

-- an indefinite length says nothing of the contents, and end-of-contents octets follow them
pub record IsEndless (s : Size) (start : ℕ) (outside : Option ℕ) (m : ℕ) : Type 0 where
  pub filled : HasLength s m
  pub ends : end_octets s ≡ 0 ∷ 0 ∷ []
  pub bound : bound_in s start outside ≡ outside
  pub lacks : (k : ℕ) → LacksOctets s k
  pub none : announced_length s ≡ 0

-- what an indefinite length says
pub indefinite-endless : (s : Size) (start : ℕ) (outside : Option ℕ) (m : ℕ) → is_indefinite s ≡ true
    → IsEndless s start outside m
indefinite-endless (Definite n) start outside m e = absurd (cc)
indefinite-endless Indefinite start outside m e = record {
  filled = tt;
  ends = refl;
  bound = refl;
  lacks = λ k. tt;
  none = refl;
}

-- contents within the length announced, and that within the bound, are within the bound inside
pub contents-within : (s : Size) (start : ℕ) (outside : Option ℕ) (m : ℕ) → m ≤ announced_length s
    → IfSome outside (λ b. start + announced_length s ≤ b)
    → IfSome (bound_in s start outside) (λ b. start + m ≤ b)
contents-within (Definite n) start outside m h f = omega arith
contents-within Indefinite start outside m h f = within-le outside _ _ (omega arith) f

-- what is within the bound inside is within that outside
pub within-outside : (s : Size) (start : ℕ) (outside : Option ℕ) (m : ℕ)
    → IfSome outside (λ b. start + announced_length s ≤ b)
    → IfSome (bound_in s start outside) (λ b. start + m ≤ b) → IfSome outside (λ b. start + m ≤ b)
within-outside (Definite n) start outside m f g = within-le outside _ _ (omega arith) f
within-outside Indefinite start outside m f g = g

-- contents within the bound inside that are not all announced lack octets
pub length-lacks : (s : Size) (start : ℕ) (outside : Option ℕ) (m : ℕ)
    → IfSome (bound_in s start outside) (λ b. start + m ≤ b) → has_length s m ≡ false → LacksOctets s m
length-lacks (Definite n) start outside m f e = let apart : m ≡ n → ⊥ = eqb-false m n e in omega arith
length-lacks Indefinite start outside m f e = tt

-- contents that another octet may follow within the bound inside lack octets
pub within-lacks : (s : Size) (start : ℕ) (outside : Option ℕ) (m : ℕ)
    → IfSome (bound_in s start outside) (λ b. start + (m + 1) ≤ b) → LacksOctets s m
within-lacks (Definite n) start outside m f = omega arith
within-lacks Indefinite start outside m f = tt

-- contents that lack octets are not as long as announced
pub lacks-length : (s : Size) (m : ℕ) → LacksOctets s m → has_length s m ≡ false
lacks-length (Definite n) m less = ne_eqb m n (λ z. omega arith)
lacks-length Indefinite m less = refl

-- contents with a definite length are as long as announced
pub definite-length : (s : Size) (m : ℕ) → is_indefinite s ≡ false → HasLength s m → has_length s m ≡ true
definite-length (Definite n) m e same = eq-eqb m n same
definite-length Indefinite m e same = absurd (cc)

-- contents of the length announced are within the bound inside
pub filled-within : (s : Size) (start : ℕ) (outside : Option ℕ) (m : ℕ) → HasLength s m
    → IfSome outside (λ b. start + m ≤ b) → IfSome (bound_in s start outside) (λ b. start + m ≤ b)
filled-within (Definite n) start outside m same f = omega arith
filled-within Indefinite start outside m same f = f

-- contents of definite length that lack octets may be followed by another
pub lacks-within : (s : Size) (start : ℕ) (outside : Option ℕ) (m : ℕ) → is_indefinite s ≡ false → LacksOctets s m
    → IfSome (bound_in s start outside) (λ b. start + (m + 1) ≤ b)
lacks-within (Definite n) start outside m e less = omega arith
lacks-within Indefinite start outside m e less = absurd (cc)

-- `lead-announced_length`, by the fields
lead-least : (constructed named : Bool) (class : Class) (number : ℕ) (size : Size)
    → (constructed || is_wrapper named class constructed number size) ≡ true
    → length (lead_by constructed (eqb number 3)) ≤ announced_length size
lead-least true named class number size e = omega arith
lead-least false false class number size e = absurd (cc)
lead-least false true Application number size e = absurd (cc)
lead-least false true Context number size e = absurd (cc)
lead-least false true Private number size e = absurd (cc)
lead-least false true Universal number size e = elim (cases_Bool (eqb number 3)) [
  | inl three ↦
      let some : not (eqb (announced_length size) 0) ≡ true = rw (eqb-true number 3 three) at e in
      let apart : announced_length size ≡ 0 → ⊥ = eqb-false _ 0 (not-true _ some) in
      rw three (omega arith)
  | inr other ↦ rw other (omega arith)
]

-- what comes before the elements that an element holds is announced
pub lead-announced_length : (h : HeaderValue) → holds h ≡ true → length (lead h) ≤ announced_length h.size
lead-announced_length h e = lead-least h.constructed h.named h.class h.number h.size e

-- the bound is not before the first element that an element holds
pub fits-inside : (p : Place) (h : HeaderValue) → holds h ≡ true
    → Fits p (length (octets_of h) + announced_length h.size) → Fits (place_of_children p h) 0
fits-inside p h e f =
    within-le (place_of_children p h).bound _ _ (omega (arith, length-opening h))
    (contents-within h.size (p.offset + length (octets_of h)) p.bound (length (lead h)) (lead-announced_length h e)
    (within-le p.bound _ _ (omega arith) f))
