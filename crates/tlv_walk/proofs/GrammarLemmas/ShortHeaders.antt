-- Headers as short as they can be, in place of those of an element, and with a length of either form.
use Rattle.std.proofs.Common.{◌≡◌, ◌≢◌, ◌⊎◌, inl, inr, ◌&&◌, ◌||◌, not, eqb, ℕ, ◌+◌, ◌^◌, ◌<◌, ◌≤◌, Bool, true, false}
use Rattle.std.proofs.Common.{List, [], ◌∷◌, ◌++◌, length, refl, sym, ap, ap₂, ◌∙◌, arith, subst, length-append, eq-eqb}
use Rattle.std.proofs.Common.{eqb-true, ne_eqb}
use Rattle.std.proofs.lemmas.Bool.{and_parts, or_from, true≢false}
use Rattle.std.proofs.lemmas.List.Folds.{list_any-append}
use Rattle.std.proofs.Math.Bool.{or-false}
use Rattle.std.specs.Prelude.{if◌then◌else◌}
use Rattle.tlv_head.specs.declared.header.Class.{Class}
use Rattle.tlv_head.specs.declared.header.Size.{Size}
use Rattle.tlv_head.specs.declared.header.Size.TheVariants.{Definite, Indefinite}
use Rattle.tlv_head.specs.Header.{HeaderValue, IsHeader, IsIdentifier, announced_length, is_universal}
use Rattle.tlv_head.specs.HeaderSoFar.{AllowsSize}
use Rattle.tlv_head.specs.Header.{identifier_octet}
use Rattle.tlv_head.proofs.Wraps.{is_wrapper}
use Rattle.tlv_head.specs.ShortestHeaders.{IsShortest}
use Rattle.tlv_head.proofs.ShortestLemmas.LengthOctets.{FewLengths, few-lengths}
use Rattle.tlv_head.proofs.ShortestLemmas.OneShortest.{identifier-le, identifier-some}
use Rattle.tlv_head.proofs.ShortestLemmas.ShortestSpelling.{ShortIdentifier, ShortLength, short-identifier}
use Rattle.tlv_walk.specs.Forest.{end_octets}
use Rattle.tlv_head.specs.Lists.{is_among}
use Rattle.tlv_walk.specs.Place.{is_indefinite}
use Rattle.tlv_walk.proofs.GrammarLemmas.Leads.{lead_by, wrapper_offset_by}
use Rattle.tlv_walk.proofs.GrammarLemmas.Lengths.{HasLength}

-- ---- headers

-- identifier and length octets as few as they can be, for a header of that tag, form and size
pub record Octets (h : HeaderValue) (constructed : Bool) (size : Size) : Type 0 where
  pub identifier : ShortIdentifier h.class constructed h.number
  pub lengths : ShortLength size
  pub allowed : AllowsSize constructed size
  pub short : length identifier.octets ≤ length h.identifier_octets
  pub short_lengths : length lengths.octets + length (end_octets size) ≤ 6

-- the header, named if it is to be that of a wrapper
abbrev pub header_of : (h : HeaderValue) (named constructed : Bool) (size : Size) → Octets h constructed size → ℕ
    → HeaderValue
header_of h named constructed size o offset = record {
  offset = offset;
  named = named;
  class = h.class;
  constructed = constructed;
  number = h.number;
  size = size;
  identifier_octets = o.identifier.octets;
  length_octets = o.lengths.octets;
}

abbrev pub octets-in : (h : HeaderValue) (constructed : Bool) (size : Size) → Octets h constructed size → List ℕ
octets-in h constructed size o = o.identifier.octets ++ o.lengths.octets

pub header-valid : (h : HeaderValue) (named constructed : Bool) (size : Size) (o : Octets h constructed size)
    (offset : ℕ)
    → IsHeader (header_of h named constructed size o offset)
header-valid h named constructed size o offset = record {
  identifier = o.identifier.valid;
  lengths = o.lengths.valid;
  allowed = o.allowed;
}

pub header-shortest : (h : HeaderValue) (named constructed : Bool) (size : Size) (o : Octets h constructed size)
    (offset : ℕ)
    → IsShortest (header_of h named constructed size o offset)
header-shortest h named constructed size o offset = record {
  identifier = o.identifier.shortest;
  lengths = o.lengths.shortest;
}

few-octets : (size : Size) (l : ShortLength size) → length l.octets ≤ 6 → length l.octets + length (end_octets size) ≤ 6
few-octets (Definite n) l few = omega (arith, few)
few-octets Indefinite l few = omega (arith, ap length l.valid)

pub octets-for : (h : HeaderValue) (constructed : Bool) (size : Size)
    → IsIdentifier h.class constructed h.number h.identifier_octets
    → identifier_octet h.class constructed h.number ≢ 0
    → AllowsSize constructed size → announced_length size < 2 ^ 40 → Octets h constructed size
octets-for h constructed size valid nonzero allowed below =
    let i : ShortIdentifier h.class constructed h.number =
    short-identifier h.class constructed h.number h.identifier_octets valid nonzero in
    let l : FewLengths size = few-lengths size below in
    record {
      identifier = i;
      lengths = l.short;
      allowed = allowed;
      short = identifier-le h.class constructed h.number i.octets h.identifier_octets i.valid valid i.shortest;
      short_lengths = few-octets size l.short l.few;
    }

pub header-some : (h : HeaderValue) (constructed : Bool) (size : Size) (o : Octets h constructed size)
    → 1 ≤ length (octets-in h constructed size o)
header-some h constructed size o =
    omega (
      arith,
      length-append o.identifier.octets o.lengths.octets,
      identifier-some h.class constructed h.number o.identifier.octets o.identifier.valid,
    )

-- ---- lengths of either form

-- the length of an element that holds others, if its length is to be indefinite, and if not
abbrev pub size-for : Bool → ℕ → Size
size-for true m = Indefinite
size-for false m = Definite m

pub size-below : (t : Bool) (m : ℕ) → m < 2 ^ 40 → announced_length (size-for t m) < 2 ^ 40
size-below true m below = omega arith
size-below false m below = below

pub size-form : (t : Bool) (m : ℕ) → is_indefinite (size-for t m) ≡ t
size-form true m = refl
size-form false m = refl

pub size-length : (t : Bool) (m n : ℕ) → n ≡ m → HasLength (size-for t m) n
size-length true m n e = tt
size-length false m n e = e

-- a primitive has a definite length
pub allows-size : (constructed t : Bool) (m : ℕ) → (constructed ≡ false → t ≡ false)
    → AllowsSize constructed (size-for t m)
allows-size true t m e = refl
allows-size false false m e = refl
allows-size false true m e = absurd (true≢false (e refl))

-- at most one contents octet comes before what a wrapper holds
pub lead-short : (constructed : Bool) (number : ℕ) → length (lead_by constructed (eqb number 3)) ≤ 1
lead-short true number = omega arith
lead-short false number = one (eqb number 3) where
  one : (k : Bool) → length {A = ℕ} (if k then 0 ∷ [] else []) ≤ 1
  one true = omega arith
  one false = omega arith

-- ---- what is named

-- of an element that holds others, its offset is named, if it is a wrapper
pub own-there : (constructed : Bool) (offset : ℕ)
    → is_among offset (wrapper_offset_by constructed offset) ≡ not constructed
own-there true offset = refl
own-there false offset = ap (λ k. k || false) (eq-eqb offset offset refl)

pub own-apart : (constructed : Bool) (offset i : ℕ) → i ≢ offset
    → is_among i (wrapper_offset_by constructed offset) ≡ false
own-apart true offset i apart = refl
own-apart false offset i apart = ap (λ k. k || false) (ne_eqb i offset apart)

is_among-append : (i : ℕ) (xs ys : List ℕ) → is_among i (xs ++ ys) ≡ (is_among i xs || is_among i ys)
is_among-append i xs ys = list_any-append (λ offset. eqb i offset) xs ys

-- an offset that is in none but one of three lists
pub in-first : (i : ℕ) (a b c : List ℕ) → is_among i b ≡ false → is_among i c ≡ false
    → is_among i (a ++ (b ++ c)) ≡ is_among i a
in-first i a b c e f =
    is_among-append i a (b ++ c)
    ∙ ap (λ k. is_among i a || k) (is_among-append i b c ∙ or_from (is_among i b) (is_among i c) e f)
    ∙ or-false (is_among i a)

pub in-second : (i : ℕ) (a b c : List ℕ) → is_among i a ≡ false → is_among i c ≡ false
    → is_among i (a ++ (b ++ c)) ≡ is_among i b
in-second i a b c e f =
    is_among-append i a (b ++ c) ∙ ap₂ (λ k l. k || l) e (is_among-append i b c ∙ ap (λ k. is_among i b || k) f)
    ∙ or-false (is_among i b)

pub in-third : (i : ℕ) (a b c : List ℕ) → is_among i a ≡ false → is_among i b ≡ false
    → is_among i (a ++ (b ++ c)) ≡ is_among i c
in-third i a b c e f =
    is_among-append i a (b ++ c) ∙ ap₂ (λ k l. k || l) e (is_among-append i b c ∙ ap (λ k. k || is_among i c) f)

-- ---- what holds others

pub not-holding : (constructed wraps : Bool) → (constructed || wraps) ≡ false → constructed ≡ false
not-holding true wraps e = e
not-holding false wraps e = refl

-- a wrapper is an OCTET STRING or a BIT STRING
record IsString (class : Class) (number : ℕ) : Type 0 where
  pub universal : is_universal class ≡ true
  pub kind : (number ≡ 4) ⊎ (number ≡ 3)

number-of : (number : ℕ) (some : Bool) → (eqb number 4 || (eqb number 3 && some)) ≡ true → (number ≡ 4) ⊎ (number ≡ 3)
number-of number some e = elim (cases (eqb number 4) (eqb number 3 && some) e) [
  | inl four ↦ inl (eqb-true number 4 four)
  | inr three ↦ inr (eqb-true number 3 (and_parts (eqb number 3) some three).0)
] where
  cases : (x y : Bool) → (x || y) ≡ true → (x ≡ true) ⊎ (y ≡ true)
  cases true y e = inl refl
  cases false y e = inr e

string-of : (named : Bool) (class : Class) (number : ℕ) (size : Size)
    → is_wrapper named class false number size ≡ true → IsString class number
string-of true class number size e =
    let parts =
    and_parts (is_universal class) (eqb number 4 || (eqb number 3 && not (eqb (announced_length size) 0))) e in
    record { universal = parts.0; kind = number-of number (not (eqb (announced_length size) 0)) parts.1 }
string-of false class number size e = absurd (true≢false (sym e))

string-nonzero : (class : Class) (number : ℕ) → IsString class number → identifier_octet class false number ≢ 0
string-nonzero class number s z =
    elim s.kind [ inl four ↦ omega (arith, z, four) | inr three ↦ omega (arith, z, three) ]

-- with as many contents octets as it has before what it holds, and more
string-wraps : (class : Class) (number : ℕ) (t : Bool) (n : ℕ) → IsString class number → t ≡ false
    → is_wrapper true class false number (size-for t (length (lead_by false (eqb number 3)) + n)) ≡ true
string-wraps class number true n s e = absurd (true≢false e)
string-wraps class number false n s e = elim s.kind [
  | inl four ↦ rw (s.universal, four) refl
  | inr three ↦ rw (s.universal, three) (ap not (ne_eqb (1 + n) 0 (λ e. omega (arith, e))))
]

constructed-nonzero : (class : Class) (n : ℕ) → identifier_octet class true n ≢ 0
constructed-nonzero class n z = omega (arith, z)

-- what was held is so again
pub record Holds (h : HeaderValue) (constructed : Bool) (t : Bool) (n : ℕ) : Type 0 where
  pub nonzero : identifier_octet h.class constructed h.number ≢ 0
  pub again : (constructed
      || is_wrapper (not constructed) h.class constructed h.number
      (size-for t (length (lead_by constructed (eqb h.number 3)) + n)))
      ≡ true

pub holds-again : (h : HeaderValue) (constructed t : Bool) (n : ℕ) → (constructed ≡ false → t ≡ false)
    → (constructed || is_wrapper h.named h.class constructed h.number h.size) ≡ true → Holds h constructed t n
holds-again h true t n e holding = record { nonzero = constructed-nonzero h.class h.number; again = refl }
holds-again h false t n e holding =
    let s : IsString h.class h.number = string-of h.named h.class h.number h.size holding in
    record { nonzero = string-nonzero h.class h.number s; again = string-wraps h.class h.number t n s (e refl) }

pub identifier-same_form : (class : Class) (a b : Bool) (n : ℕ) (octets : List ℕ) → a ≡ b
    → IsIdentifier class a n octets
    → IsIdentifier class b n octets
identifier-same_form class a b n octets e v = subst (λ (k : Bool). IsIdentifier class k n octets) e v
