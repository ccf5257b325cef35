-- Headers of one tag, form and size: at most one is as short as it can be, and no other has fewer octets than that one.
use Rattle.std.proofs.Common.{◌≡◌, ◌≢◌, ℕ, ◌+◌, ◌%◌, ◌<◌, ◌≤◌, inl, inr, Bool, List, [], ◌∷◌, ◌++◌, length, All, sym}
use Rattle.std.proofs.Common.{ap, ap₂, ◌∙◌, arith, lit<, length-append}
use Rattle.std.proofs.lemmas.Bool.{cases_lt}
use Rattle.std.proofs.lemmas.List.{length-map, same_from_push}
use Rattle.std.proofs.lemmas.List.Elements.{All-head, All-push}
use Rattle.std.specs.Prelude.{slice_index}
use Rattle.tlv_head.specs.declared.header.Class.{Class}
use Rattle.tlv_head.specs.declared.header.Size.{Size}
use Rattle.tlv_head.specs.declared.header.Size.TheVariants.{Definite, Indefinite}
use Rattle.tlv_head.specs.Header.{HeaderValue, IsHeader, IsHighForm, IsIdentifier, IsLength, announced_length}
use Rattle.tlv_head.specs.Header.{identifier_octet, value_of, with_bit_8}
use Rattle.tlv_head.specs.Laws.{NoHeaderIsShorter, ShortestHeadersAreOne}
use Rattle.tlv_head.specs.ShortestHeaders.{HaveOneTagAndForm, IsShortestIdentifier, IsShortestLength}
use Rattle.tlv_head.proofs.NumberLemmas.OneValue.{fewest-digits, same-digits}

-- ---- identifier octets

-- the subsequent octets
abbrev all_digits : {class : Class} {constructed : Bool} {n : ℕ} {octets : List ℕ}
    → IsHighForm class constructed n octets → List ℕ
all_digits f = f.digits ++ f.last ∷ []

count-high : (class : Class) (constructed : Bool) (n : ℕ) (octets : List ℕ) (f : IsHighForm class constructed n octets)
    → length octets ≡ 1 + length (all_digits f)
count-high class constructed n octets f =
    omega (
      arith,
      ap length f.octets_are,
      length-append (with_bit_8 f.digits) (f.last ∷ []),
      length-append f.digits (f.last ∷ []),
      length-map f.digits (λ d. 128 + d),
    )

each-high : (class : Class) (constructed : Bool) (n : ℕ) (octets : List ℕ) (f : IsHighForm class constructed n octets)
    → All (λ d. d < 128) (all_digits f)
each-high class constructed n octets f = All-push (λ d. d < 128) f.digits f.last f.each f.last_digit

-- the first of them, without bit 8
pub high-first : (lead : ℕ) (ds : List ℕ) (last : ℕ) → All (λ d. d < 128) ds → last < 128
    → slice_index (lead ∷ (with_bit_8 ds ++ last ∷ [])) 1 % 128 ≡ slice_index (ds ++ last ∷ []) 0
high-first lead [] last each below = omega arith
high-first lead (d ∷ ds) last each below = let small : d < 128 = All-head (λ d. d < 128) d ds each in omega arith

value-fewest_digits : (b : ℕ) (xs ys : List ℕ) → 0 < b → slice_index xs 0 ≢ 0 → All (λ d. d < b) ys → value_of b xs
    ≡ value_of b ys
    → length xs ≤ length ys
value-fewest_digits b [] ys some nonzero v e = omega arith
value-fewest_digits b (x ∷ xs) ys some nonzero v e = fewest-digits b x xs ys some nonzero v e

pub identifier-le : (class : Class) (constructed : Bool) (n : ℕ) (xs ys : List ℕ)
    → IsIdentifier class constructed n xs → IsIdentifier class constructed n ys
    → IsShortestIdentifier n xs → length xs ≤ length ys
identifier-le class constructed n xs ys (inl f) (inl g) s =
    omega (arith, ap length f.octets_are, ap length g.octets_are)
identifier-le class constructed n xs ys (inl f) (inr g) s =
    omega (arith, ap length f.octets_are, count-high class constructed n ys g)
identifier-le class constructed n xs ys (inr f) (inl g) s = omega (arith, s.single g.small, ap length g.octets_are)
identifier-le class constructed n xs ys (inr f) (inr g) s =
    let some : 1 < length xs =
    omega (arith, count-high class constructed n xs f, length-append f.digits (f.last ∷ [])) in
    let nonzero : slice_index (all_digits f) 0 ≢ 0 =
    λ z. s.leading some
    (ap (λ (l : List ℕ). slice_index l 1 % 128) f.octets_are
    ∙ high-first (identifier_octet class constructed 31) f.digits f.last f.each f.last_digit ∙ z) in
    let fewer : length (all_digits f) ≤ length (all_digits g) =
    value-fewest_digits 128 (all_digits f) (all_digits g) (lit< tt) nonzero (each-high class constructed n ys g)
    (sym f.value ∙ g.value) in
    omega (arith, fewer, count-high class constructed n xs f, count-high class constructed n ys g)

-- the same number of subsequent octets
high-same : (class : Class) (constructed : Bool) (n : ℕ) (xs ys : List ℕ) → IsHighForm class constructed n xs
    → IsHighForm class constructed n ys
    → length xs ≡ length ys → xs ≡ ys
high-same class constructed n xs ys f g e =
    let count : length (all_digits f) ≡ length (all_digits g) =
    omega (arith, e, count-high class constructed n xs f, count-high class constructed n ys g) in
    let digits : all_digits f ≡ all_digits g =
    same-digits 128 (all_digits f) (all_digits g) (lit< tt) (each-high class constructed n xs f)
    (each-high class constructed n ys g) count
    (sym f.value ∙ g.value) in
    let parts : (f.digits ≡ g.digits) × (f.last ≡ g.last) = same_from_push f.digits g.digits f.last g.last digits in
    f.octets_are
    ∙ ap₂ (λ (ds : List ℕ) (last : ℕ). identifier_octet class constructed 31 ∷ (with_bit_8 ds ++ last ∷ []))
    parts.0 parts.1
    ∙ sym g.octets_are

-- the same number of identifier octets
pub identifier-same : (class : Class) (constructed : Bool) (n : ℕ) (xs ys : List ℕ)
    → IsIdentifier class constructed n xs → IsIdentifier class constructed n ys
    → length xs ≡ length ys → xs ≡ ys
identifier-same class constructed n xs ys (inl f) (inl g) e = f.octets_are ∙ sym g.octets_are
identifier-same class constructed n xs ys (inl f) (inr g) e =
    absurd (omega
    (arith, e, ap length f.octets_are, count-high class constructed n ys g, length-append g.digits (g.last ∷ [])))
identifier-same class constructed n xs ys (inr f) (inl g) e =
    absurd (omega
    (arith, e, ap length g.octets_are, count-high class constructed n xs f, length-append f.digits (f.last ∷ [])))
identifier-same class constructed n xs ys (inr f) (inr g) e = high-same class constructed n xs ys f g e

-- ---- length octets

pub length-le : (size : Size) (xs ys : List ℕ) → IsLength size xs → IsLength size ys
    → IsShortestLength (announced_length size) xs → length xs ≤ length ys
length-le Indefinite xs ys u v s = omega (arith, ap length u, ap length v)
length-le (Definite n) xs ys (inl f) (inl g) s = omega (arith, ap length f.1, ap length g.1)
length-le (Definite n) xs ys (inl f) (inr g) s = omega (arith, ap length f.1, ap length g.octets_are)
length-le (Definite n) xs ys (inr f) (inl g) s = omega (arith, s.single g.0, ap length g.1)
length-le (Definite n) xs ys (inr f) (inr g) s =
    let some : 1 < length xs = omega (arith, ap length f.octets_are, f.some) in
    let nonzero : slice_index f.digits 0 ≢ 0 =
    λ z. s.leading some (ap (λ (l : List ℕ). slice_index l 1) f.octets_are ∙ z) in
    let fewer : length f.digits ≤ length g.digits =
    value-fewest_digits 256 f.digits g.digits (lit< tt) nonzero g.each (sym f.value ∙ g.value) in
    omega (arith, fewer, ap length f.octets_are, ap length g.octets_are)

-- the same number of length octets
pub length-same : (size : Size) (xs ys : List ℕ) → IsLength size xs → IsLength size ys → length xs ≡ length ys → xs ≡ ys
length-same Indefinite xs ys u v e = u ∙ sym v
length-same (Definite n) xs ys (inl f) (inl g) e = f.1 ∙ sym g.1
length-same (Definite n) xs ys (inl f) (inr g) e =
    absurd (omega (arith, e, ap length f.1, ap length g.octets_are, g.some))
length-same (Definite n) xs ys (inr f) (inl g) e =
    absurd (omega (arith, e, ap length g.1, ap length f.octets_are, f.some))
length-same (Definite n) xs ys (inr f) (inr g) e =
    let count : length f.digits ≡ length g.digits = omega (arith, e, ap length f.octets_are, ap length g.octets_are) in
    let digits : f.digits ≡ g.digits =
    same-digits 256 f.digits g.digits (lit< tt) f.each g.each count (sym f.value ∙ g.value) in
    f.octets_are ∙ ap (λ (ds : List ℕ). (128 + length ds) ∷ ds) digits ∙ sym g.octets_are

-- ---- both

-- the octets of the other header, with the fields of the first
moved-identifier : (h g : HeaderValue) → IsHeader g → HaveOneTagAndForm h g
    → IsIdentifier h.class h.constructed h.number g.identifier_octets
moved-identifier h g valid tag = rw (tag.class, tag.constructed, tag.number) valid.identifier

moved-lengths : (h g : HeaderValue) → IsHeader g → h.size ≡ g.size → IsLength h.size g.length_octets
moved-lengths h g valid size = rw size valid.lengths

-- no other is shorter
pub shortest-identifier : (h g : HeaderValue) → IsHeader h → IsHeader g → HaveOneTagAndForm h g
    → IsShortestIdentifier h.number h.identifier_octets
    → length h.identifier_octets ≤ length g.identifier_octets
shortest-identifier h g u v tag s =
    identifier-le h.class h.constructed h.number h.identifier_octets g.identifier_octets u.identifier (moved-identifier h g v tag) s

pub shortest-length : (h g : HeaderValue) → IsHeader h → IsHeader g → h.size ≡ g.size
    → IsShortestLength (announced_length h.size) h.length_octets
    → length h.length_octets ≤ length g.length_octets
shortest-length h g u v size s = length-le h.size h.length_octets g.length_octets u.lengths (moved-lengths h g v size) s

pub shortest_are_shortest : NoHeaderIsShorter
shortest_are_shortest h g u v tag size s =
    (shortest-identifier h g u v tag s.identifier, shortest-length h g u v size s.lengths)

-- the other way round
one_tag-sym : (h g : HeaderValue) → HaveOneTagAndForm h g → HaveOneTagAndForm g h
one_tag-sym h g tag = record { class = sym tag.class; constructed = sym tag.constructed; number = sym tag.number }

pub shortest_are_one : ShortestHeadersAreOne
shortest_are_one h g u v tag size s t =
    let le : (length h.identifier_octets ≤ length g.identifier_octets) × (length h.length_octets ≤ length g.length_octets) =
    shortest_are_shortest h g u v tag size s in
    let ge : (length g.identifier_octets ≤ length h.identifier_octets) × (length g.length_octets ≤ length h.length_octets) =
    shortest_are_shortest g h v u (one_tag-sym h g tag) (sym size) t in (
      identifier-same h.class h.constructed h.number h.identifier_octets g.identifier_octets u.identifier
          (moved-identifier h g v tag) (omega (arith, le.0, ge.0)),
      length-same h.size h.length_octets g.length_octets u.lengths (moved-lengths h g v size) (omega (arith, le.1, ge.1)),
    )

-- ---- what makes a header as short as it can be

pub identifier-some : (class : Class) (constructed : Bool) (n : ℕ) (octets : List ℕ)
    → IsIdentifier class constructed n octets → 1 ≤ length octets
identifier-some class constructed n octets (inl f) = omega (arith, ap length f.octets_are)
identifier-some class constructed n octets (inr f) = omega (arith, ap length f.octets_are)

pub lengths-some : (size : Size) (octets : List ℕ) → IsLength size octets → 1 ≤ length octets
lengths-some (Definite n) octets (inl f) = omega (arith, ap length f.1)
lengths-some (Definite n) octets (inr f) = omega (arith, ap length f.octets_are)
lengths-some Indefinite octets v = omega (arith, ap length v)

-- a number that is too small for two octets or more has one
single-octet : (n m least : ℕ) → 1 ≤ n → (1 < n → least ≤ m) → m < least → n ≡ 1
single-octet n m least some large small = elim (cases_lt 1 n) [
  | inl more ↦ absurd (omega (arith, large more))
  | inr le ↦ omega arith
]

pub identifier-from : (h : HeaderValue) → IsHeader h
    → (1 < length h.identifier_octets → (31 ≤ h.number) × (slice_index h.identifier_octets 1 % 128 ≢ 0))
    → IsShortestIdentifier h.number h.identifier_octets
identifier-from h valid high = record {
  single =
      single-octet (length h.identifier_octets) h.number 31
      (identifier-some h.class h.constructed h.number h.identifier_octets valid.identifier) (λ more. (high more).0);
  leading = λ more. (high more).1;
}

pub lengths-from : (h : HeaderValue) → IsHeader h
    → (1 < length h.length_octets → (128 ≤ announced_length h.size) × (slice_index h.length_octets 1 ≢ 0))
    → IsShortestLength (announced_length h.size) h.length_octets
lengths-from h valid long = record {
  single =
      single-octet (length h.length_octets) (announced_length h.size) 128 (lengths-some h.size h.length_octets valid.lengths)
      (λ more. (long more).0);
  leading = λ more. (long more).1;
}
