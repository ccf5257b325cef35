-- Each header can be spelled as short as it can be: leading digits 0 are left out.
use Rattle.std.proofs.Common.{◌≡◌, ◌≢◌, ◌⊎◌, ℕ, zero, suc, ◌+◌, ◌^◌, ◌<◌, ◌≤◌, inl, inr, Bool, List, [], ◌∷◌, ◌++◌}
use Rattle.std.proofs.Common.{length, All, refl, sym, subst, ap, ◌∙◌, arith, zero-mul, le_refl, append-nil}
use Rattle.std.proofs.lemmas.Bool.{cases_lt}
use Rattle.std.proofs.lemmas.List.Elements.{All-tail}
use Rattle.std.specs.Prelude.{slice_index}
use Rattle.tlv_head.specs.declared.header.Class.{Class}
use Rattle.tlv_head.specs.declared.header.Size.{Size}
use Rattle.tlv_head.specs.declared.header.Size.TheVariants.{Definite, Indefinite}
use Rattle.tlv_head.specs.Header.{HeaderValue, IsHeader, IsIdentifier, IsLength, announced_length, identifier_octet}
use Rattle.tlv_head.specs.Header.{value_of, with_bit_8}
use Rattle.tlv_head.specs.Laws.{HeadersHaveAShortest}
use Rattle.tlv_head.specs.ShortestHeaders.{HasShorter, IsShortestIdentifier, IsShortestLength}
use Rattle.tlv_head.proofs.ShortestLemmas.OneShortest.{high-first, identifier-le, identifier-same, length-le}
use Rattle.tlv_head.proofs.ShortestLemmas.OneShortest.{length-same}
use Rattle.tlv_head.proofs.ShortestLemmas.OneShortest.{shortest-identifier, shortest-length}

-- the same digits without leading zeros, before others
record StrippedDigits (b : ℕ) (digits tail : List ℕ) : Type 0 where
  pub kept : List ℕ
  pub each : All (λ d. d < b) kept
  pub no_more : length kept ≤ length digits
  pub value : value_of b (kept ++ tail) ≡ value_of b (digits ++ tail)
  pub first : (kept ≡ []) ⊎ (slice_index (kept ++ tail) 0 ≢ 0)

strip_zeros : (b : ℕ) (digits tail : List ℕ) → All (λ d. d < b) digits → StrippedDigits b digits tail
strip_zeros b [] tail each = record { kept = []; each = each; no_more = le_refl _; value = refl; first = inl refl }
strip_zeros b (zero ∷ digits) tail each =
    let r : StrippedDigits b digits tail = strip_zeros b digits tail (All-tail (λ d. d < b) zero digits each) in
    record {
      kept = r.kept;
      each = r.each;
      no_more = omega (arith, r.no_more);
      value = omega (arith, r.value, zero-mul (b ^ length (digits ++ tail)));
      first = r.first;
    }
strip_zeros b (suc d ∷ digits) tail each = record {
  kept = suc d ∷ digits;
  each = each;
  no_more = le_refl _;
  value = refl;
  first = inr (λ z. omega (arith, z));
}

-- ---- identifier octets

pub record ShortIdentifier (class : Class) (constructed : Bool) (n : ℕ) : Type 0 where
  pub octets : List ℕ
  pub valid : IsIdentifier class constructed n octets
  pub shortest : IsShortestIdentifier n octets

low-form : (class : Class) (constructed : Bool) (n : ℕ) → n < 31 → identifier_octet class constructed n ≢ 0
    → ShortIdentifier class constructed n
low-form class constructed n small nonzero = record {
  octets = identifier_octet class constructed n ∷ [];
  valid = inl (record { small = small; octets_are = refl; nonzero = nonzero });
  shortest = record { single = λ s. refl; leading = λ more. absurd (omega (arith, more)) };
}

-- of a number of 31 or more the first digit that is kept is not 0
first-kept : (kept : List ℕ) (last n : ℕ) → 31 ≤ n → n ≡ value_of 128 (kept ++ last ∷ [])
    → (kept ≡ []) ⊎ (slice_index (kept ++ last ∷ []) 0 ≢ 0) → slice_index (kept ++ last ∷ []) 0 ≢ 0
first-kept kept last n large e (inl none) = λ z.
    let value : n ≡ value_of 128 (last ∷ []) = rw none at e in
    let zero_last : last ≡ 0 = rw none at z in
    omega (arith, value, zero_last, large)
first-kept kept last n large e (inr first) = first

high-form : (class : Class) (constructed : Bool) (n : ℕ) (digits : List ℕ) (last : ℕ) → 31 ≤ n
    → All (λ d. d < 128) digits → last < 128 → length digits ≤ 8
    → n ≡ value_of 128 (digits ++ last ∷ []) → ShortIdentifier class constructed n
high-form class constructed n digits last large each below short e =
    let r : StrippedDigits 128 digits (last ∷ []) = strip_zeros 128 digits (last ∷ []) each in
    let value : n ≡ value_of 128 (r.kept ++ last ∷ []) = e ∙ sym r.value in
    let nonzero : slice_index (r.kept ++ last ∷ []) 0 ≢ 0 = first-kept r.kept last n large value r.first in
    record {
      octets = identifier_octet class constructed 31 ∷ (with_bit_8 r.kept ++ last ∷ []);
      valid = inr (record {
        digits = r.kept;
        last = last;
        each = r.each;
        last_digit = below;
        short = omega (arith, r.no_more);
        value = value;
        octets_are = refl;
      });
      shortest = record {
        single = λ small. absurd (omega (arith, small, large));
        leading =
            λ more z. nonzero (sym (high-first (identifier_octet class constructed 31) r.kept last r.each below) ∙ z);
      };
    }

pub short-identifier : (class : Class) (constructed : Bool) (n : ℕ) (octets : List ℕ)
    → IsIdentifier class constructed n octets
    → identifier_octet class constructed n ≢ 0 → ShortIdentifier class constructed n
short-identifier class constructed n octets (inl f) nonzero = low-form class constructed n f.small nonzero
short-identifier class constructed n octets (inr f) nonzero = elim (cases_lt n 31) [
  | inl small ↦ low-form class constructed n small nonzero
  | inr large ↦ high-form class constructed n f.digits f.last large f.each f.last_digit f.short f.value
]

-- ---- length octets

pub record ShortLength (size : Size) : Type 0 where
  pub octets : List ℕ
  pub valid : IsLength size octets
  pub shortest : IsShortestLength (announced_length size) octets

pub one-octet : (n x : ℕ) → IsShortestLength n (x ∷ [])
one-octet n x = record { single = λ s. refl; leading = λ more. absurd (omega (arith, more)) }

first-of_length : (kept : List ℕ) (n : ℕ) → 128 ≤ n → n ≡ value_of 256 (kept ++ [])
    → (kept ≡ []) ⊎ (slice_index (kept ++ []) 0 ≢ 0)
    → (1 ≤ length kept) × (slice_index kept 0 ≢ 0)
first-of_length [] n large e first = absurd (omega (arith, e, large))
first-of_length (x ∷ kept) n large e (inl none) = absurd (omega (arith, ap length none))
first-of_length (x ∷ kept) n large e (inr first) = (omega arith, first)

long-form : (n : ℕ) (digits : List ℕ) → 128 ≤ n → All (λ d. d < 256) digits → length digits ≤ 126 → n < 2 ^ 40
    → n ≡ value_of 256 digits → ShortLength (Definite n)
long-form n digits large each short limit e =
    let r : StrippedDigits 256 digits [] = strip_zeros 256 digits [] each in
    let value : n ≡ value_of 256 (r.kept ++ []) = e ∙ ap (value_of 256) (sym (append-nil digits)) ∙ sym r.value in
    let first : (1 ≤ length r.kept) × (slice_index r.kept 0 ≢ 0) = first-of_length r.kept n large value r.first in
    record {
      octets = (128 + length r.kept) ∷ r.kept;
      valid = inr (record {
        digits = r.kept;
        each = r.each;
        some = first.0;
        short = omega (arith, r.no_more);
        value = value ∙ ap (value_of 256) (append-nil r.kept);
        limit = limit;
        octets_are = refl;
      });
      shortest = record { single = λ small. absurd (omega (arith, small, large)); leading = λ more z. first.1 z };
    }

pub short-length : (size : Size) (octets : List ℕ) → IsLength size octets → ShortLength size
short-length Indefinite octets v = record { octets = 128 ∷ []; valid = refl; shortest = one-octet 0 128 }
short-length (Definite n) octets (inl f) = record { octets = n ∷ []; valid = inl (f.0, refl); shortest = one-octet n n }
short-length (Definite n) octets (inr f) = elim (cases_lt n 128) [
  | inl small ↦ record { octets = n ∷ []; valid = inl (small, refl); shortest = one-octet n n }
  | inr large ↦ long-form n f.digits large f.each f.short f.limit f.value
]

-- ---- headers

with_identifier : (h : HeaderValue) → IsHeader h → (i : ShortIdentifier h.class h.constructed h.number)
    → IsHeader (record h {
      identifier_octets = i.octets;
    })
with_identifier h valid i = record { identifier = i.valid; lengths = valid.lengths; allowed = valid.allowed }

with_lengths : (h : HeaderValue) → IsHeader h → (l : ShortLength h.size) → IsHeader (record h { length_octets = l.octets })
with_lengths h valid l = record { identifier = valid.identifier; lengths = l.valid; allowed = valid.allowed }

pub shortest-there : HeadersHaveAShortest
shortest-there h valid nonzero =
    let i : ShortIdentifier h.class h.constructed h.number =
    short-identifier h.class h.constructed h.number h.identifier_octets valid.identifier nonzero in
    let l : ShortLength h.size = short-length h.size h.length_octets valid.lengths in (
      record h { identifier_octets = i.octets; length_octets = l.octets },
      record { identifier = i.valid; lengths = l.valid; allowed = valid.allowed },
      record { class = refl; constructed = refl; number = refl },
      refl,
      record { identifier = i.shortest; lengths = l.shortest },
    )

-- a header that is not as short as it can be has a shorter one
pub shorter-identifier : (h : HeaderValue) → IsHeader h → identifier_octet h.class h.constructed h.number ≢ 0
    → (IsShortestIdentifier h.number h.identifier_octets → ⊥) → HasShorter (λ k. k.identifier_octets) h
shorter-identifier h valid nonzero none =
    let i : ShortIdentifier h.class h.constructed h.number =
    short-identifier h.class h.constructed h.number h.identifier_octets valid.identifier nonzero in
    elim (cases_lt (length i.octets) (length h.identifier_octets)) [
      | inl fewer ↦ record {
        other = record h { identifier_octets = i.octets };
        valid = with_identifier h valid i;
        tag_and_form = record { class = refl; constructed = refl; number = refl };
        size = refl;
        fewer = fewer;
      }
      | inr le ↦
          let ge : length i.octets ≤ length h.identifier_octets =
          identifier-le h.class h.constructed h.number i.octets h.identifier_octets i.valid valid.identifier i.shortest in
          let same : i.octets ≡ h.identifier_octets =
          identifier-same h.class h.constructed h.number i.octets h.identifier_octets i.valid valid.identifier
          (omega (arith, le, ge)) in
          absurd (none (subst (IsShortestIdentifier h.number) same i.shortest))
    ]

pub shorter-length : (h : HeaderValue) → IsHeader h → (IsShortestLength (announced_length h.size) h.length_octets → ⊥)
    → HasShorter (λ k. k.length_octets) h
shorter-length h valid none =
    let l : ShortLength h.size = short-length h.size h.length_octets valid.lengths in
    elim (cases_lt (length l.octets) (length h.length_octets)) [
      | inl fewer ↦ record {
        other = record h { length_octets = l.octets };
        valid = with_lengths h valid l;
        tag_and_form = record { class = refl; constructed = refl; number = refl };
        size = refl;
        fewer = fewer;
      }
      | inr le ↦
          let ge : length l.octets ≤ length h.length_octets =
          length-le h.size l.octets h.length_octets l.valid valid.lengths l.shortest in
          let same : l.octets ≡ h.length_octets =
          length-same h.size l.octets h.length_octets l.valid valid.lengths (omega (arith, le, ge)) in
          absurd (none (subst (IsShortestLength (announced_length h.size)) same l.shortest))
    ]

-- and one that is as short as it can be has none
pub no-shorter_identifier : (h : HeaderValue) → IsHeader h → IsShortestIdentifier h.number h.identifier_octets
    → HasShorter (λ k. k.identifier_octets) h → ⊥
no-shorter_identifier h valid s r = omega (arith, r.fewer, shortest-identifier h r.other valid r.valid r.tag_and_form s)

pub no-shorter_length : (h : HeaderValue) → IsHeader h → IsShortestLength (announced_length h.size) h.length_octets
    → HasShorter (λ k. k.length_octets) h → ⊥
no-shorter_length h valid s r = omega (arith, r.fewer, shortest-length h r.other valid r.valid r.size s)
