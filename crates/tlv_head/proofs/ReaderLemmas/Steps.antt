-- What each octet makes of what a reader carries.
use Rattle.std.proofs.Common.{◌≡◌, ◌≢◌, ℕ, suc, Bool, false, ◌+◌, ◌*◌, ◌^◌, ◌-◌, ◌<◌, ◌≤◌, ◌⊎◌, inl, inr, List, [], ◌∷◌}
use Rattle.std.proofs.Common.{◌++◌, length, refl, sym, ap, arith, length-append, append_assoc, subst, lit<}
use Rattle.std.proofs.lemmas.Bool.{cases_lt}
use Rattle.std.proofs.lemmas.List.{length-map, map_push}
use Rattle.std.proofs.lemmas.List.Elements.{All-nil, All-push}
use Rattle.std.proofs.Math.Nat.{pow-suc, pow-le-pow_right, one-le-pow}
use Rattle.tlv_head.specs.Header.{IsIdentifier, identifier_octet, value_of}
use Rattle.tlv_head.specs.Refusal.{IsRefusedOctet, tag_too_long, reserved_length, indefinite_primitive}
use Rattle.tlv_head.specs.Refusal.{length_too_large}
use Rattle.tlv_head.specs.declared.fault.FaultCode.TheVariants.{TagTooLong, ReservedLength, IndefinitePrimitive}
use Rattle.tlv_head.specs.declared.fault.FaultCode.TheVariants.{LengthTooLarge}
use Rattle.tlv_head.specs.HeaderSoFar.{CarriesNumber, CarriesIdentifier, CarriesLength}
use Rattle.tlv_head.specs.Private.NextOctet.{MakesHeader}
use Rattle.tlv_head.specs.declared.header.Size.TheVariants.{Definite}
use Rattle.tlv_head.specs.declared.next_octet.IdentifierFields.{IdentifierFields}
use Rattle.tlv_head.proofs.NumberLemmas.Digits.{value_of-snoc, value_of-lt}
use Rattle.tlv_head.proofs.GrammarLemmas.Meaning.{allows_definite}

-- the limit on a length so far, as an octet is added and one fewer is to follow
small-step : (n x left : ℕ) → 1 ≤ left → n < 256 ^ (5 - left) → x < 256 → (x ≡ 0) ⊎ (left - 1 < 5)
    → n * 256 + x < 256 ^ (5 - (left - 1))
small-step n x left some small below h = elim (cases_lt (left - 1) 5) [
  | inl k ↦
      let e : 5 - (left - 1) ≡ suc (5 - left) = omega arith in
      rw (e, pow-suc 256 (5 - left)) (omega arith)
  | inr k ↦
      let e : 5 - (left - 1) ≡ 0 = omega arith in
      let e2 : 5 - left ≡ 0 = omega arith in
      let s : n < 256 ^ 0 = subst (λ m. n < 256 ^ m) e2 small in
      let z : x ≡ 0 = elim h as (λ _. x ≡ 0) [ inl p ↦ p | inr q ↦ omega arith ] in
      rw e (omega arith)
]

-- a length so far, of which octets are still to follow, is below 2 ^ 32
pub length-lt : (n left : ℕ) → 1 ≤ left → n < 256 ^ (5 - left) → n < 2 ^ 32
length-lt n left some small =
    let k : 5 - left ≤ 4 = omega arith in
    let p : 256 ^ (5 - left) ≤ 256 ^ 4 = pow-le-pow_right {n = 256} (lit< tt) k in
    omega arith

pub number-lt : (id : IdentifierFields) (octets : List ℕ) → CarriesNumber id octets → id.number < 2 ^ 56
number-lt id octets h =
    let v : value_of 128 h.prefix.digits < 128 ^ length h.prefix.digits =
    value_of-lt 128 h.prefix.digits (lit< tt) h.prefix.each in
    let p : 128 ^ length h.prefix.digits ≤ 128 ^ 8 = pow-le-pow_right {n = 128} (lit< tt) h.short in
    omega (arith, h.value)

-- one more octet after a prefix
prefix-snoc : (i ds os : List ℕ) (a b x : ℕ) → os ≡ i ++ a ∷ ds → b ≡ a → os ++ x ∷ [] ≡ i ++ (b ∷ (ds ++ x ∷ []))
prefix-snoc i ds os a b x e f = rw (e, f) (append_assoc i (a ∷ ds) (x ∷ []))

pub begins_length : (id : IdentifierFields) (octets : List ℕ) (x : ℕ) → CarriesIdentifier id octets → 128 < x → x < 255
    → CarriesLength id 0 (x - 128) (octets ++ x ∷ [])
begins_length id octets x h low high = record {
  prefix = record {
    identifier_octets = octets;
    digits = [];
    identifier = h.identifier;
    each = All-nil (λ d. d < 256);
    some = omega arith;
    within = omega arith;
    octets_are = (let e : 128 + (0 + (x - 128)) ≡ x = omega arith in rw e refl);
  };
  count = h.count;
  short = h.short;
  value = refl;
  small = one-le-pow (5 - (x - 128)) 256 (lit< tt);
}

pub more_length : (id : IdentifierFields) (n left x r : ℕ) (octets : List ℕ) → CarriesLength id n left octets → r ≡ x
    → x < 256
    → (x ≡ 0) ⊎ (left - 1 < 5) → left - 1 ≢ 0 → CarriesLength id (n * 256 + r) (left - 1) (octets ++ x ∷ [])
more_length id n left x r octets h e below zero_or_few rest =
    let some : 1 ≤ left = h.prefix.some in
    let len : length (h.prefix.digits ++ x ∷ []) ≡ length h.prefix.digits + 1 =
    omega (arith, length-append h.prefix.digits (x ∷ [])) in
    let within : length h.prefix.digits + left ≤ 126 = h.prefix.within in
    record {
      prefix = record {
        identifier_octets = h.prefix.identifier_octets;
        digits = h.prefix.digits ++ x ∷ [];
        identifier = h.prefix.identifier;
        each = All-push (λ d. d < 256) h.prefix.digits x h.prefix.each below;
        some = omega arith;
        within = omega arith;
        octets_are = prefix-snoc _ _ _ _ _ _ h.prefix.octets_are (omega arith);
      };
      count = h.count;
      short = h.short;
      value = rw (e, h.value) (sym (value_of-snoc 256 h.prefix.digits x));
      small = rw e (small-step n x left some h.small below zero_or_few);
    }

pub ends_length : (id : IdentifierFields) (n left x r : ℕ) (octets : List ℕ) → CarriesLength id n left octets → r ≡ x
    → x < 256
    → (x ≡ 0) ⊎ (left - 1 < 5) → left - 1 ≡ 0 → MakesHeader id (Definite (n * 256 + r)) (octets ++ x ∷ [])
ends_length id n left x r octets h e below zero_or_few rest =
    let some : 1 ≤ left = h.prefix.some in
    let len : length (h.prefix.digits ++ x ∷ []) ≡ length h.prefix.digits + 1 =
    omega (arith, length-append h.prefix.digits (x ∷ [])) in
    let within : length h.prefix.digits + left ≤ 126 = h.prefix.within in
    let one : left ≡ 1 = omega arith in
    let small : n < 256 ^ (5 - 1) = subst (λ m. n < 256 ^ (5 - m)) one h.small in
    record {
      identifier_octets = h.prefix.identifier_octets;
      length_octets = (128 + length (h.prefix.digits ++ x ∷ [])) ∷ (h.prefix.digits ++ x ∷ []);
      carried = record { identifier = h.prefix.identifier; count = h.count; short = h.short };
      lengths = inr (record {
        digits = h.prefix.digits ++ x ∷ [];
        each = All-push (λ d. d < 256) h.prefix.digits x h.prefix.each below;
        some = omega arith;
        short = omega arith;
        value = rw (e, h.value) (sym (value_of-snoc 256 h.prefix.digits x));
        limit = omega arith;
        octets_are = refl;
      });
      short = omega arith;
      some = omega arith;
      allowed = allows_definite id.constructed (n * 256 + r);
      octets_are = prefix-snoc _ _ _ _ _ _ h.prefix.octets_are (omega arith);
    }

-- a first octet with bits 5 to 1 set: no digits so far
pub begins_number : (id : IdentifierFields) (x : ℕ) → id.number ≡ 0 → id.id_len ≡ 1
    → x ≡ identifier_octet id.class id.constructed 31 → CarriesNumber id (x ∷ [])
begins_number id x none first e = record {
  prefix = record { digits = []; each = All-nil (λ d. d < 128); octets_are = ap (λ (y : ℕ). y ∷ []) e };
  count = first;
  short = omega arith;
  value = none;
}

pub more_number : (id : IdentifierFields) (x r : ℕ) (octets : List ℕ) → CarriesNumber id octets → x ≡ 128 + r → r < 128
    → id.id_len < 9
    → CarriesNumber
    (record {
      class = id.class;
      constructed = id.constructed;
      number = id.number * 128 + r;
      id_len = id.id_len + 1;
    })
    (octets ++ x ∷ [])
more_number id x r octets h e below few =
    let len : length (h.prefix.digits ++ r ∷ []) ≡ length h.prefix.digits + 1 =
    omega (arith, length-append h.prefix.digits (r ∷ [])) in
    let count : id.id_len ≡ length h.prefix.digits + 1 = h.count in
    record {
      prefix = record {
        digits = h.prefix.digits ++ r ∷ [];
        each = All-push (λ d. d < 128) h.prefix.digits r h.prefix.each below;
        octets_are = rw (h.prefix.octets_are, e, map_push (λ d. 128 + d) h.prefix.digits r) refl;
      };
      count = omega arith;
      short = omega arith;
      value = rw h.value (sym (value_of-snoc 128 h.prefix.digits r));
    }

pub ends_number : (id : IdentifierFields) (x r : ℕ) (octets : List ℕ) → CarriesNumber id octets → r ≡ x → x < 128
    → CarriesIdentifier
    (record {
      class = id.class;
      constructed = id.constructed;
      number = id.number * 128 + r;
      id_len = id.id_len + 1;
    })
    (octets ++ x ∷ [])
ends_number id x r octets h e below =
    let count : id.id_len ≡ length h.prefix.digits + 1 = h.count in
    let size : length octets ≡ length h.prefix.digits + 1 =
    rw h.prefix.octets_are (omega (arith, length-map h.prefix.digits (λ d. 128 + d))) in
    let short : length h.prefix.digits ≤ 8 = h.short in
    record {
      identifier = inr (record {
        digits = h.prefix.digits;
        last = x;
        each = h.prefix.each;
        last_digit = below;
        short = h.short;
        value = rw (e, h.value) (sym (value_of-snoc 128 h.prefix.digits x));
        octets_are = rw h.prefix.octets_are refl;
      });
      count = omega (arith, length-append octets (x ∷ []));
      short = omega (arith, length-append octets (x ∷ []));
    }

-- a ninth subsequent identifier octet that is not the last
pub ninth_number : (id : IdentifierFields) (octets : List ℕ) (x : ℕ) → CarriesNumber id octets → 9 ≤ id.id_len → 128 ≤ x
    → IsRefusedOctet octets x TagTooLong
ninth_number id octets x h many flag =
    tag_too_long id.class id.constructed h.prefix (omega (arith, h.short, h.count)) flag

-- a first length octet ff
pub all_ones : (id : IdentifierFields) (octets : List ℕ) (x : ℕ) → CarriesIdentifier id octets → x ≡ 255
    → IsRefusedOctet octets x ReservedLength
all_ones id octets x h e = reserved_length id.class id.constructed id.number h.identifier e

-- a first length octet 80 of a primitive
pub indefinite-refused : (id : IdentifierFields) (octets : List ℕ) (x : ℕ) → CarriesIdentifier id octets
    → id.constructed ≡ false
    → x ≡ 128 → IsRefusedOctet octets x IndefinitePrimitive
indefinite-refused id octets x h form e =
    indefinite_primitive id.class id.number
    (subst (λ (k : Bool). IsIdentifier id.class k id.number octets) form h.identifier) e

-- a length octet that makes the length too large
pub too_large : (id : IdentifierFields) (n left : ℕ) (octets : List ℕ) (x : ℕ) → CarriesLength id n left octets
    → 6 ≤ left
    → x ≢ 0 → IsRefusedOctet octets x LengthTooLarge
too_large id n left octets x h many nonzero =
    length_too_large id.class id.constructed id.number left h.prefix many nonzero
