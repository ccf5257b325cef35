-- The texts of values, piece by piece.
use Rattle.std.proofs.Common.{◌≡◌, ℕ, zero, suc, ◌+◌, ◌-◌, ◌*◌, ◌≤◌, List, [], ◌∷◌, ◌++◌, length, take, refl, ap, ◌∙◌}
use Rattle.std.proofs.Common.{arith, append_assoc, append-nil, length-append}
use Rattle.std.proofs.Math.Seq.{take-append-add}
use Rattle.std.proofs.lemmas.List.{length-map, map-append}
use Rattle.tlv_value.specs.Bits.{bits_of, last_bits}
use Rattle.tlv_value.specs.Value.{used_digits}
use Rattle.tlv_value.proofs.TextLemmas.Numbers.{bits-append, length-bits, length-last_bits}
use Rattle.tlv_value.specs.Private.Rows.{digits_of_bits}

-- eight digits of each octet
pub length-digits : (octets : List ℕ) → length (digits_of_bits (bits_of octets)) ≡ 8 * length octets
length-digits octets = length-map (bits_of octets) (λ bit. 48 + bit) ∙ length-bits octets

pub length-digits_of_octet : (x : ℕ) → length (digits_of_bits (last_bits 8 x)) ≡ 8
length-digits_of_octet x = length-map (last_bits 8 x) (λ bit. 48 + bit) ∙ length-last_bits 8 x

take-digits : (n : ℕ) (bits : List ℕ) → digits_of_bits (take n bits) ≡ take n (digits_of_bits bits)
take-digits zero bits = refl
take-digits (suc n) [] = refl
take-digits (suc n) (b ∷ bits) = ap (λ (t : List ℕ). (48 + b) ∷ t) (take-digits n bits)

used-some : (unused_bits : ℕ) (prefix : List ℕ) (last : ℕ)
    → used_digits unused_bits (prefix ++ last ∷ [])
    ≡ 32 ∷ digits_of_bits (take (8 * length (prefix ++ last ∷ []) - unused_bits) (bits_of (prefix ++ last ∷ [])))
used-some unused_bits [] last = refl
used-some unused_bits (x ∷ prefix) last = refl

-- the bits of the last octet
pub used-last : (unused_bits : ℕ) (prefix : List ℕ) (last : ℕ) → unused_bits ≤ 7
    → used_digits unused_bits (prefix ++ last ∷ [])
    ≡ 32 ∷ (digits_of_bits (bits_of prefix) ++ take (8 - unused_bits) (digits_of_bits (last_bits 8 last)))
used-last unused_bits prefix last h =
    let l : 8 * length (prefix ++ last ∷ []) - unused_bits ≡ length (bits_of prefix) + (8 - unused_bits) =
    omega (arith, length-append prefix (last ∷ []), length-bits prefix) in
    let b : bits_of (prefix ++ last ∷ []) ≡ bits_of prefix ++ last_bits 8 last =
    bits-append prefix (last ∷ []) ∙ ap (λ (t : List ℕ). bits_of prefix ++ t) (append-nil (last_bits 8 last)) in
    let t : take (length (bits_of prefix) + (8 - unused_bits)) (bits_of prefix ++ last_bits 8 last)
    ≡ bits_of prefix ++ take (8 - unused_bits) (last_bits 8 last) =
    take-append-add (bits_of prefix) (last_bits 8 last) (8 - unused_bits) in
    let d : digits_of_bits (take (8 * length (prefix ++ last ∷ []) - unused_bits) (bits_of (prefix ++ last ∷ [])))
    ≡ digits_of_bits (bits_of prefix) ++ take (8 - unused_bits) (digits_of_bits (last_bits 8 last)) =
    rw (l, b, t)
    (map-append (λ bit. 48 + bit) (bits_of prefix) (take (8 - unused_bits) (last_bits 8 last))
    ∙ ap (λ (t : List ℕ). digits_of_bits (bits_of prefix) ++ t)
    (take-digits (8 - unused_bits) (last_bits 8 last))) in
    used-some unused_bits prefix last ∙ ap (λ (t : List ℕ). 32 ∷ t) d

-- the digits of the unused bits are dropped from the end
pub digits-cut : (held shown digits : List ℕ) (unused_bits n : ℕ) → unused_bits ≤ 7 → length digits ≡ 8
    → n ≡ length ((held ++ shown) ++ digits) - unused_bits
    → take n ((held ++ shown) ++ digits) ≡ held ++ (shown ++ take (8 - unused_bits) digits)
digits-cut held shown digits unused_bits n h size e =
    let m : n ≡ length (held ++ shown) + (8 - unused_bits) =
    omega (arith, e, length-append (held ++ shown) digits, size) in
    ap (λ (k : ℕ). take k ((held ++ shown) ++ digits)) m
    ∙ take-append-add (held ++ shown) digits (8 - unused_bits) ∙ append_assoc held shown (take (8 - unused_bits) digits)
