-- Pairs of digits, one after another.
use Rattle.std.proofs.Common.{◌≡◌, ℕ, ◌+◌, ◌%◌, true, List, [], ◌∷◌, ◌++◌, length, refl, ap}
use Rattle.std.proofs.Common.{◌∙◌, arith, Option, Some, None, Ok}
use Rattle.std.specs.Prelude.{is_some, unwrap_or}
use Rattle.std.specs.List.{AllPass}
use Rattle.std.proofs.lemmas.List.{length-append}
use Rattle.std.proofs.lemmas.List.Elements.{All-append, All-cons, All-head, All-nil, All-tail}
use Rattle.hex.specs.Hex.{decode_pairs, decode_of, hex_digit_value, is_hex_digit, pair_value}
use Rattle.hex.proofs.Pairs.{decode_pairs-ok_pair}
use Rattle.hex.proofs.HexLemmas.{decode_of-even, decode_of-same}
use Rattle.tlv_text.specs.Pairs.{pair_octet}
use Rattle.tlv_text.specs.Private.PairSteps.{AreWholePairs, pair_octets}

-- octets of pairs, and of a pair after them
pub pair_octets-more : (digits : List ℕ) (x y : ℕ) → length digits % 2 ≡ 0
    → pair_octets (digits ++ x ∷ y ∷ []) ≡ pair_octets digits ++ pair_octet x y ∷ []
pair_octets-more [] x y even = refl
pair_octets-more (a ∷ []) x y even = absurd (omega arith)
pair_octets-more (a ∷ b ∷ digits) x y even =
    ap (λ (t : List ℕ). pair_octet a b ∷ t) (pair_octets-more digits x y (omega arith))

some-value : (o : Option ℕ) → is_some o ≡ true → o ≡ Some (unwrap_or o 0)
some-value (Some x) e = refl
some-value None e = cc e

-- two digits are an octet
pair-value : (x y i : ℕ) → is_hex_digit x ≡ true → is_hex_digit y ≡ true → pair_value x y i ≡ Ok (pair_octet x y)
pair-value x y i dx dy =
    rw (some-value (hex_digit_value x) dx, some-value (hex_digit_value y) dy) refl

-- pairs of digits are decoded
pairs-decoded : (i : ℕ) (digits : List ℕ) → length digits % 2 ≡ 0 → AllPass is_hex_digit digits
    → decode_pairs i digits ≡ Ok (pair_octets digits)
unfolding decode_pairs
pairs-decoded i [] even all = refl
pairs-decoded i (x ∷ []) even all = absurd (omega arith)
pairs-decoded i (x ∷ y ∷ digits) even all =
    let rest = All-tail (λ d. is_hex_digit d ≡ true) x (y ∷ digits) all in
    rw (
      decode_pairs-ok_pair i x y _ digits
          (pair-value x y i (All-head (λ d. is_hex_digit d ≡ true) x (y ∷ digits) all)
          (All-head (λ d. is_hex_digit d ≡ true) y digits rest)),
      pairs-decoded (i + 2) digits (omega arith) (All-tail (λ d. is_hex_digit d ≡ true) y digits rest),
    ) refl

pub whole-decoded : (digits : List ℕ) → AreWholePairs digits → decode_of digits ≡ Ok (pair_octets digits)
whole-decoded digits p = decode_of-even digits p.even ∙ pairs-decoded 0 digits p.even p.digits

pub decoded-are : (digits octets : List ℕ) → AreWholePairs digits → decode_of digits ≡ Ok octets
    → octets ≡ pair_octets digits
decoded-are digits octets p e =
    decode_of-same digits octets (pair_octets digits) e (whole-decoded digits p)

pub pairs-and_one : (digits : List ℕ) (x y : ℕ) → AreWholePairs digits → is_hex_digit x ≡ true → is_hex_digit y ≡ true
    → AreWholePairs (digits ++ x ∷ y ∷ [])
pairs-and_one digits x y p dx dy = record {
  even = omega (arith, p.even, length-append digits (x ∷ y ∷ []));
  digits = All-append (λ d. is_hex_digit d ≡ true) digits (x ∷ y ∷ []) p.digits
      (All-cons (λ d. is_hex_digit d ≡ true) x (y ∷ []) dx
      (All-cons (λ d. is_hex_digit d ≡ true) y [] dy (All-nil (λ d. is_hex_digit d ≡ true))));
}
