-- Each length below 2^40 has length octets.
use Rattle.std.proofs.Common.{◌≡◌, ℕ, zero, suc, ◌+◌, ◌*◌, ◌/◌, ◌%◌, ◌^◌, ◌<◌, ◌≤◌, inr, List, [], ◌∷◌, ◌++◌, length}
use Rattle.std.proofs.Common.{All, refl, sym, arith, length-append}
use Rattle.std.proofs.lemmas.List.Elements.{All-nil, All-push}
use Rattle.std.proofs.Math.Nat.{pow-suc, pow-zero}
use Rattle.tlv_head.specs.declared.header.Size.{Size}
use Rattle.tlv_head.specs.declared.header.Size.TheVariants.{Definite, Indefinite}
use Rattle.tlv_head.specs.Header.{IsLength, announced_length, value_of}
use Rattle.tlv_head.proofs.NumberLemmas.Digits.{value_of-snoc}
use Rattle.tlv_head.proofs.ShortestLemmas.OneShortest.{length-le}
use Rattle.tlv_head.proofs.ShortestLemmas.ShortestSpelling.{ShortLength, one-octet, short-length}

-- so many digits of a number
record HasDigits (k n : ℕ) : Type 0 where
  pub digits : List ℕ
  pub each : All (λ d. d < 256) digits
  pub count : length digits ≡ k
  pub value : value_of 256 digits ≡ n

digits-of : (k n : ℕ) → n < 256 ^ k → HasDigits k n
digits-of zero n below = record {
  digits = [];
  each = All-nil (λ d. d < 256);
  count = refl;
  value = let b : n < 1 = rw (pow-zero 256) at below in omega arith;
}
digits-of (suc k) n below =
    let b : n < 256 ^ k * 256 = rw (pow-suc 256 k) at below in
    let leading : HasDigits k (n / 256) = digits-of k (n / 256) (omega (arith, b)) in
    let value : value_of 256 (leading.digits ++ n % 256 ∷ []) ≡ value_of 256 leading.digits * 256 + n % 256 =
    value_of-snoc 256 leading.digits (n % 256) in
    record {
      digits = leading.digits ++ n % 256 ∷ [];
      each = All-push (λ d. d < 256) leading.digits (n % 256) leading.each (omega arith);
      count = omega (arith, leading.count, length-append leading.digits (n % 256 ∷ []));
      value = omega (arith, value, leading.value);
    }

-- length octets, as few as they can be, at most six
pub record FewLengths (size : Size) : Type 0 where
  pub short : ShortLength size
  pub few : length short.octets ≤ 6

pub few-lengths : (size : Size) → announced_length size < 2 ^ 40 → FewLengths size
few-lengths Indefinite below = record {
  short = record { octets = 128 ∷ []; valid = refl; shortest = one-octet 0 128 };
  few = omega arith;
}
few-lengths (Definite n) below =
    let five : HasDigits 5 n = digits-of 5 n (omega (arith, below)) in
    let valid : IsLength (Definite n) ((128 + length five.digits) ∷ five.digits) =
    inr (record {
      digits = five.digits;
      each = five.each;
      some = omega (arith, five.count);
      short = omega (arith, five.count);
      value = sym five.value;
      limit = below;
      octets_are = refl;
    }) in
    let short : ShortLength (Definite n) = short-length (Definite n) ((128 + length five.digits) ∷ five.digits) valid in
    record {
      short = short;
      few =
          omega (
            arith,
            five.count,
            length-le (Definite n) short.octets ((128 + length five.digits) ∷ five.digits) short.valid valid
                short.shortest,
          );
    }
