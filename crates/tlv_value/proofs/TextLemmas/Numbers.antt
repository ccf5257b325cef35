-- Bits, and the numbers that they stand for.
use Rattle.std.proofs.Common.{◌≡◌, ℕ, zero, suc, ◌+◌, ◌*◌, ◌/◌, ◌%◌, ◌^◌, ◌<◌, ◌≤◌, List, [], ◌∷◌, ◌++◌, length, All}
use Rattle.std.proofs.Common.{refl, sym, ap, ◌∙◌, arith, length-append, append_assoc, append-nil, FitsSigned}
use Rattle.std.specs.Prelude.{Bool, true, false, nat_le, ◌-◌, pos, negsuc, ◌+ℤ◌, ◌-ℤ◌, ◌*ℤ◌}
use Rattle.std.proofs.lemmas.Int.{ints}
use Rattle.std.proofs.Math.Nat.{pow-suc, pow-zero, pow-le-pow_right}
use Rattle.std.proofs.lemmas.List.Elements.{All-append, All-cons, All-nil, All-head, All-tail}
use Rattle.std.proofs.lemmas.Nat.{pow-add}
use mir.Syntax.{w64, w128}
use lib.Signed.{mag}
use Rattle.std.proofs.lemmas.Bool.{leb-true}
use Rattle.std.proofs.lemmas.Bool.Decides.{nat_tests}
use Rattle.tlv_head.specs.Header.{value_of}
use Rattle.tlv_head.proofs.NumberLemmas.Digits.{value_of-snoc, value_of-lt}
use Rattle.tlv_value.specs.Bits.{last_bits, bits_of}
use Rattle.tlv_value.specs.Number.{signed_sum, twos_complement}

pub length-last_bits : (n x : ℕ) → length (last_bits n x) ≡ n
length-last_bits zero x = refl
length-last_bits (suc n) x = omega (arith, length-append (last_bits n (x / 2)) (x % 2 ∷ []), length-last_bits n (x / 2))

-- n bits after others
pub value_of-bits : (n : ℕ) (bits : List ℕ) (x : ℕ) → x < 2 ^ n
    → value_of 2 (bits ++ last_bits n x) ≡ value_of 2 bits * 2 ^ n + x
value_of-bits zero bits x h =
    let h1 : x < 1 = rw (pow-zero 2) at h in
    rw (append-nil, pow-zero 2) (omega arith)
value_of-bits (suc n) bits x h =
    let h1 : x < 2 * 2 ^ n = omega (arith, h, pow-suc 2 n) in
    let e : value_of 2 (bits ++ last_bits n (x / 2)) ≡ value_of 2 bits * 2 ^ n + x / 2 =
    value_of-bits n bits (x / 2) (omega arith) in
    ap (value_of 2) (sym (append_assoc bits (last_bits n (x / 2)) (x % 2 ∷ [])))
    ∙ value_of-snoc 2 (bits ++ last_bits n (x / 2)) (x % 2)
    ∙ rw (e, pow-suc 2 n) (grind arith)

-- eight bits after others
pub value_of-octet : (bits : List ℕ) (x : ℕ) → x < 256 → value_of 2 (bits ++ last_bits 8 x) ≡ value_of 2 bits * 256 + x
value_of-octet bits x h = value_of-bits 8 bits x h

all-last_bits : (n x : ℕ) → All (λ b. b < 2) (last_bits n x)
all-last_bits zero x = All-nil (λ b. b < 2)
all-last_bits (suc n) x =
    All-append (λ b. b < 2) (last_bits n (x / 2)) (x % 2 ∷ []) (all-last_bits n (x / 2))
    (All-cons (λ b. b < 2) (x % 2) [] (omega arith) (All-nil (λ b. b < 2)))

pub all-bits : (c : List ℕ) → All (λ b. b < 2) (bits_of c)
all-bits [] = All-nil (λ b. b < 2)
all-bits (x ∷ xs) = All-append (λ b. b < 2) (last_bits 8 x) (bits_of xs) (all-last_bits 8 x) (all-bits xs)

pub length-bits : (c : List ℕ) → length (bits_of c) ≡ 8 * length c
length-bits [] = refl
length-bits (x ∷ xs) = omega (arith, length-append (last_bits 8 x) (bits_of xs), length-last_bits 8 x, length-bits xs)

pub bits-append : (c d : List ℕ) → bits_of (c ++ d) ≡ bits_of c ++ bits_of d
bits-append [] d = refl
bits-append (x ∷ c) d =
    ap (λ (t : List ℕ). last_bits 8 x ++ t) (bits-append c d)
    ∙ sym (append_assoc (last_bits 8 x) (bits_of c) (bits_of d))

difference-spread : (v b x : ℕ) → pos (v * 256 + x) -ℤ pos (b * 256) ≡ (pos v -ℤ pos b) *ℤ pos 256 +ℤ pos x
difference-spread v b x = omega (arith, ints)

-- eight bits more
signed-octet : (bits : List ℕ) (x : ℕ) → 1 ≤ length bits → x < 256
    → signed_sum (bits ++ last_bits 8 x) ≡ signed_sum bits *ℤ pos 256 +ℤ pos x
signed-octet [] x some h = absurd (omega arith)
signed-octet (bit ∷ bits) x some h =
    let e = value_of-octet bits x h in
    let p : 2 ^ length (bits ++ last_bits 8 x) ≡ 2 ^ length bits * 256 =
    ap (λ n. 2 ^ n) (length-append bits (last_bits 8 x) ∙ ap (λ n. length bits + n) (length-last_bits 8 x))
    ∙ pow-add 2 (length bits) 8 in
    let q : bit * (2 ^ length bits * 256) ≡ bit * 2 ^ length bits * 256 = grind arith in
    rw (e, p, q) (difference-spread (value_of 2 bits) (bit * 2 ^ length bits) x)

-- the number of one octet more
pub twos-more : (c : List ℕ) (x : ℕ) → 1 ≤ length c → x < 256
    → twos_complement (c ++ x ∷ []) ≡ twos_complement c *ℤ pos 256 +ℤ pos x
twos-more c x some h =
    ap signed_sum (bits-append c (x ∷ []) ∙ ap (λ (t : List ℕ). bits_of c ++ t) (append-nil (last_bits 8 x)))
    ∙ signed-octet (bits_of c) x (omega (arith, length-bits c)) h

difference-widen : (v b : ℕ) → (pos v -ℤ pos b) *ℤ pos 256 ≡ pos (v * 256) -ℤ pos (b * 256)
difference-widen v b = omega (arith, ints)

diff-mag-at : (x y p : ℕ) (b : Bool) → nat_le y x ≡ b → x < p → y ≤ p → mag (pos x -ℤ pos y) < p
diff-mag-at x y p true e h g =
    let l : y ≤ x = leb-true y x e in
    let q : pos x -ℤ pos y ≡ pos (x - y) = omega (arith, ints) in
    rw q (omega arith)
diff-mag-at x y p false e h g =
    let l : x < y = grind (arith, nat_tests) in
    let q : pos x -ℤ pos y ≡ negsuc (y - x - 1) = omega (arith, ints) in
    rw q (omega arith)

diff-mag : (x y p : ℕ) → x < p → y ≤ p → mag (pos x -ℤ pos y) < p
diff-mag x y p h g = diff-mag-at x y p (nat_le y x) refl h g

pow-pos : (n : ℕ) → 0 < 2 ^ n
pow-pos n = pow-le-pow_right {n = 2} (omega arith) {i = 0} {j = n} (omega arith)

at_most_one : (b p : ℕ) → b < 2 → b * p ≤ p
at_most_one zero p h = omega arith
at_most_one (suc zero) p h = omega arith
at_most_one (suc (suc b)) p h = absurd (omega arith)

-- a number of n + 1 bits
mag-signed : (n : ℕ) (bits : List ℕ) → length bits ≤ n + 1 → All (λ b. b < 2) bits → mag (signed_sum bits) < 2 ^ n
mag-signed n [] short all = pow-pos n
mag-signed n (bit ∷ bits) short all =
    let p : 2 ^ length bits ≤ 2 ^ n = pow-le-pow_right {n = 2} (omega arith) {i = length bits} {j = n} (omega arith) in
    let v : value_of 2 bits < 2 ^ length bits = value_of-lt 2 bits (omega arith) (All-tail (λ b. b < 2) bit bits all) in
    let one : bit * 2 ^ length bits ≤ 2 ^ length bits =
    at_most_one bit (2 ^ length bits) (All-head (λ b. b < 2) bit bits all) in
    diff-mag (value_of 2 bits) (bit * 2 ^ length bits) (2 ^ n) (omega (arith, p, v)) (omega (arith, p, one))

-- and eight bits more
mag-wider_number : (n : ℕ) (bits : List ℕ) → length bits ≤ n + 1 → All (λ b. b < 2) bits
    → mag (signed_sum bits *ℤ pos 256) < 2 ^ n * 256
mag-wider_number n [] short all = omega (arith, pow-pos n)
mag-wider_number n (bit ∷ bits) short all =
    let p : 2 ^ length bits ≤ 2 ^ n = pow-le-pow_right {n = 2} (omega arith) {i = length bits} {j = n} (omega arith) in
    let v : value_of 2 bits < 2 ^ length bits = value_of-lt 2 bits (omega arith) (All-tail (λ b. b < 2) bit bits all) in
    let one : bit * 2 ^ length bits ≤ 2 ^ length bits =
    at_most_one bit (2 ^ length bits) (All-head (λ b. b < 2) bit bits all) in
    rw (difference-widen (value_of 2 bits) (bit * 2 ^ length bits))
    (diff-mag (value_of 2 bits * 256) (bit * 2 ^ length bits * 256) (2 ^ n * 256) (omega (arith, p, v))
    (omega (arith, p, one)))

-- fifteen octets leave room for one more, and seven in half as many bits
pub twos-fits : (c : List ℕ) → length c ≤ 15 → FitsSigned w128 (twos_complement c *ℤ pos 256)
twos-fits c short = record { sfits = mag-wider_number 119 (bits_of c) (omega (arith, length-bits c)) (all-bits c) }

pub twos-fits_64 : (c : List ℕ) → length c ≤ 7 → FitsSigned w64 (twos_complement c *ℤ pos 256)
twos-fits_64 c short = record { sfits = mag-wider_number 55 (bits_of c) (omega (arith, length-bits c)) (all-bits c) }

pub twos-fits_all : (c : List ℕ) → length c ≤ 16 → FitsSigned w128 (twos_complement c)
twos-fits_all c short = record { sfits = mag-signed 127 (bits_of c) (omega (arith, length-bits c)) (all-bits c) }

pub twos-fits_all_64 : (c : List ℕ) → length c ≤ 8 → FitsSigned w64 (twos_complement c)
twos-fits_all_64 c short = record { sfits = mag-signed 63 (bits_of c) (omega (arith, length-bits c)) (all-bits c) }
