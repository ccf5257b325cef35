-- Fractions of times, digit by digit.
use Rattle.std.proofs.Common.{◌≡◌, ℕ, ◌-◌, ◌≤◌, Bool, true, false, ◌&&◌, ◌||◌, nat_le, eqb, List, [], ◌∷◌, refl, sym}
use Rattle.std.proofs.Common.{ap, ◌∙◌, length, get_or, drop, take, arith}
use Rattle.std.proofs.lemmas.Bool.Decides.{nat_tests}
use Rattle.std.specs.Char.{is_ascii_digit}
use Rattle.tlv_value.specs.Times.{Form, digits, fraction, generalized_zone, hour, mark, maybe, minute, octet_between}
use Rattle.tlv_value.specs.Times.{sign, ◌or◌, ◌followed_by◌}
use Rattle.tlv_value.proofs.CheckLemmas.Forms.{and-false, digits-then, either-then, is_either, octet-then, one-left}
use Rattle.tlv_value.proofs.CheckLemmas.Forms.{or-false, then-assoc, two-left}

-- ---- a fraction of any form

and-assoc : (a b c : Bool) → (a && (b && c)) ≡ ((a && b) && c)
and-assoc true b c = refl
and-assoc false b c = refl

-- the mark of a fraction, and a digit
abbrev pub begins_fraction : ℕ → ℕ → Bool
begins_fraction x y = is_either 46 44 x && (nat_le 48 y && nat_le y 57)

fraction-then : (g : Form) (x y : ℕ) (xs : List ℕ)
    → (fraction followed_by g) (x ∷ y ∷ xs) ≡ (begins_fraction x y && (digits followed_by g) xs)
fraction-then g x y xs =
    then-assoc (mark 46 or mark 44) (octet_between 48 57 followed_by digits) g (x ∷ y ∷ xs)
    ∙ either-then 46 44 ((octet_between 48 57 followed_by digits) followed_by g) x (y ∷ xs)
    ∙ ap (λ (b : Bool). is_either 46 44 x && b)
    (then-assoc (octet_between 48 57) digits g (y ∷ xs) ∙ octet-then 48 57 (digits followed_by g) y xs)
    ∙ and-assoc (is_either 46 44 x) (nat_le 48 y && nat_le y 57) ((digits followed_by g) xs)

pub has-fraction : (g : Form) (xs : List ℕ) → 2 ≤ length xs → begins_fraction (get_or xs 0 0) (get_or xs 1 0) ≡ true
    → (digits followed_by g) (take (length xs - 2) (drop 2 xs)) ≡ (fraction followed_by g) xs
has-fraction g [] h e = absurd (omega arith)
has-fraction g (x ∷ []) h e = absurd (omega arith)
has-fraction g (x ∷ y ∷ xs) h e =
    ap (digits followed_by g) (two-left x y xs)
    ∙ sym (fraction-then g x y xs ∙ ap (λ (b : Bool). b && (digits followed_by g) xs) e)

pub no-fraction : (g : Form) (xs : List ℕ)
    → (2 ≤ length xs → begins_fraction (get_or xs 0 0) (get_or xs 1 0) ≡ false) → false ≡ (fraction followed_by g) xs
no-fraction g [] e = refl
no-fraction g (x ∷ []) e =
    sym (then-assoc (mark 46 or mark 44) (octet_between 48 57 followed_by digits) g (x ∷ [])
    ∙ either-then 46 44 ((octet_between 48 57 followed_by digits) followed_by g) x [] ∙ and-false (is_either 46 44 x))
no-fraction g (x ∷ y ∷ xs) e =
    sym (fraction-then g x y xs ∙ ap (λ (b : Bool). b && (digits followed_by g) xs) (e (omega arith)))

not-zulu : (x : ℕ) (xs : List ℕ) → is_ascii_digit x ≡ true → mark 90 (x ∷ xs) ≡ false
not-zulu x [] h = grind (arith, nat_tests)
not-zulu x (y ∷ ys) h = refl

not-sign : (x : ℕ) → is_ascii_digit x ≡ true → is_either 43 45 x ≡ false
not-sign x h = grind (arith, nat_tests)

-- a zone does not begin with a digit
no-zone : (x : ℕ) (xs : List ℕ) → is_ascii_digit x ≡ true → (maybe generalized_zone) (x ∷ xs) ≡ false
no-zone x xs h =
    or-false (generalized_zone (x ∷ xs))
    ∙ ap (λ (b : Bool). b || (sign followed_by hour followed_by maybe minute) (x ∷ xs)) (not-zulu x xs h)
    ∙ either-then 43 45 (hour followed_by maybe minute) x xs
    ∙ ap (λ (b : Bool). b && (hour followed_by maybe minute) xs) (not-sign x h)

-- one digit more of the fraction
pub digit-first : (xs : List ℕ) → 1 ≤ length xs → is_ascii_digit (get_or xs 0 0) ≡ true
    → (digits followed_by maybe generalized_zone) (take (length xs - 1) (drop 1 xs)) ≡ (digits followed_by maybe generalized_zone) xs
digit-first [] h e = absurd (omega arith)
digit-first (x ∷ xs) h e =
    let rest : Bool = (digits followed_by maybe generalized_zone) xs in
    ap (digits followed_by maybe generalized_zone) (one-left x xs)
    ∙ sym (digits-then (maybe generalized_zone) x xs
    ∙ ap (λ (b : Bool). b || (is_ascii_digit x && rest)) (no-zone x xs e) ∙ ap (λ (b : Bool). b && rest) e)

-- no digit more
pub no-digit : (g : Form) (xs : List ℕ) → (1 ≤ length xs → is_ascii_digit (get_or xs 0 0) ≡ false)
    → g xs ≡ (digits followed_by g) xs
no-digit g [] e = sym (or-false (g []))
no-digit g (x ∷ xs) e =
    sym (digits-then g x xs ∙ ap (λ (b : Bool). g (x ∷ xs) || (b && (digits followed_by g) xs)) (e (omega arith))
    ∙ or-false (g (x ∷ xs)))

-- ---- a fraction of the canonical form

abbrev ends_canonically : Form
ends_canonically = (digits followed_by octet_between 49 57) followed_by mark 90

-- just two octets: a digit that is not 0, and Z
abbrev pub is_last_pair : List ℕ → Bool
is_last_pair xs =
    eqb (length xs) 2 && (nat_le 49 (get_or xs 0 0) && nat_le (get_or xs 0 0) 57)
    && (nat_le 90 (get_or xs 1 0) && nat_le (get_or xs 1 0) 90)

last-then : (x : ℕ) (xs : List ℕ)
    → ends_canonically (x ∷ xs)
    ≡ (((nat_le 49 x && nat_le x 57) && mark 90 xs) || (is_ascii_digit x && ends_canonically xs))
last-then x xs =
    then-assoc digits (octet_between 49 57) (mark 90) (x ∷ xs)
    ∙ digits-then (octet_between 49 57 followed_by mark 90) x xs
    ∙ ap (λ (b : Bool). b || (is_ascii_digit x && (digits followed_by octet_between 49 57 followed_by mark 90) xs))
    (octet-then 49 57 (mark 90) x xs)
    ∙ ap (λ (b : Bool). ((nat_le 49 x && nat_le x 57) && mark 90 xs) || (is_ascii_digit x && b))
    (sym (then-assoc digits (octet_between 49 57) (mark 90) xs))

not-last : (x : ℕ) (xs : List ℕ) → is_last_pair (x ∷ xs) ≡ false → ((nat_le 49 x && nat_le x 57) && mark 90 xs) ≡ false
not-last x [] e = and-false (nat_le 49 x && nat_le x 57)
not-last x (y ∷ []) e = e
not-last x (y ∷ z ∷ zs) e = and-false (nat_le 49 x && nat_le x 57)

pub skips-digit : (xs : List ℕ) → 1 ≤ length xs → is_ascii_digit (get_or xs 0 0) ≡ true → is_last_pair xs ≡ false
    → ends_canonically (take (length xs - 1) (drop 1 xs)) ≡ ends_canonically xs
skips-digit [] h e n = absurd (omega arith)
skips-digit (x ∷ xs) h e n =
    ap ends_canonically (one-left x xs)
    ∙ sym (last-then x xs
    ∙ ap (λ (b : Bool). b || (is_ascii_digit x && ends_canonically xs)) (not-last x xs n)
    ∙ ap (λ (b : Bool). b && ends_canonically xs) e)

not-last-digit : (x : ℕ) → is_ascii_digit x ≡ false → (nat_le 49 x && nat_le x 57) ≡ false
not-last-digit x h = grind (arith, nat_tests)

pub none-left : (xs : List ℕ) → (1 ≤ length xs → is_ascii_digit (get_or xs 0 0) ≡ false)
    → false ≡ ends_canonically xs
none-left [] e = refl
none-left (x ∷ xs) e =
    let n = e (omega arith) in
    sym (last-then x xs
    ∙ ap (λ (b : Bool). (b && mark 90 xs) || (is_ascii_digit x && ends_canonically xs)) (not-last-digit x n)
    ∙ ap (λ (b : Bool). b && ends_canonically xs) n)
