-- Forms, part by part.
use Rattle.std.proofs.Common.{◌≡◌, ℕ, Bool, true, false, ◌&&◌, ◌||◌, List, [], ◌∷◌, refl, sym, ap, ◌∙◌, nat_le, ◌≤◌}
use Rattle.std.proofs.Common.{length, get_or, drop, take, ◌-◌, arith}
use Rattle.std.proofs.lemmas.Bool.Decides.{nat_tests}
use Rattle.std.proofs.lemmas.List.{take_all}
use Rattle.std.specs.Prelude.{Some, None, map, Option, ◌==◌}
use Rattle.std.specs.Char.{is_ascii_digit}
use Rattle.std.specs.List.{list_any}
use Rattle.tlv_value.specs.Times.{Form, digits, mark, maybe, no_octets, octet_between, splits}
use Rattle.tlv_value.specs.Times.{two_digit_number, two_digits, ◌or◌, ◌followed_by◌}
use Rattle.tlv_value.specs.Private.TimeParts.{LeavesRest}

-- ---- tests of lists

any-map : {X Y : Type 0} (p : Y → Bool) (f : X → Y) (xs : List X)
    → list_any p (map f xs) ≡ list_any (λ (x : X). p (f x)) xs
any-map p f [] = refl
any-map p f (x ∷ xs) = ap (λ (b : Bool). p (f x) || b) (any-map p f xs)

any-same : {X : Type 0} (p q : X → Bool) → ((x : X) → p x ≡ q x) → (xs : List X) → list_any p xs ≡ list_any q xs
any-same p q e [] = refl
any-same p q e (x ∷ xs) = ap (λ (b : Bool). b || list_any p xs) (e x) ∙ ap (λ (b : Bool). q x || b) (any-same p q e xs)

any-none : {X : Type 0} (p : X → Bool) → ((x : X) → p x ≡ false) → (xs : List X) → list_any p xs ≡ false
any-none p e [] = refl
any-none p e (x ∷ xs) = ap (λ (b : Bool). b || list_any p xs) (e x) ∙ any-none p e xs

or-four : (a b c d : Bool) → ((a || b) || (c || d)) ≡ ((a || c) || (b || d))
or-four true b c d = refl
or-four false true true d = refl
or-four false true false d = refl
or-four false false c d = refl

any-or : {X : Type 0} (p q : X → Bool) (xs : List X)
    → list_any (λ (x : X). p x || q x) xs ≡ (list_any p xs || list_any q xs)
any-or p q [] = refl
any-or p q (x ∷ xs) =
    ap (λ (b : Bool). (p x || q x) || b) (any-or p q xs) ∙ or-four (p x) (q x) (list_any p xs) (list_any q xs)

-- ---- tests

pub or-false : (a : Bool) → (a || false) ≡ a
or-false true = refl
or-false false = refl

pub and-false : (a : Bool) → (a && false) ≡ false
and-false true = refl
and-false false = refl

and-none : (a b : Bool) → a ≡ false → (a && b) ≡ false
and-none true b e = absurd (cc (e))
and-none false b e = refl

and-over-or : (a b c : Bool) → ((a || b) && c) ≡ ((a && c) || (b && c))
and-over-or true true true = refl
and-over-or true true false = refl
and-over-or true false true = refl
and-over-or true false false = refl
and-over-or false b c = refl

assoc-empty : (a b c : Bool) → ((((a && b) || false) && c) || false) ≡ ((a && ((b && c) || false)) || false)
assoc-empty true true true = refl
assoc-empty true true false = refl
assoc-empty true false c = refl
assoc-empty false b c = refl

assoc-more : (a b c p q : Bool)
    → ((((a && b) || false) && c) || ((a && p) || q)) ≡ ((a && ((b && c) || p)) || q)
assoc-more true true true p q = refl
assoc-more true true false p q = refl
assoc-more true false c p q = refl
assoc-more false b c p q = refl

-- ---- a text, octet by octet

-- a text with a first octet is split before that octet or behind it
pub then-more : (f g : Form) (x : ℕ) (xs : List ℕ)
    → (f followed_by g) (x ∷ xs) ≡ ((f [] && g (x ∷ xs)) || ((λ (ys : List ℕ). f (x ∷ ys)) followed_by g) xs)
then-more f g x xs =
    ap (λ (b : Bool). (f [] && g (x ∷ xs)) || b)
    (any-map (λ (split : List ℕ × List ℕ). f split.0 && g split.1)
    (λ (split : List ℕ × List ℕ). (x ∷ split.0, split.1)) (splits xs))

pub then-same : (f h g k : Form) → ((xs : List ℕ) → f xs ≡ h xs) → ((xs : List ℕ) → g xs ≡ k xs) → (xs : List ℕ)
    → (f followed_by g) xs ≡ (h followed_by k) xs
then-same f h g k e w xs =
    any-same (λ (split : List ℕ × List ℕ). f split.0 && g split.1) (λ (split : List ℕ × List ℕ). h split.0 && k split.1)
    (λ (split : List ℕ × List ℕ). rw (e split.0, w split.1) refl) (splits xs)

-- a first part of a form that no text has
pub none-then : (f g : Form) → ((xs : List ℕ) → f xs ≡ false) → (xs : List ℕ) → (f followed_by g) xs ≡ false
none-then f g e xs =
    any-none (λ (split : List ℕ × List ℕ). f split.0 && g split.1)
    (λ (split : List ℕ × List ℕ). and-none (f split.0) (g split.1) (e split.0)) (splits xs)

pub or-then : (f g h : Form) (xs : List ℕ) → ((f or g) followed_by h) xs ≡ ((f followed_by h) xs || (g followed_by h) xs)
or-then f g h xs =
    any-same (λ (split : List ℕ × List ℕ). (f split.0 || g split.0) && h split.1)
    (λ (split : List ℕ × List ℕ). (f split.0 && h split.1) || (g split.0 && h split.1))
    (λ (split : List ℕ × List ℕ). and-over-or (f split.0) (g split.0) (h split.1)) (splits xs)
    ∙ any-or (λ (split : List ℕ × List ℕ). f split.0 && h split.1) (λ (split : List ℕ × List ℕ). g split.0 && h split.1)
    (splits xs)

-- a condition on a first part
pub if-then : (a : Bool) (f g : Form) (xs : List ℕ)
    → ((λ (ys : List ℕ). a && f ys) followed_by g) xs ≡ (a && (f followed_by g) xs)
if-then true f g xs = refl
if-then false f g xs = none-then (λ (ys : List ℕ). false) g (λ ys. refl) xs

-- parts may be put together
pub then-assoc : (f g h : Form) (xs : List ℕ) → ((f followed_by g) followed_by h) xs ≡ (f followed_by (g followed_by h)) xs
then-assoc f g h [] = assoc-empty (f []) (g []) (h [])
then-assoc f g h (x ∷ xs) =
    let fx : Form = λ (ys : List ℕ). f (x ∷ ys) in
    let gx : Form = λ (ys : List ℕ). g (x ∷ ys) in
    let fg : Form = λ (ys : List ℕ). (f followed_by g) (x ∷ ys) in
    then-more (f followed_by g) h x xs
    ∙ ap (λ (b : Bool). (((f [] && g []) || false) && h (x ∷ xs)) || b)
    (then-same fg ((λ (ys : List ℕ). f [] && gx ys) or (fx followed_by g)) h h (λ ys. then-more f g x ys) (λ ys. refl) xs
    ∙ or-then (λ (ys : List ℕ). f [] && gx ys) (fx followed_by g) h xs
    ∙ ap (λ (b : Bool). b || ((fx followed_by g) followed_by h) xs) (if-then (f []) gx h xs)
    ∙ ap (λ (b : Bool). (f [] && (gx followed_by h) xs) || b) (then-assoc fx g h xs))
    ∙ assoc-more (f []) (g []) (h (x ∷ xs)) ((gx followed_by h) xs) ((fx followed_by (g followed_by h)) xs)
    ∙ ap (λ (b : Bool). (f [] && b) || (fx followed_by (g followed_by h)) xs) (sym (then-more g h x xs))
    ∙ sym (then-more f (g followed_by h) x xs)

-- the same of forms, and of more parts
assoc-form : (f g h : Form) → ((f followed_by g) followed_by h) ≡ (f followed_by (g followed_by h))
assoc-form f g h = λ i xs. then-assoc f g h xs i

three-parts : (f g h next : Form) → ((f followed_by g followed_by h) followed_by next) ≡ (f followed_by g followed_by h followed_by next)
three-parts f g h next = assoc-form f (g followed_by h) next ∙ ap (λ (n : Form). f followed_by n) (assoc-form g h next)

pub three-apart : (f g h next : Form) (xs : List ℕ) → ((f followed_by g followed_by h) followed_by next) xs ≡ (f followed_by g followed_by h followed_by next) xs
three-apart f g h next xs = ap (λ (n : Form). n xs) (three-parts f g h next)

pub four-apart : (f g h k next : Form) (xs : List ℕ)
    → ((f followed_by g followed_by h followed_by k) followed_by next) xs ≡ (f followed_by g followed_by h followed_by k followed_by next) xs
four-apart f g h k next xs =
    then-assoc f (g followed_by h followed_by k) next xs ∙ ap (λ (n : Form). (f followed_by n) xs) (three-parts g h k next)

-- ---- the empty text

-- nothing else has the form of the first part
pub only-empty-then : (f g : Form) → ((x : ℕ) (xs : List ℕ) → f (x ∷ xs) ≡ false) → (xs : List ℕ)
    → (f followed_by g) xs ≡ (f [] && g xs)
only-empty-then f g e [] = or-false (f [] && g [])
only-empty-then f g e (x ∷ xs) =
    then-more f g x xs
    ∙ ap (λ (b : Bool). (f [] && g (x ∷ xs)) || b) (none-then (λ (ys : List ℕ). f (x ∷ ys)) g (λ ys. e x ys) xs)
    ∙ or-false (f [] && g (x ∷ xs))

and-true : (a : Bool) → (a && true) ≡ a
and-true true = refl
and-true false = refl

pub then-nothing : (f : Form) (xs : List ℕ) → (f followed_by no_octets) xs ≡ f xs
then-nothing f [] = or-false (f [] && true) ∙ and-true (f [])
then-nothing f (x ∷ xs) =
    then-more f no_octets x xs
    ∙ ap (λ (b : Bool). b || ((λ (ys : List ℕ). f (x ∷ ys)) followed_by no_octets) xs) (and-false (f []))
    ∙ then-nothing (λ (ys : List ℕ). f (x ∷ ys)) xs

pub maybe-then : (f g : Form) (xs : List ℕ) → (maybe f followed_by g) xs ≡ ((f followed_by g) xs || g xs)
maybe-then f g xs =
    or-then f no_octets g xs
    ∙ ap (λ (b : Bool). (f followed_by g) xs || b) (only-empty-then no_octets g (λ x ys. refl) xs)

-- ---- octets and digits

pub octet-then : (low high : ℕ) (g : Form) (x : ℕ) (xs : List ℕ)
    → (octet_between low high followed_by g) (x ∷ xs) ≡ ((nat_le low x && nat_le x high) && g xs)
octet-then low high g x xs =
    then-more (octet_between low high) g x xs
    ∙ only-empty-then (λ (ys : List ℕ). octet_between low high (x ∷ ys)) g (λ y ys. refl) xs

-- the test that two digits pass
abbrev pub are_two_digits : ℕ → ℕ → ℕ → ℕ → Bool
are_two_digits low high x y =
    is_ascii_digit x && is_ascii_digit y && nat_le low (two_digit_number x y) && nat_le (two_digit_number x y) high

pub two-then : (low high : ℕ) (g : Form) (x y : ℕ) (xs : List ℕ)
    → (two_digits low high followed_by g) (x ∷ y ∷ xs) ≡ (are_two_digits low high x y && g xs)
two-then low high g x y xs =
    then-more (two_digits low high) g x (y ∷ xs)
    ∙ then-more (λ (ys : List ℕ). two_digits low high (x ∷ ys)) g y xs
    ∙ only-empty-then (λ (ys : List ℕ). two_digits low high (x ∷ y ∷ ys)) g (λ z zs. refl) xs

pub digits-then : (g : Form) (x : ℕ) (xs : List ℕ)
    → (digits followed_by g) (x ∷ xs) ≡ (g (x ∷ xs) || (is_ascii_digit x && (digits followed_by g) xs))
digits-then g x xs =
    then-more digits g x xs
    ∙ ap (λ (b : Bool). g (x ∷ xs) || b) (if-then (is_ascii_digit x) digits g xs)

-- ---- what is left after a part

-- two parts
pub rest_then : (f g : Form) (xs rest : List ℕ) (left : Option (List ℕ)) → LeavesRest f xs (Some rest)
    → LeavesRest g rest left → LeavesRest (f followed_by g) xs left
rest_then f g xs rest left e h = λ next. then-assoc f g next xs ∙ e (g followed_by next) ∙ h next

-- the first part is not there
pub no_rest_then : (f g : Form) (xs : List ℕ) → LeavesRest f xs None → LeavesRest (f followed_by g) xs None
no_rest_then f g xs e = λ next. then-assoc f g next xs ∙ e (g followed_by next)

-- a part that may be left out, and is there
pub maybe-there : (f g : Form) (c : List ℕ) (r : Bool) → r ≡ (f followed_by g) c → r ≡ true
    → r ≡ (maybe f followed_by g) c
maybe-there f g c r e h = rw (maybe-then f g c, ← e, h) refl

-- a part that may be left out, and is not there
pub maybe-left : (f g : Form) (c : List ℕ) (r s : Bool) → r ≡ (f followed_by g) c → r ≡ false → s ≡ g c
    → s ≡ (maybe f followed_by g) c
maybe-left f g c r s e h q = rw (maybe-then f g c, ← e, h) q

pub two-left : (x y : ℕ) (xs : List ℕ) → take (length (x ∷ y ∷ xs) - 2) xs ≡ xs
two-left x y xs = take_all (length (x ∷ y ∷ xs) - 2) xs (omega arith)

pub has-two : (low high : ℕ) (xs : List ℕ) → 2 ≤ length xs
    → are_two_digits low high (get_or xs 0 0) (get_or xs 1 0) ≡ true
    → LeavesRest (two_digits low high) xs (Some (take (length xs - 2) (drop 2 xs)))
has-two low high [] h e = absurd (omega arith)
has-two low high (x ∷ []) h e = absurd (omega arith)
has-two low high (x ∷ y ∷ xs) h e =
    λ next. two-then low high next x y xs ∙ ap (λ (b : Bool). b && next xs) e ∙ ap next (sym (two-left x y xs))

pub no-two : (low high : ℕ) (xs : List ℕ)
    → (2 ≤ length xs → are_two_digits low high (get_or xs 0 0) (get_or xs 1 0) ≡ false)
    → LeavesRest (two_digits low high) xs None
no-two low high [] e = λ next. refl
no-two low high (x ∷ []) e = λ next. refl
no-two low high (x ∷ y ∷ xs) e =
    λ next. two-then low high next x y xs ∙ ap (λ (b : Bool). b && next xs) (e (omega arith))

-- one octet that passes this test
pub record IsOne (f : Form) (test : ℕ → Bool) : Type 0 where
  pub empty : f [] ≡ false
  pub one : (g : Form) (x : ℕ) (xs : List ℕ) → (f followed_by g) (x ∷ xs) ≡ (test x && g xs)

-- the octet is one of these two
abbrev pub is_either : ℕ → ℕ → ℕ → Bool
is_either m n x = (nat_le m x && nat_le x m) || (nat_le n x && nat_le x n)

pub either-then : (m n : ℕ) (g : Form) (x : ℕ) (xs : List ℕ)
    → ((mark m or mark n) followed_by g) (x ∷ xs) ≡ (is_either m n x && g xs)
either-then m n g x xs =
    or-then (mark m) (mark n) g (x ∷ xs)
    ∙ ap (λ (b : Bool). b || (mark n followed_by g) (x ∷ xs)) (octet-then m m g x xs)
    ∙ ap (λ (b : Bool). ((nat_le m x && nat_le x m) && g xs) || b) (octet-then n n g x xs)
    ∙ sym (and-over-or (nat_le m x && nat_le x m) (nat_le n x && nat_le x n) (g xs))

pub one-octet : (low high : ℕ) → IsOne (octet_between low high) (λ (x : ℕ). nat_le low x && nat_le x high)
one-octet low high = record { empty = refl; one = octet-then low high }

pub one-of-two : (m n : ℕ) → IsOne (mark m or mark n) (is_either m n)
one-of-two m n = record { empty = refl; one = either-then m n }

pub one-left : (x : ℕ) (xs : List ℕ) → take (length (x ∷ xs) - 1) xs ≡ xs
one-left x xs = take_all (length (x ∷ xs) - 1) xs (omega arith)

pub has-one : {f : Form} {test : ℕ → Bool} → IsOne f test → (xs : List ℕ) → 1 ≤ length xs → test (get_or xs 0 0) ≡ true
    → LeavesRest f xs (Some (take (length xs - 1) (drop 1 xs)))
has-one o [] h e = absurd (omega arith)
has-one o (x ∷ xs) h e =
    λ next. o.one next x xs ∙ ap (λ (b : Bool). b && next xs) e ∙ ap next (sym (one-left x xs))

pub no-one : {f : Form} {test : ℕ → Bool} → IsOne f test → (xs : List ℕ)
    → (1 ≤ length xs → test (get_or xs 0 0) ≡ false) → LeavesRest f xs None
no-one {f} o [] e = λ next. or-false (f [] && next []) ∙ and-none (f []) (next []) o.empty
no-one o (x ∷ xs) e = λ next. o.one next x xs ∙ ap (λ (b : Bool). b && next xs) (e (omega arith))

-- the rest is all that is left
pub whole_rest : (f : Form) (xs rest : List ℕ) → LeavesRest f xs (Some rest) → f xs ≡ no_octets rest
whole_rest f xs rest e = sym (then-nothing f xs) ∙ e no_octets

pub no_whole : (f : Form) (xs : List ℕ) → LeavesRest f xs None → false ≡ f xs
no_whole f xs e = sym (e no_octets) ∙ then-nothing f xs

pub no-octets-is : (xs : List ℕ) → no_octets xs ≡ (length xs == 0)
no-octets-is [] = refl
no-octets-is (x ∷ xs) = grind (arith, nat_tests)

-- ---- the last part

-- two parts, and what comes after them
pub third : (f g h : Form) (xs rest : List ℕ) → LeavesRest (f followed_by g) xs (Some rest)
    → (f followed_by (g followed_by h)) xs ≡ h rest
third f g h xs rest e = sym (then-assoc f g h xs) ∙ e h

pub no-third : (f g h : Form) (xs : List ℕ) → LeavesRest (f followed_by g) xs None
    → false ≡ (f followed_by (g followed_by h)) xs
no-third f g h xs e = sym (sym (then-assoc f g h xs) ∙ e h)

or-true : (a : Bool) → true ≡ (a || true)
or-true true = refl
or-true false = refl

-- nothing is left
pub empty-there : (f : Form) (rest : List ℕ) (r : Bool) → r ≡ (length rest == 0) → r ≡ true
    → r ≡ (maybe f) rest
empty-there f [] r e h = h ∙ or-true (f [])
empty-there f (x ∷ xs) r e h =
    let n : false ≡ (length (x ∷ xs) == 0) = grind (arith, nat_tests) in absurd (cc (n, e, h))

pub empty-left : (f : Form) (rest : List ℕ) (r s : Bool) → s ≡ (length rest == 0) → s ≡ false → r ≡ f rest
    → r ≡ (maybe f) rest
empty-left f [] r s e h q = absurd (cc (e, h))
empty-left f (x ∷ xs) r s e h q = q ∙ sym (or-false (f (x ∷ xs)))
