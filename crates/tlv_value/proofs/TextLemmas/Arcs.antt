-- Subidentifiers, read octet by octet.
use Rattle.std.proofs.Common.{◌≡◌, ℕ, suc, ◌+◌, ◌-◌, ◌*◌, ◌%◌, ◌^◌, ◌<◌, ◌≤◌, Bool, true, false, not, ◌&&◌, List, []}
use Rattle.std.proofs.Common.{◌∷◌, ◌++◌, length, map, refl, sym, ap, ◌∙◌, arith, append_assoc, append-nil}
use Rattle.std.proofs.Common.{length-append, drop, get_or, add-one}
use Rattle.std.proofs.Math.Seq.{drop-cons}
use Rattle.std.proofs.lemmas.Nat.{pow-add}
use Rattle.std.proofs.lemmas.List.{length-map, nil_from_length}
use Rattle.std.proofs.Math.ListN.{length-drop}
use Rattle.std.specs.Prelude.{Option, Some, None, decimal, nat_lt, nat_le, if◌then◌else◌}
use Rattle.std.specs.List.{onto_first}
use Rattle.std.proofs.lemmas.Bool.Decides.{nat_tests}
use Rattle.std.proofs.lemmas.Fmt.{decimal_digit, length-decimal-le_wide}
use Rattle.std.proofs.Math.Nat.{one-le-pow, pow-le-pow_right, pow-suc}
use Rattle.tlv_value.specs.Arcs.{arcs_of, dotted_of, first_arcs, is_finished, parts_of, subidentifiers}
use Rattle.tlv_value.specs.Arcs.{subidentifier}
use Rattle.tlv_value.specs.Private.Arcs.{arcs_text, dotted_arcs}
use Rattle.tlv_value.proofs.TextLemmas.ArcTexts.{after_dots, all_below}

-- the text goes on with the subidentifiers of these octets, of which the first has begun with n
abbrev pub arcs_run : List ℕ → Bool → Bool → ℕ → List ℕ → Option (List ℕ)
arcs_run t first relative n [] = Some t
arcs_run t first relative n (x ∷ xs) =
    if nat_lt n (2 ^ 121)
    then (if nat_lt x 128 then arcs_run (t ++ arcs_text first relative (n * 128 + x % 128)) false relative 0 xs
    else arcs_run t first relative (n * 128 + x % 128) xs)
    else None

-- the subidentifiers of these octets, of which the first has begun with n
abbrev pub carry : ℕ → List ℕ → List ℕ
carry n [] = []
carry n (x ∷ xs) = if nat_lt x 128 then (n * 128 + x % 128) ∷ carry 0 xs else carry (n * 128 + x % 128) xs

-- the octets end with a whole subidentifier; whether one has begun before them is given
abbrev pub ends_with_arc : Bool → List ℕ → Bool
ends_with_arc begun [] = not begun
ends_with_arc begun (x ∷ xs) = ends_with_arc (not (nat_lt x 128)) xs

abbrev pub parts_text : Bool → Bool → List ℕ → List ℕ
parts_text first relative [] = []
parts_text first relative (v ∷ vs) = arcs_text first relative v ++ parts_text false relative vs

abbrev texts : List ℕ → Bool → Bool → List ℕ → Option (List ℕ)
texts t first relative vs = if all_below (2 ^ 128) vs then Some (t ++ parts_text first relative vs) else None

-- a number past the limit stays past it
too-large-at : (n x : ℕ) (xs : List ℕ) (last : Bool) → nat_lt x 128 ≡ last → ends_with_arc (not last) xs ≡ true
    → 2 ^ 128 ≤ n
    → ((m : ℕ) → ends_with_arc true xs ≡ true → 2 ^ 128 ≤ m → all_below (2 ^ 128) (carry m xs) ≡ false)
    → all_below (2 ^ 128) (if last then (n * 128 + x % 128) ∷ carry 0 xs else carry (n * 128 + x % 128) xs) ≡ false
too-large-at n x xs true e h g more =
    let v : nat_lt (n * 128 + x % 128) (2 ^ 128) ≡ false = grind (arith, nat_tests) in
    rw v refl
too-large-at n x xs false e h g more = more (n * 128 + x % 128) h (omega arith)

too-large : (n : ℕ) (xs : List ℕ) → ends_with_arc true xs ≡ true → 2 ^ 128 ≤ n
    → all_below (2 ^ 128) (carry n xs) ≡ false
too-large n [] e h = cc
too-large n (x ∷ xs) e h = too-large-at n x xs (nat_lt x 128) refl e h (λ m. too-large m xs)

one-part : (t : List ℕ) (first relative : Bool) (v : ℕ) (vs : List ℕ) → v < 2 ^ 128
    → texts (t ++ arcs_text first relative v) false relative vs ≡ texts t first relative (v ∷ vs)
one-part t first relative v vs h =
    let b : nat_lt v (2 ^ 128) ≡ true = grind (arith, nat_tests) in
    rw (b, append_assoc t (arcs_text first relative v) (parts_text false relative vs)) refl

run-carry-at : (t : List ℕ) (first relative : Bool) (n x : ℕ) (xs : List ℕ) (last small : Bool) → nat_lt x 128 ≡ last
    → nat_lt n (2 ^ 121) ≡ small
    → ends_with_arc (not last) xs ≡ true → n < 2 ^ 128
    → ((s : List ℕ) (f : Bool) (m : ℕ) (b : Bool) → ends_with_arc b xs ≡ true → m < 2 ^ 128
    → arcs_run s f relative m xs ≡ texts s f relative (carry m xs))
    → (if small
    then (if last then arcs_run (t ++ arcs_text first relative (n * 128 + x % 128)) false relative 0 xs
    else arcs_run t first relative (n * 128 + x % 128) xs)
    else None)
    ≡ texts t first relative (if last then (n * 128 + x % 128) ∷ carry 0 xs else carry (n * 128 + x % 128) xs)
run-carry-at t first relative n x xs true true e f h g more =
    more (t ++ arcs_text first relative (n * 128 + x % 128)) false 0 false h (omega arith)
    ∙ one-part t first relative (n * 128 + x % 128) (carry 0 xs) (grind (arith, nat_tests))
run-carry-at t first relative n x xs false true e f h g more =
    more t first (n * 128 + x % 128) true h (grind (arith, nat_tests))
run-carry-at t first relative n x xs true false e f h g more =
    let v : nat_lt (n * 128 + x % 128) (2 ^ 128) ≡ false = grind (arith, nat_tests) in
    rw v refl
run-carry-at t first relative n x xs false false e f h g more =
    let v : all_below (2 ^ 128) (carry (n * 128 + x % 128) xs) ≡ false =
    too-large (n * 128 + x % 128) xs h (grind (arith, nat_tests)) in
    rw v refl

run-carry : (t : List ℕ) (first relative : Bool) (n : ℕ) (xs : List ℕ) (begun : Bool) → ends_with_arc begun xs ≡ true
    → n < 2 ^ 128 → arcs_run t first relative n xs ≡ texts t first relative (carry n xs)
run-carry t first relative n [] begun e h = ap Some (sym (append-nil t))
run-carry t first relative n (x ∷ xs) begun e h =
    run-carry-at t first relative n x xs (nat_lt x 128) (nat_lt n (2 ^ 121)) refl refl e h
    (λ s f m b. run-carry s f relative m xs b)

-- the first part has begun with n
abbrev add_first : ℕ → List (List ℕ) → List ℕ
add_first n [] = []
add_first n (p ∷ ps) = (n * 128 ^ length p + subidentifier p) ∷ map subidentifier ps

add_first-zero : (ps : List (List ℕ)) → add_first 0 ps ≡ map subidentifier ps
add_first-zero [] = refl
add_first-zero (p ∷ ps) = ap (λ (v : ℕ). v ∷ map subidentifier ps) (omega arith)

value-onto : (n d l k s : ℕ) → k ≡ l → (n * 128 + d) * 128 ^ l + s ≡ n * 128 ^ suc l + (d * 128 ^ k + s)
value-onto n d l k s e = rw (e, pow-suc 128 l) (grind arith)

-- octets with bit 8 set belong to the next part
add_first-onto : (n x : ℕ) (ps : List (List ℕ)) → 1 ≤ length ps
    → add_first (n * 128 + x % 128) ps ≡ add_first n (onto_first x ps)
add_first-onto n x [] some = absurd (omega arith)
add_first-onto n x (p ∷ ps) some =
    ap (λ (v : ℕ). v ∷ map subidentifier ps)
    (value-onto n (x % 128) (length p) (length (map (λ x. x % 128) p)) (subidentifier p) (length-map p (λ x. x % 128)))

onto-some : (x : ℕ) (ps : List (List ℕ)) → 1 ≤ length (onto_first x ps)
onto-some x [] = omega arith
onto-some x (p ∷ ps) = omega arith

parts-some : (xs : List ℕ) → ends_with_arc true xs ≡ true → 1 ≤ length (parts_of xs)
parts-some [] e = cc
parts-some (x ∷ xs) e =
    elim (nat_lt x 128) as (λ q. 1 ≤ length (if q then (x ∷ []) ∷ parts_of xs else onto_first x (parts_of xs)))
    [ true ↦ omega arith | false ↦ onto-some x (parts_of xs) ]

carry-parts-at : (n x : ℕ) (xs : List ℕ) (last : Bool) → ends_with_arc (not last) xs ≡ true
    → ((m : ℕ) (b : Bool) → ends_with_arc b xs ≡ true → carry m xs ≡ add_first m (parts_of xs))
    → (if last then (n * 128 + x % 128) ∷ carry 0 xs else carry (n * 128 + x % 128) xs)
    ≡ add_first n (if last then (x ∷ []) ∷ parts_of xs else onto_first x (parts_of xs))
carry-parts-at n x xs true e more =
    let one : n * 128 ^ 1 + (x % 128 * 128 ^ 0 + 0) ≡ n * 128 + x % 128 = omega arith in
    let rest : carry 0 xs ≡ map subidentifier (parts_of xs) = more 0 false e ∙ add_first-zero (parts_of xs) in
    rw (one, rest) refl
carry-parts-at n x xs false e more =
    more (n * 128 + x % 128) true e ∙ add_first-onto n x (parts_of xs) (parts-some xs e)

carry-parts : (n : ℕ) (xs : List ℕ) (begun : Bool) → ends_with_arc begun xs ≡ true
    → carry n xs ≡ add_first n (parts_of xs)
carry-parts n [] begun e = refl
carry-parts n (x ∷ xs) begun e = carry-parts-at n x xs (nat_lt x 128) e (λ m b. carry-parts m xs b)

pub carry-subidentifiers : (xs : List ℕ) → ends_with_arc false xs ≡ true → carry 0 xs ≡ subidentifiers xs
carry-subidentifiers xs e = carry-parts 0 xs false e ∙ add_first-zero (parts_of xs)

parts_text-rest : (relative : Bool) (vs : List ℕ) → parts_text false relative vs ≡ after_dots vs
parts_text-rest relative [] = refl
parts_text-rest relative (v ∷ vs) = ap (λ (t : List ℕ). (46 ∷ decimal v) ++ t) (parts_text-rest relative vs)

two-arcs : (a b : ℕ) (vs : List ℕ) → dotted_arcs (a ∷ b ∷ []) ++ after_dots vs ≡ dotted_arcs (a ∷ b ∷ vs)
two-arcs a b vs =
    ap (λ (t : List ℕ). (decimal a ++ t) ++ after_dots vs) (append-nil (46 ∷ decimal b))
    ∙ append_assoc (decimal a) (46 ∷ decimal b) (after_dots vs)

arcs-at : (v : ℕ) (p q : Bool) (vs : List ℕ)
    → dotted_arcs (if p then 0 ∷ v ∷ [] else (if q then 1 ∷ (v - 40) ∷ [] else 2 ∷ (v - 80) ∷ [])) ++ after_dots vs
    ≡ dotted_arcs ((if p then 0 ∷ v ∷ [] else (if q then 1 ∷ (v - 40) ∷ [] else 2 ∷ (v - 80) ∷ [])) ++ vs)
arcs-at v true q vs = two-arcs 0 v vs
arcs-at v false true vs = two-arcs 1 (v - 40) vs
arcs-at v false false vs = two-arcs 2 (v - 80) vs

parts_text-first : (relative : Bool) (vs : List ℕ) → parts_text true relative vs ≡ dotted_arcs (arcs_of relative vs)
parts_text-first true [] = refl
parts_text-first false [] = refl
parts_text-first true (v ∷ vs) = ap (λ (t : List ℕ). decimal v ++ t) (parts_text-rest true vs)
parts_text-first false (v ∷ vs) =
    ap (λ (t : List ℕ). dotted_arcs (first_arcs v) ++ t) (parts_text-rest false vs)
    ∙ arcs-at v (nat_lt v 40) (nat_lt v 80) vs

pub and_right : (a b : Bool) → (a && b) ≡ true → b ≡ true
and_right true b e = e
and_right false b e = cc

ends-last : (begun : Bool) (x : ℕ) (xs : List ℕ) → nat_lt (get_or (x ∷ xs) (length xs) 0) 128 ≡ true
    → ends_with_arc begun (x ∷ xs) ≡ true
ends-last begun x [] e = rw e refl
ends-last begun x (y ∷ xs) e = ends-last (not (nat_lt x 128)) y xs e

pub ends-finished : (c : List ℕ) → is_finished c ≡ true → ends_with_arc false c ≡ true
ends-finished [] e = cc
ends-finished (x ∷ xs) e =
    let l : length (x ∷ xs) - 1 ≡ length xs = omega arith in
    ends-last false x xs
    (rw l at (and_right (nat_le 1 (length (x ∷ xs))) (nat_lt (get_or (x ∷ xs) (length (x ∷ xs) - 1) 0) 128) e))

-- the dotted text of the definition
pub run-dotted : (relative : Bool) (c : List ℕ) → is_finished c ≡ true → nat_le (length c) 64 ≡ true
    → arcs_run [] true relative 0 c ≡ dotted_of relative c
run-dotted relative c f l =
    let e = ends-finished c f in
    run-carry [] true relative 0 c false e (omega arith)
    ∙ rw (carry-subidentifiers c e, parts_text-first relative (subidentifiers c), f, l) refl

-- a subidentifier that has grown too large leaves no text
pub run-over : (t : List ℕ) (first relative : Bool) (n : ℕ) (xs : List ℕ) → 1 ≤ length xs → 2 ^ 121 ≤ n
    → arcs_run t first relative n xs ≡ None
run-over t first relative n [] some h = absurd (omega arith)
run-over t first relative n (x ∷ xs) some h =
    let b : nat_lt n (2 ^ 121) ≡ false = grind (arith, nat_tests) in
    rw b refl

-- one octet more
pub run-within : (t : List ℕ) (first relative : Bool) (n v : ℕ) (c : List ℕ) (i : ℕ)
    → v ≡ n * 128 + get_or c i 0 % 128 → i < length c → n < 2 ^ 121 → 128 ≤ get_or c i 0
    → arcs_run t first relative n (drop i c) ≡ arcs_run t first relative v (drop (i + 1) c)
run-within t first relative n v c i e h g b =
    let small : nat_lt n (2 ^ 121) ≡ true = grind (arith, nat_tests) in
    let last : nat_lt (get_or c i 0) 128 ≡ false = grind (arith, nat_tests) in
    rw (drop-cons c i 0 h, small, last, add-one, e) refl

pub run-last : (t : List ℕ) (first relative : Bool) (n v : ℕ) (c : List ℕ) (i : ℕ) → v ≡ n * 128 + get_or c i 0 % 128
    → i < length c → n < 2 ^ 121 → get_or c i 0 < 128
    → arcs_run t first relative n (drop i c)
    ≡ arcs_run (t ++ arcs_text first relative v) false relative 0 (drop (i + 1) c)
run-last t first relative n v c i e h g b =
    let small : nat_lt n (2 ^ 121) ≡ true = grind (arith, nat_tests) in
    let last : nat_lt (get_or c i 0) 128 ≡ true = grind (arith, nat_tests) in
    rw (drop-cons c i 0 h, small, last, add-one, e) refl

-- of up to nine octets each number has 64 bits

pub few-bits : (n i : ℕ) → n < 128 ^ i → i < 9 → n < 2 ^ 56
few-bits n i h few =
    let e : 128 ^ i ≤ 128 ^ 8 =
    pow-le-pow_right {n = 128} (omega arith) {i = i} {j = 8} (omega arith) in omega (arith, e, h)

pub one-more : (n x v i : ℕ) → v ≡ n * 128 + x % 128 → n < 128 ^ i → v < 128 ^ (i + 1)
one-more n x v i e h = let p : 128 ^ (i + 1) ≡ 128 ^ i * 128 = pow-add 128 i 1 in omega (arith, p, h, e)

pub none-yet : (i : ℕ) → 0 < 128 ^ i
none-yet i = one-le-pow i 128 (omega arith)

-- how long the text is at most

decimal-within : (v k : ℕ) → v < 2 ^ 128 → v < 10 ^ k → 1 ≤ k → length (decimal v) ≤ k
decimal-within v k h g s = length-decimal-le_wide k v s g (omega arith)

arc-grows : (n x k : ℕ) → n < 10 ^ (3 * k) → n * 128 + x % 128 < 10 ^ (3 * suc k)
arc-grows n x k h =
    let e : 10 ^ (3 * suc k) ≡ 10 ^ (3 * k) * 1000 =
    ap (λ m. 10 ^ m) (let l : 3 * suc k ≡ 3 * k + 3 = omega arith in l) ∙ pow-add 10 (3 * k) 3 in
    rw e (omega arith)

two-long : (a b k : ℕ) (vs : List ℕ) → length (decimal a) ≤ 1 → length (decimal b) ≤ 3 * k
    → length (dotted_arcs (a ∷ b ∷ vs)) ≤ 3 * k + 2 + length (after_dots vs)
two-long a b k vs e h =
    omega (arith, length-append (decimal a) (after_dots (b ∷ vs)), length-append (46 ∷ decimal b) (after_dots vs))

first-long-at : (v k : ℕ) (p q : Bool) (vs : List ℕ) → 1 ≤ k → v < 2 ^ 128 → v < 10 ^ (3 * k)
    → length (dotted_arcs ((if p then 0 ∷ v ∷ [] else (if q then 1 ∷ (v - 40) ∷ [] else 2 ∷ (v - 80) ∷ [])) ++ vs))
    ≤ 3 * k + 2 + length (after_dots vs)
first-long-at v k true q vs s h g =
    two-long 0 v k vs (decimal-within 0 1 (omega arith) (omega arith) (omega arith))
    (decimal-within v (3 * k) h g (omega arith))
first-long-at v k false true vs s h g =
    two-long 1 (v - 40) k vs (decimal-within 1 1 (omega arith) (omega arith) (omega arith))
    (decimal-within (v - 40) (3 * k) (omega arith) (omega (arith, g)) (omega arith))
first-long-at v k false false vs s h g =
    two-long 2 (v - 80) k vs (decimal-within 2 1 (omega arith) (omega arith) (omega arith))
    (decimal-within (v - 80) (3 * k) (omega arith) (omega (arith, g)) (omega arith))

-- at the end of the loop
pub run-end : (relative : Bool) (c t : List ℕ) (first : Bool) (n i : ℕ) → is_finished c ≡ true → length c ≤ 64
    → length c ≤ i
    → arcs_run t first relative n (drop i c) ≡ arcs_run [] true relative 0 c → dotted_of relative c ≡ Some t
run-end relative c t first n i f l o e =
    let d : drop i c ≡ [] = nil_from_length (drop i c) (omega (arith, length-drop i c)) in
    sym (run-dotted relative c f (grind (arith, nat_tests))) ∙ sym e ∙ rw d refl

-- what a subidentifier that is too large leaves
pub run-none : (relative : Bool) (c t : List ℕ) (first : Bool) (n i : ℕ) → is_finished c ≡ true → length c ≤ 64
    → i < length c → 2 ^ 121 ≤ n
    → arcs_run t first relative n (drop i c) ≡ arcs_run [] true relative 0 c → dotted_of relative c ≡ None
run-none relative c t first n i f l o h e =
    sym (run-dotted relative c f (grind (arith, nat_tests))) ∙ sym e
    ∙ run-over t first relative n (drop i c) (omega (arith, length-drop i c)) h

-- i octets of the contents were read, and there is room for what the others may add: n has up to three digits for each
-- of its octets
abbrev pub HasRoom : List ℕ → Bool → ℕ → ℕ → Type 0
HasRoom t first n i = (k : ℕ) × (n < 10 ^ (3 * k)) × (length t + 4 * k + (if first then 2 else 0) ≤ 4 * i + 2)

part-long : (first relative : Bool) (v k : ℕ) → 1 ≤ k → v < 2 ^ 128 → v < 10 ^ (3 * k)
    → length (arcs_text first relative v) ≤ 3 * k + 1 + (if first then 2 else 0)
part-long true true v k s h g = omega (arith, decimal-within v (3 * k) h g (omega arith))
part-long true false v k s h g =
    omega (
      arith,
      ap (λ (l : List ℕ). length (dotted_arcs l)) (append-nil (first_arcs v)),
      first-long-at v k (nat_lt v 40) (nat_lt v 80) [] s h g,
    )
part-long false relative v k s h g = omega (arith, decimal-within v (3 * k) h g (omega arith))

-- an octet that does not end a subidentifier
pub room-within : (t : List ℕ) (first : Bool) (n x v i : ℕ) → v ≡ n * 128 + x % 128 → HasRoom t first n i
    → HasRoom t first v (i + 1)
room-within t first n x v i e (k, h, g) = (suc k, rw e (arc-grows n x k h), omega (arith, g))

-- one that does
pub room-last : (t : List ℕ) (first relative : Bool) (n x v i : ℕ) → v ≡ n * 128 + x % 128 → v < 2 ^ 128
    → HasRoom t first n i
    → HasRoom (t ++ arcs_text first relative v) false 0 (i + 1)
room-last t first relative n x v i e small (k, h, g) =
    let l = part-long first relative v (suc k) (omega arith) small (rw e (arc-grows n x k h)) in
    (0, omega arith, omega (arith, g, l, length-append t (arcs_text first relative v)))

-- the arcs of the first subidentifier
pub first-text : (held added all : List ℕ) (v a b : ℕ) → a < 10 → first_arcs v ≡ a ∷ b ∷ []
    → added ≡ held ++ (48 + a) ∷ 46 ∷ [] → all ≡ added ++ decimal b
    → all ≡ held ++ dotted_arcs (first_arcs v)
first-text held added all v a b h e f g =
    let d : dotted_arcs (a ∷ b ∷ []) ≡ (48 + a) ∷ 46 ∷ decimal b =
    ap (λ (t : List ℕ). t ++ ((46 ∷ decimal b) ++ [])) (decimal_digit a h) ∙ append-nil ((48 + a) ∷ 46 ∷ decimal b) in
    g ∙ ap (λ (t : List ℕ). t ++ decimal b) f ∙ append_assoc held ((48 + a) ∷ 46 ∷ []) (decimal b)
    ∙ ap (λ (t : List ℕ). held ++ t) (sym d) ∙ ap (λ (l : List ℕ). held ++ dotted_arcs l) (sym e)

pub arcs-0 : (v : ℕ) → v < 40 → first_arcs v ≡ 0 ∷ v ∷ []
arcs-0 v h =
    let p : nat_lt v 40 ≡ true = grind (arith, nat_tests) in
    rw p refl

pub arcs-1 : (v : ℕ) → 40 ≤ v → v < 80 → first_arcs v ≡ 1 ∷ (v - 40) ∷ []
arcs-1 v h g =
    let p : nat_lt v 40 ≡ false = grind (arith, nat_tests) in
    let q : nat_lt v 80 ≡ true = grind (arith, nat_tests) in
    rw (p, q) refl

pub arcs-2 : (v : ℕ) → 80 ≤ v → first_arcs v ≡ 2 ∷ (v - 80) ∷ []
arcs-2 v h =
    let p : nat_lt v 40 ≡ false = grind (arith, nat_tests) in
    let q : nat_lt v 80 ≡ false = grind (arith, nat_tests) in
    rw (p, q) refl
