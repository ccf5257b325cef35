-- Characters that are written as they are, one after another.
use Rattle.std.proofs.Common.{◌≡◌, ℕ, zero, suc, ◌<◌, ◌≤◌, Bool, true, false, List, [], ◌∷◌, ◌++◌, length, take, drop}
use Rattle.std.proofs.Common.{get_or, if◌then◌else◌, refl, sym, ap, ◌∙◌, arith}
use Rattle.std.proofs.lemmas.Bool.Decides.{nat_tests}
use Rattle.std.proofs.lemmas.List.{take-append-drop}
use Rattle.std.proofs.lemmas.List.Folds.{list_all-append}
use Rattle.std.specs.Prelude.{◌&&◌, flat_map}
use Rattle.std.specs.List.{list_all}
use Rattle.std.specs.Str.{is_utf8}
use Rattle.tlv_head.specs.declared.kind.Kind.{Kind}
use Rattle.tlv_head.specs.declared.kind.Kind.TheVariants.{Octets, Boolean, Integer, Bits, Object, Relative, Text, Utf8}
use Rattle.tlv_head.specs.declared.kind.Kind.TheVariants.{Ucs2, Ucs4}
use Rattle.tlv_value.specs.Private.UnescapedCharacters.{has_ascii_octets, is_unescaped}
use Rattle.tlv_io.specs.Cuts.{utf8_length}
use Rattle.tlv_value.specs.Units.{octet_text, unit_size, unit_text, units}
use Rattle.tlv_value.proofs.TextLemmas.UnitSteps.{units-step}

unescaped-octet : (x : ℕ) → is_unescaped x ≡ true → octet_text x ≡ x ∷ []
unescaped-octet x h = grind (arith, nat_tests)

unescaped-length : (x : ℕ) → is_unescaped x ≡ true → utf8_length x ≡ 1
unescaped-length x h = grind (arith, nat_tests)

and-true : (a b : Bool) → (a && b) ≡ true → (a ≡ true) × (b ≡ true)
and-true true b e = (refl, e)
and-true false b e = cc (e)

-- one octet is a unit, whether it is well-formed or not
size-one : (n x : ℕ) (xs : List ℕ) (b : Bool) → n ≡ 1 → 1 ≡ (if b then length (take n (x ∷ xs)) else 1)
size-one n x xs true e = rw e refl
size-one n x xs false e = refl

unescaped-size : (kind : Kind) (x : ℕ) (xs : List ℕ) → has_ascii_octets kind ≡ true → is_unescaped x ≡ true
    → 1 ≡ unit_size kind (x ∷ xs)
unescaped-size Octets x xs a h = refl
unescaped-size Boolean x xs a h = refl
unescaped-size Integer x xs a h = refl
unescaped-size Bits x xs a h = refl
unescaped-size Object x xs a h = refl
unescaped-size Relative x xs a h = refl
unescaped-size Text x xs a h = refl
unescaped-size Utf8 x xs a h =
    size-one (utf8_length x) x xs (is_utf8 (take (utf8_length x) (x ∷ xs))) (unescaped-length x h)
unescaped-size Ucs2 x xs a h = absurd (cc)
unescaped-size Ucs4 x xs a h = absurd (cc)

unescaped-text : (kind : Kind) (x : ℕ) → has_ascii_octets kind ≡ true → is_unescaped x ≡ true
    → unit_text kind (x ∷ []) ≡ x ∷ []
unescaped-text Octets x a h = unescaped-octet x h
unescaped-text Boolean x a h = unescaped-octet x h
unescaped-text Integer x a h = unescaped-octet x h
unescaped-text Bits x a h = unescaped-octet x h
unescaped-text Object x a h = unescaped-octet x h
unescaped-text Relative x a h = unescaped-octet x h
unescaped-text Text x a h = unescaped-octet x h
unescaped-text Utf8 x a h = unescaped-octet x h
unescaped-text Ucs2 x a h = absurd (cc)
unescaped-text Ucs4 x a h = absurd (cc)

-- the first n octets are n units, which are written as they are
pub unescaped-units : (kind : Kind) (n : ℕ) (octets : List ℕ) → n ≤ length octets → has_ascii_octets kind ≡ true
    → ((i : ℕ) → i < n → is_unescaped (get_or octets i 0) ≡ true)
    → flat_map (unit_text kind) (units kind octets)
    ≡ take n octets ++ flat_map (unit_text kind) (units kind (drop n octets))
unescaped-units kind zero [] h a p = refl
unescaped-units kind zero (x ∷ xs) h a p = refl
unescaped-units kind (suc n) [] h a p = absurd (omega arith)
unescaped-units kind (suc n) (x ∷ xs) h a p =
    let unescaped = p 0 (omega arith) in
    units-step kind 1 (x ∷ xs) (unescaped-size kind x xs a unescaped) (omega arith)
    ∙ ap (λ (t : List ℕ). t ++ flat_map (unit_text kind) (units kind xs)) (unescaped-text kind x a unescaped)
    ∙ ap (λ (t : List ℕ). x ∷ t) (unescaped-units kind n xs (omega arith) a (λ i g. p (suc i) (omega arith)))

-- a row of such characters is written as it is
pub unescaped-row : (kind : Kind) (row : List ℕ) → has_ascii_octets kind ≡ true → list_all is_unescaped row ≡ true
    → flat_map (unit_text kind) (units kind row) ≡ row
unescaped-row kind [] a p = refl
unescaped-row kind (x ∷ xs) a p =
    let both = and-true (is_unescaped x) (list_all is_unescaped xs) p in
    units-step kind 1 (x ∷ xs) (unescaped-size kind x xs a both.0) (omega arith)
    ∙ ap (λ (t : List ℕ). t ++ flat_map (unit_text kind) (units kind xs)) (unescaped-text kind x a both.0)
    ∙ ap (λ (t : List ℕ). x ∷ t) (unescaped-row kind xs a both.1)

-- the first of octets that are written as they are are so too
pub unescaped-prefix : (n : ℕ) (xs : List ℕ) → list_all is_unescaped xs ≡ true
    → list_all is_unescaped (take n xs) ≡ true
unescaped-prefix n xs e = (and-true _ _
    (sym (list_all-append is_unescaped (take n xs) (drop n xs)) ∙ ap (list_all is_unescaped) (take-append-drop n xs)
    ∙ e)).0
