-- A dotted text is digits and dots, so it is UTF-8.
use Rattle.std.proofs.Common.{◌≡◌, ℕ, ◌<◌, ◌==◌, Bool, true, false, ◌&&◌, cond, List, [], ◌∷◌, refl, subst, arith}
use Rattle.std.specs.Prelude.{IsAscii, IsUtf8}
use Rattle.std.specs.List.{list_all, onto_first}
use Rattle.std.specs.Char.{is_ascii_digit}
use Rattle.std.proofs.lemmas.Bool.{and_parts, and_from, eqb-true}
use Rattle.std.proofs.lemmas.Str.{IsUtf8-from_ascii}
use Rattle.std.proofs.lemmas.Str.Ascii.{IsAscii-cons, IsAscii-nil}
use Rattle.tlv_value.specs.Names.{are_first_arcs, dotted_parts, is_arc, is_dotted}
use Rattle.tlv_value.proofs.NamesLemmas.Texts.{arc-parts, digit-between, first_part}

abbrev are_digits : List (List ℕ) → Bool
are_digits parts = list_all (list_all is_ascii_digit) parts

digits-at : (x : ℕ) (xs part : List ℕ) (more : List (List ℕ)) (b : Bool) → (x == 46) ≡ b
    → dotted_parts xs ≡ part ∷ more
    → are_digits (cond b ([] ∷ dotted_parts xs) (onto_first x (dotted_parts xs))) ≡ true
    → (x < 128) × (are_digits (dotted_parts xs) ≡ true)
digits-at x xs part more true e p h = let dot : x ≡ 46 = eqb-true x 46 e in (omega arith, h)
digits-at x xs part more false e p h =
    let all : are_digits ((x ∷ part) ∷ more) ≡ true =
    subst (λ (ps : List (List ℕ)). are_digits (onto_first x ps) ≡ true) p h in
    let outer = and_parts (is_ascii_digit x && list_all is_ascii_digit part) (are_digits more) all in
    let first = and_parts (is_ascii_digit x) (list_all is_ascii_digit part) outer.0 in
    let digit = digit-between x first.0 in
    (omega (arith, digit.1), rw p (and_from (list_all is_ascii_digit part) (are_digits more) first.1 outer.1))

ascii-from_digits : (xs : List ℕ) → are_digits (dotted_parts xs) ≡ true → IsAscii xs
ascii-from_digits [] h = IsAscii-nil
ascii-from_digits (x ∷ xs) h =
    let first = first_part xs in
    let known = digits-at x xs _ first.0 (x == 46) refl first.1 h in
    IsAscii-cons x xs known.0 (ascii-from_digits xs known.1)

digits-from_arcs : (parts : List (List ℕ)) → list_all is_arc parts ≡ true → are_digits parts ≡ true
digits-from_arcs [] h = refl
digits-from_arcs (part ∷ parts) h =
    let both = and_parts (is_arc part) (list_all is_arc parts) h in
    and_from (list_all is_ascii_digit part) (are_digits parts) (arc-parts part both.0).0 (digits-from_arcs parts both.1)

pub IsUtf8-from_dotted : (xs : List ℕ) → is_dotted xs ≡ true → IsUtf8 xs
IsUtf8-from_dotted xs h =
    let both = and_parts (list_all is_arc (dotted_parts xs)) (are_first_arcs (dotted_parts xs)) h in
    IsUtf8-from_ascii xs (ascii-from_digits xs (digits-from_arcs (dotted_parts xs) both.0))
