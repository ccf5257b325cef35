-- Units of UTF-16, one after another.
use Rattle.std.proofs.Common.{◌≡◌, ℕ, ◌≤◌, Bool, List, [], ◌∷◌, ◌++◌, length, slice_index, refl, ap, sym}
use Rattle.std.proofs.Common.{◌∙◌, append_assoc, arith}
use Rattle.std.specs.Prelude.{Option, Some, None, option_map}
use Rattle.tlv_text.proofs.Slices.{after-two, slice_from}
use Rattle.tlv_text.specs.Marks.{ascii_of_pair, ascii_of_units, character_then}

-- characters before others, if these are there
abbrev pub characters_then : List ℕ → Option (List ℕ) → Option (List ℕ)
characters_then front more = option_map (λ (xs : List ℕ). front ++ xs) more

one-more : (front : List ℕ) (x : ℕ) (more : Option (List ℕ))
    → characters_then front (character_then (Some x) more) ≡ characters_then (front ++ x ∷ []) more
one-more front x None = refl
one-more front x (Some xs) = ap Some (sym (append_assoc front (x ∷ []) xs))

-- a unit after others
pub unit-more : (all : Option (List ℕ)) (low_first : Bool) (rest front : List ℕ) (x : ℕ) → 2 ≤ length rest
    → Some x ≡ ascii_of_pair low_first (slice_index rest 0) (slice_index rest 1)
    → all ≡ characters_then front (ascii_of_units low_first rest)
    → all ≡ characters_then (front ++ x ∷ []) (ascii_of_units low_first (slice_from 2 rest))
unit-more all low_first [] front x two e i = absurd (omega arith)
unit-more all low_first (a ∷ []) front x two e i = absurd (omega arith)
unit-more all low_first (a ∷ b ∷ more) front x two e i =
    i
    ∙ ap (λ (o : Option ℕ). characters_then front (character_then o (ascii_of_units low_first more))) (sym e)
    ∙ one-more front x (ascii_of_units low_first more)
    ∙ ap (λ (r : List ℕ). characters_then (front ++ x ∷ []) (ascii_of_units low_first r)) (sym (after-two a b more))
