-- The first of a list, as far as it is searched.
use Rattle.std.proofs.Common.{◌≡◌, ℕ, ◌+◌, ◌<◌, ◌≤◌, true, false, nat_lt, List, ◌∷◌, length, get_or, drop, ap}
use Rattle.std.proofs.Common.{◌∙◌, sym, add-one, drop-cons}
use Rattle.std.specs.Prelude.{Option, Some, None}
use Rattle.std.proofs.lemmas.List.{drop_all}
use Rattle.tlv_reasons.specs.FirstOf.{IsFirstOf, no_more, here, later}
use Rattle.tlv_reasons.specs.Private.Lengths.{sayable}
use Rattle.tlv_reasons.specs.WrongLength.{length_bound}

-- the list from a place on is the number there and the list from the next place on
pub from-next : (xs : List ℕ) (i : ℕ) → i < length xs → drop i xs ≡ get_or xs i 0 ∷ drop (i + 1) xs
from-next xs i h = drop-cons xs i 0 h ∙ ap (λ n. get_or xs i 0 ∷ drop n xs) (sym (add-one i))

-- of what holds of the same numbers the first is the same
pub first-along : {P Q : ℕ → Type 0} {xs : List ℕ} {r : Option ℕ} → ((n : ℕ) → P n → Q n) → ((n : ℕ) → Q n → P n)
    → IsFirstOf P xs r → IsFirstOf Q xs r
first-along to from no_more = no_more
first-along to from (here {x = x} p) = here (to x p)
first-along to from (later {x = x} none f) = later (λ q. none (from x q)) (first-along to from f)

pub sayable-here : {P : ℕ → Type 0} (w : ℕ) (xs : List ℕ) (i : ℕ) → i < length xs
    → nat_lt (get_or xs i 0) (length_bound w) ≡ true → P (get_or xs i 0)
    → IsFirstOf P (sayable w (drop i xs)) (Some (get_or xs i 0))
sayable-here {P} w xs i h t p = rw (from-next xs i h, t) (here p)

pub sayable-later : {P : ℕ → Type 0} (w : ℕ) (xs : List ℕ) (i : ℕ) {r : Option ℕ} → i < length xs
    → nat_lt (get_or xs i 0) (length_bound w) ≡ true → (P (get_or xs i 0) → ⊥)
    → IsFirstOf P (sayable w (drop (i + 1) xs)) r → IsFirstOf P (sayable w (drop i xs)) r
sayable-later {P} w xs i h t none f = rw (from-next xs i h, t) (later none f)

pub unsayable-later : {P : ℕ → Type 0} (w : ℕ) (xs : List ℕ) (i : ℕ) {r : Option ℕ} → i < length xs
    → nat_lt (get_or xs i 0) (length_bound w) ≡ false
    → IsFirstOf P (sayable w (drop (i + 1) xs)) r → IsFirstOf P (sayable w (drop i xs)) r
unsayable-later {P} w xs i h t f = rw (from-next xs i h, t) f

pub sayable-end : {P : ℕ → Type 0} (w : ℕ) (xs : List ℕ) (i : ℕ) → length xs ≤ i
    → IsFirstOf P (sayable w (drop i xs)) None
sayable-end {P} w xs i h = rw (drop_all i xs h) no_more
