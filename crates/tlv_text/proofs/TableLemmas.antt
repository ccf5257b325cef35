-- Tables of characters: each that stands is at its own place, and `@` at every other place.
use Rattle.std.proofs.Common.{◌≡◌, ◌∙◌, ◌<◌, ℕ, Bool, List, length, map, not, get_or, sym, ap, arith}
use Rattle.std.specs.Prelude.{eqb}
use Rattle.std.specs.List.{range_with_len}
use Rattle.std.proofs.lemmas.List.{get_or-map}
use Rattle.std.proofs.lemmas.List.FromFn.{get_or-map-range_with_len}

-- it is not `@`
abbrev pub stands : ℕ → Bool
stands x = not (eqb x 64)

-- what a table says of all characters, it says of each
pub says-at : (A : Type 0) (none : A) (says test : ℕ → A) (table : List ℕ) → length table ≡ 256
    → map says table ≡ map test (range_with_len 0 256)
    → (x : ℕ) → x < 256 → says (get_or table x 0) ≡ test x
says-at A none says test table size e x less =
    sym (get_or-map says table x 0 none (omega (arith, size, less)))
    ∙ ap (λ (all : List A). get_or all x none) e
    ∙ get_or-map-range_with_len test 0 256 x x none less (omega arith)
