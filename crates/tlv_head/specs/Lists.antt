-- A word about lists of numbers, for the crates above.
use Rattle.std.specs.Prelude.{ℕ, Bool, ◌==◌, List}
use Rattle.std.specs.List.{list_any}

-- the number is one of these numbers
abbrev pub is_among : ℕ → List ℕ → Bool
is_among n numbers = list_any (λ number. n == number) numbers
