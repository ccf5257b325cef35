-- The number of named offsets, from the first on, that are known to be offsets of wrappers.
use Rattle.std.specs.Prelude.{ℕ, ◌+◌, eqb, if◌then◌else◌, slice_get, List, [], ◌∷◌}
use Rattle.std.specs.Option.{option_map_or}

-- the count after a wrapper was found at this offset, given the count before
abbrev pub next_wrapper_count : List ℕ → ℕ → ℕ → ℕ
next_wrapper_count inside k offset = option_map_or (λ n. if eqb n offset then k + 1 else k) (slice_get inside k) k

-- the count after wrappers were found at these offsets, one after another
abbrev pub wrapper_count_after : List ℕ → ℕ → List ℕ → ℕ
wrapper_count_after inside k [] = k
wrapper_count_after inside k (offset ∷ offsets) =
    wrapper_count_after inside (next_wrapper_count inside k offset) offsets
