-- What the lemmas on object identifiers speak of: numbers below a limit, arcs after dots.
use Rattle.std.specs.Prelude.{ℕ, Bool, nat_lt, List, ◌++◌, flat_map, codes, decimal}
use Rattle.std.specs.List.{list_all}

abbrev pub all_below : ℕ → List ℕ → Bool
all_below limit vs = list_all (λ v. nat_lt v limit) vs

abbrev pub after_dots : List ℕ → List ℕ
after_dots arcs = flat_map (λ arc. codes "." ++ decimal arc) arcs
