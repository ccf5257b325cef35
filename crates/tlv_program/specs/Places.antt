-- Where `tlvdump-show` is when it lies beside its sources.
use Rattle.std.specs.Prelude.{ℕ, Bool, eqb, List, codes}
use Rattle.std.specs.List.{ends_with}

-- where the build puts the program, at the top of a clone
abbrev pub built_place : List ℕ
built_place = codes "/crates/tlvdump_show/out/tlvdump_show"

-- whether the path of a program ends in that place
abbrev pub ends_in_built_place : List ℕ → Bool
ends_in_built_place program = ends_with eqb program built_place
