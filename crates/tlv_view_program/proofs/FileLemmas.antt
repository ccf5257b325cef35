-- The names of files, one more at a time.
use Rattle.std.proofs.Common.{◌≡◌, ◌∙◌, ◌+◌, ◌<◌, ℕ, List, [], ◌∷◌, ◌++◌, ap, get_or, length, map, sym, take}
use Rattle.std.proofs.lemmas.List.{map_more}
use Rattle.std.specs.Borrow.{Bor}
use Rattle.clap.specs.Words.{Text}

pub one_more_name : (names : List (Bor Text)) (i : ℕ) (first : Bor Text) (files more : List Text) → i < length names
    → more ≡ files ++ (get_or names i first).now ∷ [] → files ≡ map (λ name. name.now) (take i names)
    → more ≡ map (λ name. name.now) (take (i + 1) names)
one_more_name names i first files more within added are =
    added ∙ ap (λ xs. xs ++ (get_or names i first).now ∷ []) are
    ∙ sym (map_more (λ name. name.now) names i first within)
