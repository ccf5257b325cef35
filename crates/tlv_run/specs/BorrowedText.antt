-- The text behind a reference.
use Rattle.std.specs.Prelude.{ℕ, List, Option, option_map}
use Rattle.std.specs.Borrow.{Bor}

-- the text behind a reference, if there is one
abbrev pub text_in : Option (Bor (List ℕ)) → Option (List ℕ)
text_in = option_map (λ text. text.now)
