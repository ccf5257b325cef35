-- What is read from a text.
use Rattle.std.specs.Prelude.{ℕ, ◌-◌, List, [], ◌∷◌, ◌++◌, length, Option, Some, None, option_map}

-- octets that are read from a text, and the rest of it, which begins with the refused character
pub record TextRead : Type 0 where
  pub octets : List ℕ
  pub rest : List ℕ

-- octets, and then what is read after them
abbrev pub octets_then : List ℕ → TextRead → TextRead
octets_then octets more = record more { octets = octets ++ more.octets }

-- nothing is read, and `rest` is left
abbrev pub nothing_read : List ℕ → TextRead
nothing_read rest = record { octets = []; rest = rest }

-- the number of characters before what is refused, if anything is
abbrev pub refused_at : List ℕ → List ℕ → Option ℕ
refused_at text [] = None
refused_at text (x ∷ rest) = Some (length text - length (x ∷ rest))

-- octets that are read from a text; and, if it is refused, how many characters there are from the refused one to the
-- end
pub record PartRead : Type 0 where
  pub octets : List ℕ
  pub left : Option ℕ

-- nothing is read, and this number of characters is left
abbrev pub refused_with : ℕ → PartRead
refused_with left = record { octets = []; left = Some left }

-- the number of characters before the place where a text is refused, if it is refused
abbrev pub refused_in : List ℕ → Option ℕ → Option ℕ
refused_in text left = option_map (λ n. length text - n) left
