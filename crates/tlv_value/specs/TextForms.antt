-- Forms of text, and how they are put together.
use Rattle.std.specs.Prelude.{ℕ, Bool, true, false, ◌&&◌, ◌||◌, nat_le, List, [], ◌∷◌, map}
use Rattle.std.specs.List.{list_all, list_any}
use Rattle.std.specs.Char.{is_ascii_digit}

-- a form of text: true of each text of the form, false of any other
abbrev pub Form : Type 0
Form = List ℕ → Bool

-- each way to split a text into a first part and the rest, where either may be empty
abbrev pub splits : List ℕ → List (List ℕ × List ℕ)
splits [] = ([], []) ∷ []
splits (x ∷ xs) = ([], x ∷ xs) ∷ map (λ split. (x ∷ split.0, split.1)) (splits xs)

-- a text of the first form and a text of the second, one after the other: there is a split into such parts
infixr 20 ◌followed_by◌
abbrev pub ◌followed_by◌ : Form → Form → Form
(first followed_by second) text = list_any (λ split. first split.0 && second split.1) (splits text)

-- a text of one form or of the other
infixr 15 ◌or◌
abbrev pub ◌or◌ : Form → Form → Form
(first or second) text = first text || second text

-- the empty text
abbrev pub no_octets : Form
no_octets [] = true
no_octets (x ∷ xs) = false

-- a text of the form, or the empty text
abbrev pub maybe : Form → Form
maybe form = form or no_octets

-- one octet from low to high
abbrev pub octet_between : ℕ → ℕ → Form
octet_between low high (x ∷ []) = nat_le low x && nat_le x high
octet_between low high text = false

-- this octet
abbrev pub mark : ℕ → Form
mark x = octet_between x x

-- digits, in any number, or none
abbrev pub digits : Form
digits text = list_all is_ascii_digit text

-- 2b is +, 2d is -
abbrev pub sign : Form
sign = mark 0x2b or mark 0x2d
