-- Steps of reading PEM.
use Rattle.std.specs.Prelude.{◌≡◌, ℕ, ◌==◌, ◌≤◌, Bool, true, false, ◌&&◌, List, ◌∷◌, ◌++◌, drop, length, take}
use Rattle.tlv_text.specs.Pem.{dashes, is_label}

-- the text begins with five hyphens
abbrev pub begin_dashes : List ℕ → Bool
begin_dashes (a ∷ b ∷ c ∷ d ∷ e ∷ text) = (a == 45) && (b == 45) && (c == 45) && (d == 45) && (e == 45)
begin_dashes text = false

-- the first n characters are a label that five hyphens follow
pub record BeginsLabel (text : List ℕ) (n : ℕ) : Type 0 where
  pub within : n ≤ length text
  pub has_label : is_label (take n text) ≡ true
  pub followed : begin_dashes (drop n text) ≡ true

-- the text does not begin with a label that five hyphens follow
abbrev pub BeginsNoLabel : List ℕ → Type 0
BeginsNoLabel text = (label after : List ℕ) → text ≡ label ++ (dashes ++ after) → is_label label ≡ true → ⊥
