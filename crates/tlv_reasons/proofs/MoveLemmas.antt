-- What is done to all octets keeps their number.
use Rattle.std.proofs.Common.{◌≡◌, ◌-◌, ◌∙◌, ℕ, Bool, false, true, List, [], ◌∷◌, arith, length, refl, sym}
use Rattle.std.proofs.lemmas.List.{length-map, length-reverse}
use Rattle.tlv_reasons.specs.declared.moves.Move.{Move}
use Rattle.tlv_reasons.specs.declared.moves.Move.TheVariants as move
use Rattle.tlv_reasons.specs.Moves.{turned_fours, turned_pairs, undone_move}

pairs-size : (octets : List ℕ) → length (turned_pairs octets) ≡ length octets
pairs-size [] = refl
pairs-size (a ∷ []) = refl
pairs-size (a ∷ b ∷ more) = omega (arith, pairs-size more)

fours-size : (octets : List ℕ) → length (turned_fours octets) ≡ length octets
fours-size [] = refl
fours-size (a ∷ []) = refl
fours-size (a ∷ b ∷ []) = refl
fours-size (a ∷ b ∷ c ∷ []) = refl
fours-size (a ∷ b ∷ c ∷ d ∷ more) = omega (arith, fours-size more)

pub move-size : (change : Move) (octets : List ℕ) → length (undone_move change octets) ≡ length octets
move-size move.Pairs octets = pairs-size octets
move-size move.Fours octets = fours-size octets
move-size move.Reversed octets = length-reverse octets
move-size move.Inverted octets = length-map octets (λ x. 255 - x)

-- what a test denies does not hold
pub denied : {P : Type 0} (b : Bool) → (b ≡ true → P) × (P → b ≡ true) → b ≡ false → P → ⊥
denied b test e p = let f : true ≡ false = sym (test.1 p) ∙ e in cc
