-- What was done to the octets of an input as a whole, and how to undo it.
use Rattle.std.specs.Prelude.{◌≡◌, ◌≤◌, ◌<◌, ℕ, ◌-◌, Bool, List, [], ◌∷◌, length, map, Option, Some, None, reverse}
use Rattle.tlv_open.specs.Opens.{closed_framing}
use Rattle.tlv_walk.specs.Reading.{IsSoundList}
use Rattle.tlv_reasons.specs.declared.moves.Move.{Move}
use Rattle.tlv_reasons.specs.declared.moves.Move.TheVariants as move

-- the octets, with those of each pair in reverse order; a last one alone stays
abbrev pub turned_pairs : List ℕ → List ℕ
turned_pairs (a ∷ b ∷ more) = b ∷ a ∷ turned_pairs more
turned_pairs octets = octets

-- the octets, with those of each four in reverse order; up to three at the end stay
abbrev pub turned_fours : List ℕ → List ℕ
turned_fours (a ∷ b ∷ c ∷ d ∷ more) = d ∷ c ∷ b ∷ a ∷ turned_fours more
turned_fours octets = octets

-- the octets with each bit inverted
abbrev pub inverted : List ℕ → List ℕ
inverted octets = map (λ x. 255 - x) octets

-- the octets that these were, if this was done to them
abbrev pub undone_move : Move → List ℕ → List ℕ
undone_move move.Pairs octets = turned_pairs octets
undone_move move.Fours octets = turned_fours octets
undone_move move.Reversed octets = reverse octets
undone_move move.Inverted octets = inverted octets

-- inputs of fewer octets are not tried, since they might parse by chance: a limit of our own
abbrev pub least_moved : ℕ
least_moved = 256

-- the input would be sound if this were undone
abbrev pub IsUndoneMove : Bool → List ℕ → Move → Type 0
IsUndoneMove padding octets change = IsSoundList (closed_framing padding) (undone_move change octets)

-- the first of these for which the input would be sound
pub data IsFirstMove (padding : Bool) (octets : List ℕ) : List Move → Option Move → Type 0 where
  no_more : IsFirstMove padding octets [] None
  here : {change : Move} {more : List Move} → IsUndoneMove padding octets change
      → IsFirstMove padding octets (change ∷ more) (Some change)
  later : {change : Move} {more : List Move} {found : Option Move} → (IsUndoneMove padding octets change → ⊥)
      → IsFirstMove padding octets more found → IsFirstMove padding octets (change ∷ more) found

-- all of them, in the order in which they are tried
abbrev pub all_moves : List Move
all_moves = move.Pairs ∷ move.Fours ∷ move.Reversed ∷ move.Inverted ∷ []

-- what was done to the octets of the input, so that it would be sound if it were undone. The first octet decides whether
-- this is looked for at all
pub record IsMove (padding : Bool) (octets : List ℕ) (found : Option Move) : Type 0 where
  pub searched : least_moved ≤ length octets → IsFirstMove padding octets all_moves found
  pub unsearched : length octets < least_moved → found ≡ None
