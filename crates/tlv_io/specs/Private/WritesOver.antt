-- The octets after a text overwrites the first of them.
use Rattle.std.specs.Prelude.{◌≡◌, ℕ, List, length, take}

-- the first n of the octets are the text afterwards, and the number of octets is unchanged
pub record WritesOver (n : ℕ) (old new written : List ℕ) : Type 0 where
  pub text : take n new ≡ written
  pub size : length new ≡ length old
