-- The first number of a list for which something holds, and the first of several searches that finds something.
use Rattle.std.specs.Prelude.{◌≡◌, ℕ, ◌-◌, ◌<◌, List, [], ◌∷◌, Option, Some, None}

-- the first of the numbers for which P holds, or none if it holds for none
pub data IsFirstOf (P : ℕ → Type 0) : List ℕ → Option ℕ → Type 0 where
  no_more : IsFirstOf P [] None
  here : {x : ℕ} {more : List ℕ} → P x → IsFirstOf P (x ∷ more) (Some x)
  later : {x : ℕ} {more : List ℕ} {found : Option ℕ} → (P x → ⊥) → IsFirstOf P more found
      → IsFirstOf P (x ∷ more) found

-- the same if each number that is tried in vain has a cost: once those before have cost all that may be spent, no other
-- is tried
pub data IsFirstWithin (P : ℕ → Type 0) (Costs : ℕ → ℕ → Type 0) : ℕ → List ℕ → Option ℕ → Type 0 where
  all_tried : {budget : ℕ} → IsFirstWithin P Costs budget [] None
  all_spent : {xs : List ℕ} → IsFirstWithin P Costs 0 xs None
  tried_well : {budget x : ℕ} {more : List ℕ} → 0 < budget → P x → IsFirstWithin P Costs budget (x ∷ more) (Some x)
  tried_in_vain : {budget cost x : ℕ} {more : List ℕ} {found : Option ℕ} → 0 < budget → (P x → ⊥) → Costs x cost
      → IsFirstWithin P Costs (budget - cost) more found → IsFirstWithin P Costs budget (x ∷ more) found

-- what one search finds, or, if that is nothing, what the next finds: `P` says what the one finds, `make` makes a result
-- of it, and `Q` says what the next finds
pub data IsElse {A B : Type 0} (P : Option A → Type 0) (make : A → B) (Q : Option B → Type 0) : Option B → Type 0 where
  first : {x : A} → P (Some x) → IsElse P make Q (Some (make x))
  next : {found : Option B} → P None → Q found → IsElse P make Q found

-- no search is left
abbrev pub IsNothing : {B : Type 0} → Option B → Type 0
IsNothing found = found ≡ None
