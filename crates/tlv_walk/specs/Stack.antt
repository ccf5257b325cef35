-- The open holders, innermost first.
use Rattle.std.specs.Prelude.{◌≡◌, ℕ, ◌≤◌, Bool, true, List, [], ◌∷◌, Option, Some, None, IfSome}

-- the offset does not lie beyond the bound
abbrev pub IsWithin : Option ℕ → ℕ → Type 0
IsWithin bound offset = IfSome bound (λ b. offset ≤ b)

-- an open holder
pub record FrameValue : Type 0 where
  -- where its contents end, if its length is definite
  pub end : Option ℕ
  -- the end of the innermost definite holder, which is this one or the nearest around it
  pub bound : Option ℕ
  -- it is a wrapper
  pub wrapper : Bool

-- the end of the innermost definite holder
abbrev pub bound_of : List FrameValue → Option ℕ
bound_of [] = None
bound_of (f ∷ fs) = f.bound

-- the innermost holder has the indefinite length
abbrev pub IsInIndefinite : List FrameValue → Type 0
IsInIndefinite [] = ⊥
IsInIndefinite (f ∷ fs) = f.end ≡ None

-- the innermost holder is a wrapper
abbrev pub IsInWrapper : List FrameValue → Type 0
IsInWrapper [] = ⊥
IsInWrapper (f ∷ fs) = f.wrapper ≡ true

-- the bound of a holder with an end is that end, which lies within the bound around the holder; the bound of one
-- without an end is the bound around it
abbrev pub HasBoundIn : Option ℕ → FrameValue → Type 0
HasBoundIn outer f = by_end f.end
  where
    by_end : Option ℕ → Type 0
    by_end None = f.bound ≡ outer
    by_end (Some e) = (f.bound ≡ Some e) × IsWithin outer e

-- each holder has its bound within the holders around it
abbrev pub IsNested : List FrameValue → Type 0
IsNested [] = Unit {0}
IsNested (f ∷ fs) = HasBoundIn (bound_of fs) f × IsNested fs
