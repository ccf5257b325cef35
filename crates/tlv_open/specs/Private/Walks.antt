-- A walk over an input in memory.
use Rattle.std.specs.Prelude.{◌≡◌, ℕ, List, ◌++◌}
use Rattle.tlv_walk.specs.declared.framing.Framing.{Framing}
use Rattle.tlv_walk.specs.Events.{EventValue}
use Rattle.tlv_walk.specs.WalkerState.{WalkerState}
use Rattle.tlv_walk.specs.Walker.{StandsAtEnd, IsIdle}

-- the walker has walked over the octets to their end, or to one that it refused
pub record HasWalkedOver (framing : Framing) (octets : List ℕ) (w : WalkerState) : Type 0 where
  pub framing_is : w.framing ≡ framing
  pub yielded : List EventValue
  pub at_end : StandsAtEnd w octets yielded
  pub idle : IsIdle w

-- whatever it had walked over, it has now walked over these octets too
abbrev pub WalksOverMore : WalkerState → WalkerState → List ℕ → Type 0
WalksOverMore old new piece = (framing : Framing) (octets : List ℕ) → HasWalkedOver framing octets old
    → HasWalkedOver framing (octets ++ piece) new
