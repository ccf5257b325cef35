-- What the walker's own functions yield.
use Rattle.std.specs.Prelude.{◌≡◌, ◌⊎◌, ℕ, List, [], ◌∷◌, ◌++◌, Option, Some, None}
use Rattle.tlv_head.specs.declared.fault.Fault.{Fault}
use Rattle.tlv_walk.specs.declared.ending.Ending.TheVariants as endings
use Rattle.tlv_walk.specs.declared.event.Event.{Event}
use Rattle.tlv_walk.specs.declared.event.Step.{Step}
use Rattle.tlv_walk.specs.declared.event.Step.TheVariants as step
use Rattle.tlv_walk.specs.Ending.{IsEnding}
use Rattle.tlv_walk.specs.Events.{EventValue, IsNoEmptyPart, event_value_of}
use Rattle.tlv_walk.specs.WalkerState.{WalkerState}
use Rattle.tlv_walk.specs.Walker.{IsIdle, RefusesAgain}
use Rattle.tlv_walk.specs.Private.WalkerCalls.{CountsAt, CountsAtOnce, CountsStep}
use Rattle.tlv_walk.specs.Private.WrapperCount.{wrapper_count_after}
use Rattle.tlv_walk.specs.Private.Zipper.{HasZipper, Zipper}
use Rattle.tlv_walk.specs.Wrappers.{entered_offsets}

-- whatever zipper the walker had, it now has one with these additional octets and events
pub record Continues (old new : WalkerState) (taken : List ℕ) (more : List EventValue) : Type 0 where
  pub framing : new.framing ≡ old.framing
  pub wrapper_count : new.wrapper_count
      ≡ wrapper_count_after old.framing.inside old.wrapper_count (entered_offsets more)
  pub next_zipper : (b : List ℕ) (yielded : List EventValue) (s : Zipper) → HasZipper old b yielded s
      → (t : Zipper) × HasZipper new (b ++ taken) (yielded ++ more) t

-- a prefix of a piece was taken, and these events were yielded
pub record YieldsEvents (old new : WalkerState) (piece rest : List ℕ) (es : List EventValue) : Type 0 where
  pub taken : List ℕ
  pub piece_is : piece ≡ taken ++ rest
  pub continues : Continues old new taken es

-- a prefix of a piece was taken, and this event was yielded
abbrev pub YieldsEvent : WalkerState → WalkerState → List ℕ → List ℕ → EventValue → Type 0
YieldsEvent old new piece rest e = YieldsEvents old new piece rest (e ∷ [])

-- the innermost element ended, without an octet: this event was yielded
pub record EndsElement (old new : WalkerState) (e : Event) : Type 0 where
  pub counts : CountsAt old new old.offset
  pub has_octets : IsNoEmptyPart e
  pub yields : Continues old new [] (event_value_of e ∷ [])

-- after the octets b, which yielded these events, an octet is refused, whatever follows it: a walker has a zipper of
-- these octets and events, and no event waits
pub record RefusesWithZipper (old : WalkerState) (b : List ℕ) (octet : ℕ) (yielded : List EventValue) (f : Fault)
    : Type 0 where
  pub walker : WalkerState
  pub zipper : Zipper
  pub has_zipper : HasZipper walker b yielded zipper
  pub idle : IsIdle walker
  pub offset : f.offset ≡ walker.offset
  pub ends : (c : List ℕ) → IsEnding old.framing (b ++ octet ∷ c) (endings.Fault f)
  pub framing : walker.framing ≡ old.framing
  pub stack : walker.stack ≡ old.stack

-- the octet after the octets taken is refused
pub record RefusesOctet (old : WalkerState) (piece rest : List ℕ) (f : Fault) : Type 0 where
  pub taken : List ℕ
  pub octet : ℕ
  pub others : List ℕ
  pub piece_is : piece ≡ taken ++ rest
  pub rest_is : rest ≡ octet ∷ others
  pub refuses : (b : List ℕ) (yielded : List EventValue) (s : Zipper) → HasZipper old b yielded s
      → RefusesWithZipper old (b ++ taken) octet yielded f

-- an octet is refused, or was refused before
abbrev pub YieldsFault : WalkerState → WalkerState → List ℕ → List ℕ → Fault → Type 0
YieldsFault old new piece rest f = RefusesOctet old piece rest f ⊎ RefusesAgain old new piece rest f

-- what a call yields that may yield an event at once
abbrev pub YieldsAtOnce : WalkerState → WalkerState → List ℕ → List ℕ → Option Event → Type 0
YieldsAtOnce old new piece rest (Some e) = YieldsEvent old new piece rest (event_value_of e)
YieldsAtOnce old new piece rest None = Unit {0}

-- the effect of a call that may yield an event at once on the walker, and what the call yields
pub record StepsAtOnce (old new : WalkerState) (piece rest : List ℕ) (result : Option Event) : Type 0 where
  pub counts : CountsAtOnce old new piece rest result
  pub yields : YieldsAtOnce old new piece rest result

-- what a step yields
abbrev pub YieldsStep : WalkerState → WalkerState → List ℕ → List ℕ → Step → Type 0
YieldsStep old new piece rest (step.Event e) = YieldsEvent old new piece rest (event_value_of e)
YieldsStep old new piece rest step.NeedMore = Continues old new piece []
YieldsStep old new piece rest (step.Fault f) = YieldsFault old new piece rest f

-- the effect of a step on the walker, and what the step yields
pub record Steps (old new : WalkerState) (piece rest : List ℕ) (result : Step) : Type 0 where
  pub counts : CountsStep old new piece rest result
  pub yields : YieldsStep old new piece rest result
