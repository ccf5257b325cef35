-- The result of following a walker over a piece.
use Rattle.std.specs.Prelude.{◌≡◌, ℕ, ◌+◌, Bool, true, false, List, [], ◌∷◌, ◌++◌, Option, Some, None, length}
use Rattle.std.specs.Prelude.{Result, Ok, Err, OnOk}
use Rattle.tlv_head.specs.declared.fault.Fault.{Fault}
use Rattle.tlv_io.specs.declared.drain.WriteFault.{WriteFault}
use Rattle.tlv_io.specs.declared.out.Out.{Out}
use Rattle.tlv_io.specs.Device.{DrainState}
use Rattle.tlv_io.specs.Out.{Puts, Sends, held_octets, drain_of}
use Rattle.tlv_walk.specs.declared.event.Event.{Event}
use Rattle.tlv_walk.specs.declared.follow.Go.{Go}
use Rattle.tlv_walk.specs.declared.follow.Go.TheVariants as go
use Rattle.tlv_walk.specs.declared.framing.Framing.{Framing}
use Rattle.tlv_walk.specs.declared.one_piece.Pause.{Pause}
use Rattle.tlv_walk.specs.declared.one_piece.Pause.TheVariants as pause
use Rattle.tlv_walk.specs.Events.{AreEqualJoined, EventValue, event_value_of, events}
use Rattle.tlv_walk.specs.Follow.{Effect, effect_of, ReturnsEffect, FollowsEvents}
use Rattle.tlv_walk.specs.Forest.{Forest}
use Rattle.tlv_walk.specs.WalkerState.{WalkerState}
use Rattle.tlv_walk.specs.Walker.{IsAfterEvent, IfStands, IsReady, StandsForMore, StandsRefused}
use Rattle.tlv_walk.specs.Private.WalkerCalls.{Passes}
use Rattle.tlv_walk.specs.Private.Yields.{StepsAtOnce}
use Rattle.tlv_walk.specs.Reading.{AreOctets, IsReading}

-- what was walked over: a prefix of a piece, and the events yielded for it
pub record WalksOver (old new : WalkerState) (piece rest : List ℕ) (more : List EventValue) : Type 0 where
  pub taken : List ℕ
  pub piece_is : piece ≡ taken ++ rest
  pub framing : new.framing ≡ old.framing
  pub stands : StandsForMore old new taken more

-- the octet after the octets walked over was refused
pub record WalksToFault (old new : WalkerState) (piece : List ℕ) (more : List EventValue) (f : Fault)
    (b : List ℕ) (yielded : List EventValue) : Type 0 where
  pub taken : List ℕ
  pub octet : ℕ
  pub others : List ℕ
  pub piece_is : piece ≡ taken ++ octet ∷ others
  pub framing : new.framing ≡ old.framing
  pub stands : StandsRefused new (b ++ taken) octet (yielded ++ more) f

-- the octets yield these events, joined, followed by others
abbrev pub BeginEventsOf : Framing → List ℕ → List EventValue → Type 0
BeginEventsOf framing octets yielded = (f : Forest) → IsReading framing octets f
    → (others : List EventValue) × AreEqualJoined (yielded ++ others) (events f)

-- the state of everything that following a piece uses, before or after it: the walker, the follower's state, and the
-- `Out` to which the follower puts octets
pub record FollowStates (S D : Type 0) : Type 0 where
  pub walker : WalkerState
  pub follower : S
  pub out : Out D

-- the following of a piece with these states
abbrev pub follow_states : {S D : Type 0} → WalkerState → S → Out D → FollowStates S D
follow_states walker follower out = record { walker = walker; follower = follower; out = out }

-- here `more` are the events that the walker yielded for a piece and the follower followed

module _ {S D : Type 0} (next : S → EventValue → Effect S) (old new : FollowStates S D) where
  -- a prefix of a piece was walked over, its events were followed, and the rest is left
  pub record Follows (piece rest : List ℕ) (more : List EventValue) (goes : Go) : Type 0 where
    pub made : FollowsEvents next old.follower new.follower more goes
    pub walked : WalksOver old.walker new.walker piece rest more

  -- all of a piece was followed, and the walker is ready for the next octet
  pub record FollowsAll (piece : List ℕ) (more : List EventValue) : Type 0 where
    pub follows : Follows piece [] more go.On
    pub offset : new.walker.offset ≡ old.walker.offset + length piece
    pub ready : IsReady new.walker

  -- a piece was followed up to an octet that is refused
  pub record FollowsToFault (piece : List ℕ) (more : List EventValue) (f : Fault) : Type 0 where
    pub made : FollowsEvents next old.follower new.follower more go.On
    pub walked : IfStands old.walker (WalksToFault old.walker new.walker piece more f)

  -- a piece was followed up to an event that is enough for the follower
  pub record FollowsToEnough (piece : List ℕ) (more : List EventValue) : Type 0 where
    pub rest : List ℕ
    pub follows : Follows piece rest more go.Enough
    pub after_event : IsAfterEvent new.walker.phase

  -- the drain failed at the octets put for one of these events; the piece yields them, followed by others
  pub record WriteFailsAt (piece : List ℕ) (more : List EventValue) : Type 0 where
    pub yields : IfStands old.walker
        (λ b yielded. BeginEventsOf old.walker.framing (b ++ piece) (yielded ++ more))

  -- how far a piece was followed, one line for each reason to stop
  abbrev pub Pauses : List ℕ → List EventValue → Result Pause WriteFault → Type 0
  Pauses piece more (Ok pause.UsedUp) = FollowsAll piece more
  Pauses piece more (Ok (pause.Fault f)) = FollowsToFault piece more f
  Pauses piece more (Ok pause.Enough) = FollowsToEnough piece more
  Pauses piece more (Err e) = WriteFailsAt piece more

  -- a prefix of a piece with one or more events was followed, and more is wanted
  pub record TakesPrefix (piece rest : List ℕ) (more : List EventValue) : Type 0 where
    pub follows : Follows piece rest more go.On
    pub passes : Passes old.walker new.walker piece rest

  -- nothing of a piece was taken
  pub record TakesNone (piece rest : List ℕ) (more : List EventValue) : Type 0 where
    pub walker : new.walker ≡ old.walker
    pub follower : new.follower ≡ old.follower
    pub all_left : rest ≡ piece
    pub no_event : more ≡ []

  -- the result, by whether a prefix of a piece was followed
  abbrev pub TakesPrefixOrNone : List ℕ → List ℕ → List EventValue → Result Bool WriteFault → Type 0
  TakesPrefixOrNone piece rest more (Ok true) = TakesPrefix piece rest more
  TakesPrefixOrNone piece rest more (Ok false) = TakesNone piece rest more
  TakesPrefixOrNone piece rest more (Err e) = WriteFailsAt piece more

module _ {S D : Type 0} (next : S → EventValue → Effect S) (state_of : D → DrainState)
    (old new : FollowStates S D) where
  -- a piece was followed, and the effect of its events was put. `Puts` says that the `Out` still lends the same
  -- drain, and how many writes failed
  pub record FollowsPiece (piece : List ℕ) (result : Result Pause WriteFault) : Type 0 where
    pub more : List EventValue
    pub pauses : Pauses next old new piece more result
    pub puts : Puts state_of old.out new.out (effect_of next old.follower more).put result

  -- a piece was followed, and the octets of the effect were handed to the drain: if all were, the `Out` holds nothing
  pub record FollowsAndFlushes (piece : List ℕ) (result : Result Pause WriteFault) : Type 0 where
    pub are_octets : AreOctets piece
    pub more : List EventValue
    pub pauses : Pauses next old new piece more result
    pub sends : Sends (state_of (drain_of old.out).now) (state_of (drain_of new.out).now)
        (effect_of next old.follower more).put result
    pub same_reference : (drain_of new.out).ghost_name ≡ (drain_of old.out).ghost_name
    pub empty : OnOk result (held_octets new.out ≡ [])

  -- a prefix of a piece was followed, and the effect of its events was put; or nothing of the piece was taken
  pub record FollowsPrefix (piece rest : List ℕ) (result : Result Bool WriteFault) : Type 0 where
    pub more : List EventValue
    pub takes : TakesPrefixOrNone next old new piece rest more result
    pub puts : Puts state_of old.out new.out (effect_of next old.follower more).put result

  -- by the event taken, if any: the follower followed this event alone
  abbrev pub FollowsIfTaken : Option Event → Result (Option Go) WriteFault → Type 0
  FollowsIfTaken (Some e) (Ok (Some go)) =
      ReturnsEffect state_of (next old.follower (event_value_of e)) old.out new.out new.follower (Ok go)
  FollowsIfTaken (Some e) (Ok None) = ⊥
  FollowsIfTaken (Some e) (Err f) =
      ReturnsEffect state_of (next old.follower (event_value_of e)) old.out new.out new.follower (Err f)
  FollowsIfTaken None (Ok (Some go)) = ⊥
  FollowsIfTaken None (Ok None) = (new.follower ≡ old.follower) × (new.out ≡ old.out)
  FollowsIfTaken None (Err f) = ⊥

  -- one event of a piece was taken and followed, or nothing was
  pub record FollowsOneOrNone (piece rest : List ℕ) (result : Result (Option Go) WriteFault) : Type 0 where
    pub event : Option Event
    pub steps : StepsAtOnce old.walker new.walker piece rest event
    pub follows : FollowsIfTaken event result
