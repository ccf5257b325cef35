-- What the walker's own functions require and return.
use Rattle.std.specs.Prelude.{◌≡◌, ◌≢◌, ◌⊎◌, ℕ, ◌+◌, ◌<◌, ◌≤◌, Bool, true, false, eqb, if◌then◌else◌}
use Rattle.std.specs.Prelude.{List, [], ◌∷◌, length, take, Option, Some, None}
use Rattle.tlv_head.specs.Limits.{depth_limit, input_limit}
use Rattle.tlv_head.specs.declared.fault.Fault.{Fault}
use Rattle.tlv_head.specs.Header.{HeaderValue, IsHeader, announced_length, holds, octets_of}
use Rattle.tlv_head.specs.HeadReader.{HeadReaderState}
use Rattle.tlv_head.specs.HeaderFields.{fields_hold, fields_wrap}
use Rattle.tlv_head.specs.HeaderFields.{new_header}
use Rattle.tlv_head.specs.ReadHeader.{BeginsWithFields}
use Rattle.std.specs.Borrow.{Bor}
use Rattle.std.specs.Option.{option_map}
use Rattle.tlv_head.specs.UniversalTypes as universal
use Rattle.tlv_walk.specs.declared.event.Event.{Event}
use Rattle.tlv_walk.specs.declared.event.Event.TheVariants as event
use Rattle.tlv_walk.specs.declared.event.Step.{Step}
use Rattle.tlv_walk.specs.declared.event.Step.TheVariants as step
use Rattle.tlv_walk.specs.declared.walker.headers.HeaderKind.{HeaderKind}
use Rattle.tlv_walk.specs.declared.walker.headers.HeaderKind.TheVariants as kind
use Rattle.tlv_head.specs.declared.header.HeaderFields.{HeaderFields}
use Rattle.tlv_walk.specs.declared.walker.short_way.HolderEnd.{HolderEnd}
use Rattle.tlv_walk.specs.declared.walker.short_way.HolderEnd.TheVariants as end
use Rattle.tlv_walk.specs.declared.walker.short_way.WholePrimitive.{WholePrimitive}
use Rattle.tlv_head.specs.Lists.{is_among}
use Rattle.tlv_walk.specs.WalkerState.{Between, InBitString, InEndOctets, InHeader, InPrimitive, PhaseValue, Refused}
use Rattle.tlv_walk.specs.WalkerState.{WalkerState, least_octets}
use Rattle.tlv_walk.specs.Walker.{HasYieldedEvent, IsReady}
use Rattle.tlv_walk.specs.Stack.{FrameValue, bound_of}
use Rattle.tlv_walk.specs.Stack.{IsWithin}
use Rattle.tlv_walk.specs.Private.Stack.{frame_with, room_in}
use Rattle.tlv_walk.specs.Private.WrapperCount.{next_wrapper_count}
use Rattle.tlv_walk.specs.Events.{IsNoEmptyPart}

-- an event was yielded, and the walker is at this offset
pub record CountsAt (old new : WalkerState) (end : ℕ) : Type 0 where
  pub offset : new.offset ≡ end
  pub events : new.events ≡ old.events + 1
  pub has_yielded : HasYieldedEvent new

-- a header begins with the piece, inside the bound
pub record CanBegin (w : WalkerState) (piece : List ℕ) : Type 0 where
  pub phase : w.phase ≡ Between
  pub first : ℕ
  pub rest : List ℕ
  pub piece_is : piece ≡ first ∷ rest
  pub nonzero : first ≢ 0
  pub room : room_in w.stack w.offset ≢ Some 0

-- a header has begun
abbrev pub HasBegunHeader : PhaseValue → Type 0
HasBegunHeader Between = ⊥
HasBegunHeader (InHeader r) = Unit {0}
HasBegunHeader (InPrimitive left) = ⊥
HasBegunHeader InBitString = ⊥
HasBegunHeader InEndOctets = ⊥
HasBegunHeader (Refused fault) = ⊥

-- a primitive is open
abbrev pub HasOpenPrimitive : PhaseValue → Type 0
HasOpenPrimitive phase = (left : ℕ) × (phase ≡ InPrimitive left)

-- if a primitive is open, more of its contents are to come, and the piece has none of them
abbrev pub HasNoContents : WalkerState → List ℕ → Type 0
HasNoContents w piece = (left : ℕ) → w.phase ≡ InPrimitive left → (0 < left) × (piece ≡ [])

-- `left` contents octets of the open primitive are still to come: the piece has some of them and nothing else, and does
-- not have all
pub record EndsBeyond (w : WalkerState) (left : ℕ) (piece : List ℕ) : Type 0 where
  pub phase : w.phase ≡ InPrimitive left
  pub beyond : length piece < left
  pub some : piece ≢ []

-- nothing is left of a piece, and the walker is ready for the next octet
pub record UsesUp (new : WalkerState) (rest : List ℕ) : Type 0 where
  pub none_left : rest ≡ []
  pub ready : IsReady new

-- the piece begins where a header begins or continues
abbrev pub CanRead : WalkerState → List ℕ → Type 0
CanRead w piece = CanBegin w piece ⊎ (HasBegunHeader w.phase × (piece ≢ []))

-- the walker is after the reader's octets; if there are none, a header begins with the piece
pub record CanReadOn (w : WalkerState) (r : HeadReaderState) (piece : List ℕ) : Type 0 where
  pub unfinished : r.done ≡ false
  pub end : r.offset + length r.octets ≡ w.offset
  pub counted : least_octets w.events w.stack ≤ r.offset
  pub first : (r.octets ≢ []) ⊎ CanBegin w piece

-- the offset grew by the number of octets that left the piece
abbrev pub CountsOctets : WalkerState → WalkerState → List ℕ → List ℕ → Type 0
CountsOctets old new piece rest = new.offset + length rest ≡ old.offset + length piece

-- the offset grew by the number of octets that left the piece, and one event was yielded
pub record CountsOne (old new : WalkerState) (piece rest : List ℕ) : Type 0 where
  pub counts : CountsOctets old new piece rest
  pub events : new.events ≡ old.events + 1
  pub has_yielded : HasYieldedEvent new

-- all octets were taken, no event was yielded, and none waits
pub record TakesAll (old new : WalkerState) (piece rest : List ℕ) : Type 0 where
  pub counts : new.offset ≡ old.offset + length piece
  pub none_left : rest ≡ []
  pub events : new.events ≡ old.events
  pub ready : IsReady new

-- an octet was refused, and what is open stays open
pub record Refuses (old new : WalkerState) (piece rest : List ℕ) (fault : Fault) : Type 0 where
  pub counts : CountsOctets old new piece rest
  pub events : new.events ≡ old.events
  pub phase : new.phase ≡ Refused fault
  pub framing : new.framing ≡ old.framing
  pub wrapper_count : new.wrapper_count ≡ old.wrapper_count
  pub stack : new.stack ≡ old.stack

-- the effect of a step on the offset, the count of events and the phase
abbrev pub CountsStep : WalkerState → WalkerState → List ℕ → List ℕ → Step → Type 0
CountsStep old new piece rest (step.Event e) = CountsOne old new piece rest × IsNoEmptyPart e
CountsStep old new piece rest step.NeedMore = TakesAll old new piece rest
CountsStep old new piece rest (step.Fault f) = Refuses old new piece rest f

-- the effect of a call that may yield an event at once, on the offset, the count of events and the phase: no change
-- if it yields none
abbrev pub CountsAtOnce : WalkerState → WalkerState → List ℕ → List ℕ → Option Event → Type 0
CountsAtOnce old new piece rest (Some e) = CountsOne old new piece rest × IsNoEmptyPart e
CountsAtOnce old new piece rest None = (new ≡ old) × (rest ≡ piece)

-- a header that is allowed there: not too deep, within the bound and the limit, and with at least as many octets
-- before it as events and open elements. It does not end before the walker's offset
pub record CanTakeHeader (w : WalkerState) (h : HeaderValue) : Type 0 where
  pub valid : IsHeader h
  pub end : w.offset ≤ h.offset + length (octets_of h)
  pub counted : least_octets w.events w.stack ≤ h.offset
  pub limit : h.offset + length (octets_of h) ≤ input_limit
  pub shallow : holds h ≡ true → length w.stack < depth_limit
  pub fits : IsWithin (bound_of w.stack) (h.offset + length (octets_of h) + announced_length h.size)

-- a walker after a whole header
abbrev pub after_header : WalkerState → PhaseValue → ℕ → WalkerState
after_header w phase offset = record w { phase = phase; offset = offset; events = w.events + 1; has_element = true }

-- the open elements together with the element that has this header and whose contents begin at the offset
abbrev pub stack_with : List FrameValue → HeaderFields → ℕ → List FrameValue
stack_with stack f offset = frame_with offset (bound_of stack) f.size f.constructed ∷ stack

-- the walker after it takes a header
abbrev pub TakesHeader : WalkerState → WalkerState → HeaderFields → ℕ → HeaderKind → Type 0
TakesHeader old new f offset kind.Primitive =
    (fields_hold f ≡ false)
    × (new ≡ after_header old (InPrimitive (announced_length f.size)) offset)
TakesHeader old new f offset kind.Constructed =
    (f.constructed ≡ true)
    × (new ≡ record (after_header old Between offset) {
      stack = stack_with old.stack f offset;
    })
TakesHeader old new f offset kind.Wrapper =
    (f.constructed ≡ false)
    × (fields_wrap f ≡ true)
    × (new ≡ record (after_header old (if eqb f.number universal.bit_string then InBitString else Between) offset) {
      stack = stack_with old.stack f offset;
      wrapper_count = next_wrapper_count old.framing.inside old.wrapper_count f.offset;
    })

-- a primitive that is not named, is allowed there, and is completely in the piece, at its start
pub record CanPass (w : WalkerState) (piece : List ℕ) (p : WholePrimitive) : Type 0 where
  pub phase : w.phase ≡ Between
  pub unnamed : is_among w.offset w.framing.inside ≡ false
  pub begins : BeginsWithFields piece w.offset false p.fields p.header_length
  pub primitive : p.fields.constructed ≡ false
  pub octet_count : p.octet_count ≡ p.header_length + announced_length p.fields.size
  pub within : p.octet_count ≤ length piece
  pub fits : IsWithin (bound_of w.stack) (w.offset + p.octet_count)

-- the header of such a primitive
abbrev pub header_at : WholePrimitive → List ℕ → HeaderValue
header_at p piece = new_header p.fields (take p.header_length piece)

-- the event of the constructed header that was taken, if any
abbrev pub open_event_if_taken : Option (HeaderFields × Bor (List ℕ)) → Option Event
open_event_if_taken found = option_map (λ f. event.Open (new_header f.0 f.1.now)) found

-- the event of the wrapper's header that was taken, if any
abbrev pub enter_event_if_taken : Option (HeaderFields × Bor (List ℕ)) → Option Event
enter_event_if_taken found = option_map (λ f. event.Enter (new_header f.0 f.1.now)) found

-- the event of the end of a holder
abbrev pub end_event : HolderEnd → Event
end_event (end.Close offset) = event.Close offset
end_event end.Leave = event.Leave

-- the event of the end that was taken, if any
abbrev pub end_event_if_taken : Option HolderEnd → Option Event
end_event_if_taken found = option_map end_event found

-- the event of the first contents octet of a wrapping BIT STRING, if it was taken
abbrev pub unused_event_if_taken : Bool → Option Event
unused_event_if_taken taken = if taken then Some event.Unused else None

-- a prefix of a piece was taken, and some events were yielded
pub record Passes (old new : WalkerState) (piece rest : List ℕ) : Type 0 where
  pub counts : CountsOctets old new piece rest
  pub more : old.events < new.events
  pub has_yielded : HasYieldedEvent new
