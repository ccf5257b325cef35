-- Whether an event waits, by the code's tests and by the list of those that do.
use Rattle.std.proofs.Common.{◌≡◌, ℕ, Bool, true, false, eqb, if◌then◌else◌, List, [], ◌∷◌, Option, Some, None, refl}
use Rattle.std.proofs.Common.{ap, ◌∙◌, ne_eqb, eq-eqb, IsTrue, ◌↔◌}
use Rattle.tlv_walk.specs.WalkerState.{Between, InBitString, InEndOctets, InHeader, InPrimitive, PhaseValue, Refused}
use Rattle.tlv_walk.specs.WalkerState.{WalkerState}
use Rattle.tlv_walk.specs.Walker.{IsIdle, filled_end_event, filled_end_events, is_end_at, waiting_events}
use Rattle.tlv_walk.specs.Walker.{waiting_events_in}
use Rattle.tlv_walk.specs.Events.{End, EventValue}
use Rattle.tlv_walk.specs.Private.Stack.{IsFilled}
use Rattle.tlv_walk.specs.Stack.{FrameValue}

-- an event is to come that needs no further octet: not `IsIdle`, by phase
abbrev pub EventWaitsIn : PhaseValue → List FrameValue → ℕ → Type 0
EventWaitsIn Between stack offset = IsFilled stack offset
EventWaitsIn (InHeader r) stack offset = ⊥
EventWaitsIn (InPrimitive left) stack offset = left ≡ 0
EventWaitsIn InBitString stack offset = ⊥
EventWaitsIn InEndOctets stack offset = ⊥
EventWaitsIn (Refused fault) stack offset = ⊥

abbrev pub EventWaits : WalkerState → Type 0
EventWaits w = EventWaitsIn w.phase w.stack w.offset

-- if nothing waits no events do
no_endings : (offset : ℕ) (fs : List FrameValue) → (IsFilled fs offset → ⊥) → filled_end_events offset fs ≡ []
no_endings offset [] n = refl
no_endings offset (f ∷ fs) n =
    ap (λ (k : Bool). if k then filled_end_event f ∷ filled_end_events offset fs else []) (unfilled f.end n)
  where
    unfilled : (e : Option ℕ) → (e ≡ Some offset → ⊥) → is_end_at e offset ≡ false
    unfilled None n = refl
    unfilled (Some m) n = ne_eqb m offset (λ e. n (ap Some e))

quiet_in : (f : PhaseValue) (stack : List FrameValue) (offset : ℕ) → (EventWaitsIn f stack offset → ⊥)
    → waiting_events_in f stack offset ≡ []
quiet_in Between stack offset n = no_endings offset stack n
quiet_in (InHeader r) stack offset n = refl
quiet_in (InPrimitive left) stack offset n =
    ap (λ (k : Bool). if k then End ∷ filled_end_events offset stack else []) (ne_eqb left 0 n)
quiet_in InBitString stack offset n = refl
quiet_in InEndOctets stack offset n = refl
quiet_in (Refused fault) stack offset n = refl

pub none_waits-idle : (w : WalkerState) → (EventWaits w → ⊥) → waiting_events w ≡ []
none_waits-idle w n = quiet_in w.phase w.stack w.offset n

-- if one waits, there is one in the list
no_more : (e : EventValue) (es : List EventValue) (k : Bool) → k ≡ true → (if k then e ∷ es else []) ≡ [] → ⊥
no_more e es true t n = cc
no_more e es false t n = absurd (cc)

loud_in : (f : PhaseValue) (stack : List FrameValue) (offset : ℕ) → EventWaitsIn f stack offset
    → waiting_events_in f stack offset ≡ [] → ⊥
loud_in Between [] offset i n = i
loud_in Between (f ∷ fs) offset i n =
    no_more (filled_end_event f) (filled_end_events offset fs) (is_end_at f.end offset)
    (ap (λ (e : Option ℕ). is_end_at e offset) i ∙ eq-eqb offset offset refl) n
loud_in (InHeader r) stack offset i n = i
loud_in (InPrimitive left) stack offset i n =
    no_more End (filled_end_events offset stack) (eqb left 0) (eq-eqb left 0 i) n
loud_in InBitString stack offset i n = i
loud_in InEndOctets stack offset i n = i
loud_in (Refused fault) stack offset i n = i

pub idle-none_waits : (w : WalkerState) → IsIdle w → EventWaits w → ⊥
idle-none_waits w n i = loud_in w.phase w.stack w.offset i n

-- what `waiting` returns
pub waiting-returned : (w : WalkerState) (k : Bool) → IsTrue k ↔ EventWaits w → (k ≡ false) ↔ IsIdle w
waiting-returned w true h = (λ e. absurd (cc (e)), λ n. absurd (idle-none_waits w n (h.0 refl)))
waiting-returned w false h = (λ e. none_waits-idle w (λ i. cc (h.1 i)), λ n. refl)
