-- A follower takes the events of a walk one by one, and puts octets to an `Out`: what it makes of events, and what a
-- call of it does.
use Rattle.std.specs.Prelude.{◌≡◌, ℕ, Bool, true, false, List, [], ◌∷◌, ◌++◌, drop, length, Result, Ok, OnOk, IfOk}
use Rattle.tlv_head.specs.Header.{HasAllContents, HeaderValue, octets_of}
use Rattle.tlv_walk.specs.declared.follow.Go.{Go}
use Rattle.tlv_walk.specs.declared.follow.Go.TheVariants as go
use Rattle.tlv_walk.specs.Events.{Begin, Bytes, End, EventValue}
use Rattle.tlv_io.specs.declared.drain.WriteFault.{WriteFault}
use Rattle.tlv_io.specs.declared.out.Out.{Out}
use Rattle.tlv_io.specs.Device.{DrainState}
use Rattle.tlv_io.specs.Out.{Puts}

-- whether a follower wants more, by whether it had enough
abbrev pub go_of : Bool → Go
go_of true = go.Enough
go_of false = go.On

-- whether a follower had enough
abbrev pub had_enough : Go → Bool
had_enough go.On = false
had_enough go.Enough = true

-- the effect of events on a follower: its new state, the octets that it puts, and whether it wants more
pub record Effect (S : Type 0) : Type 0 where
  pub state : S
  pub put : List ℕ
  pub goes : Go

-- the effect with this state and these octets put; more is wanted
abbrev pub effect_with : {S : Type 0} → S → List ℕ → Effect S
effect_with s octets = record { state = s; put = octets; goes = go.On }

-- the effect of no event: the state stays the same, no octet is put, and more is wanted
abbrev pub no_effect : {S : Type 0} → S → Effect S
no_effect s = effect_with s []

-- the effect of some events and then of others, if the follower follows both
abbrev pub and_then : {S : Type 0} → Effect S → (S → Effect S) → Effect S
and_then t f = let u = f t.state in record { state = u.state; put = t.put ++ u.put; goes = u.goes }

-- the effect of some events and, if the follower wants more after them, of others
abbrev pub effect_if_more : {S : Type 0} → Go → Effect S → (S → Effect S) → Effect S
effect_if_more go.On t f = and_then t f
effect_if_more go.Enough t f = t

-- the effect of a list of events, up to the first event that is enough
abbrev pub effect_of : {S : Type 0} → (S → EventValue → Effect S) → S → List EventValue → Effect S
effect_of next s [] = no_effect s
effect_of next s (e ∷ es) = effect_if_more (next s e).goes (next s e) (λ u. effect_of next u es)

-- these events if the follower wants more, otherwise none
abbrev pub events_if_more : Go → List EventValue → List EventValue
events_if_more go.On es = es
events_if_more go.Enough es = []

-- the events of a list that a follower follows: up to the first event that is enough
abbrev pub followed_events : {S : Type 0} → (S → EventValue → Effect S) → S → List EventValue → List EventValue
followed_events next s [] = []
followed_events next s (e ∷ es) = e ∷ events_if_more (next s e).goes (followed_events next (next s e).state es)

-- the octets of an element after its header
abbrev pub contents_in : HeaderValue → List ℕ → List ℕ
contents_in h octets = drop (length (octets_of h)) octets

-- 8.1.3.3: the octets are a header and all the contents that it announces
pub record IsWholeElement (h : HeaderValue) (octets : List ℕ) : Type 0 where
  pub header : octets_of h ++ contents_in h octets ≡ octets
  pub contents : HasAllContents h (contents_in h octets)

-- the events of a primitive with these octets: its header, its contents and its end
abbrev pub whole_events : HeaderValue → List ℕ → List EventValue
whole_events h octets = Begin h ∷ Bytes (contents_in h octets) ∷ End ∷ []

-- the effect of a primitive with these octets
abbrev pub whole_effect : {S : Type 0} → (S → EventValue → Effect S) → S → HeaderValue → List ℕ → Effect S
whole_effect next s h octets = effect_of next s (whole_events h octets)

-- octets in two parts have the same effect as the same octets in one part. `part` makes an event of octets, as `Bytes`
-- does
abbrev pub Joins : {S : Type 0} → (S → EventValue → Effect S) → (List ℕ → EventValue) → Type 0
Joins {S} next part = (s : S) (x y : List ℕ)
    → next s (part (x ++ y)) ≡ and_then (next s (part x)) (λ u. next u (part y))

-- an event of this kind without octets has no effect
abbrev pub IgnoresEmpty : {S : Type 0} → (S → EventValue → Effect S) → (List ℕ → EventValue) → Type 0
IgnoresEmpty {S} next part = (s : S) → next s (part []) ≡ no_effect s

-- an event of this kind is never enough
abbrev pub GoesOn : {S : Type 0} → (S → EventValue → Effect S) → (List ℕ → EventValue) → Type 0
GoesOn {S} next part = (s : S) (x : List ℕ) → (next s (part x)).goes ≡ go.On

-- octet by octet: the effect of octets, given the effect of one octet
abbrev pub each_octet : {S : Type 0} → (S → ℕ → Effect S) → S → List ℕ → Effect S
each_octet one s [] = no_effect s
each_octet one s (x ∷ xs) = and_then (one s x) (λ u. each_octet one u xs)

module _ {S D : Type 0} (state_of : D → DrainState) (made : Effect S) (old new : Out D) where
  -- a call has this effect: it puts the octets of the effect, and if no write fails, leaves the state of the effect.
  -- `result` says whether a write failed. If one did, the drain took a prefix of the held octets followed by these, the
  -- rest is lost, and nothing is said of the state
  pub record HasEffect {T : Type 0} (after : S) (result : Result T WriteFault) : Type 0 where
    pub puts : Puts state_of old new made.put result
    pub state : OnOk result (after ≡ made.state)

  -- a call has this effect and, if no write fails, returns whether the follower wants more
  pub record ReturnsEffect (after : S) (result : Result Go WriteFault) : Type 0 where
    pub has : HasEffect after result
    pub goes : IfOk result (λ go. go ≡ made.goes)

  -- a call that returned `Ok(true)` followed a whole primitive, with this effect, and the follower wants more
  pub record FollowsWhole (after : S) : Type 0 where
    pub has : HasEffect {T = Bool} after (Ok true)
    pub goes_on : made.goes ≡ go.On

-- a call that returned `Ok(false)` left a primitive to the calls for its events: no octet was put, and the state is the
-- same
pub record LeavesWhole {S D : Type 0} (state_of : D → DrainState) (old new : Out D) (before after : S) : Type 0 where
  pub puts : Puts {T = Bool} {E = WriteFault} state_of old new [] (Ok false)
  pub state : after ≡ before

module _ {S : Type 0} (next : S → EventValue → Effect S) where
  -- a follower followed these events: its state after them, and whether it wants more. If it had enough, then only at
  -- the last event
  pub record FollowsEvents (old new : S) (more : List EventValue) (goes : Go) : Type 0 where
    pub state : new ≡ (effect_of next old more).state
    pub wants : (effect_of next old more).goes ≡ goes
    pub all : followed_events next old more ≡ more
