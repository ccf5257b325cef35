-- A walk so far: what its reads gave, and what was yielded and kept of these.
use Rattle.std.proofs.Common.{◌≡◌, inl, ℕ, ◌-◌, ◌≤◌, ◌<◌, List, [], ◌∷◌, ◌++◌, length, take, flat_map, refl, sym, ap}
use Rattle.std.proofs.Common.{◌∙◌, arith, subst}
use Rattle.std.proofs.lemmas.List.{length-take}
use Rattle.std.proofs.lemmas.List.Elements.{All-nil, All-take}
use Rattle.std.proofs.Math.Seq.{take-append-add}
use Rattle.std.specs.Prelude.{Ok, ⊤}
use Rattle.tlv_walk.specs.declared.follow.Go.TheVariants as go
use Rattle.tlv_walk.specs.declared.framing.Framing.{Framing}
use Rattle.tlv_walk.specs.declared.run.DeviceFault.{DeviceFault}
use Rattle.std.specs.List.{concat}
use Rattle.tlv_io.specs.Device.{DrainState, GaveLast, LastReadValue, SourceState, failed, gave, never}
use Rattle.tlv_walk.specs.Events.{Begin, Bytes, Close, End, Enter, EventValue, Leave, Open, Pad, Unused}
use Rattle.tlv_walk.specs.Follow.{Effect, effect_of, FollowsEvents}
use Rattle.tlv_walk.specs.Reading.{AreOctets}
use Rattle.tlv_walk.specs.WalkerState.{new_walker}
use Rattle.tlv_walk.specs.Walker.{Stands}
use Rattle.tlv_io.specs.Out.{Sends}
use Rattle.tlv_walk.specs.OneTurn.{HasWalked, LastReadGaveUpTo, TurnStates, last_octets, turn_states}
use Rattle.tlv_walk.specs.Wrappers.{entered_offsets}
use Rattle.tlv_walk.proofs.FollowerLemmas.FollowSteps.{made_none}
use Rattle.tlv_io.proofs.Pieces.{PiecesSoFar, no_pieces_so_far}
use Rattle.tlv_io.proofs.Sends.{sends_nothing}

-- ---- reads

-- what the last read gave
pub gave_last : (last : LastReadValue) (piece : List ℕ) → LastReadGaveUpTo (length piece) last
    → GaveLast last (last_octets last piece)
gave_last never piece g = absurd g
gave_last (gave n) piece g = inl (ap gave (sym (length-take n piece ∙ omega (arith, g))))
gave_last failed piece g = absurd g

pub gave_none : (last : LastReadValue) (piece : List ℕ) → LastReadGaveUpTo (length piece) last
    → last_octets last piece ≡ [] → last ≡ gave 0
gave_none never piece g e = absurd g
gave_none (gave n) piece g e = ap gave (omega (arith, g, length-take n piece, ap length e))
gave_none failed piece g e = absurd g

pub given_short : (last : LastReadValue) (piece : List ℕ) (room : ℕ) → length piece ≤ room
    → length (last_octets last piece) ≤ room
given_short never piece room h = omega arith
given_short (gave n) piece room h = omega (arith, h, length-take n piece)
given_short failed piece room h = omega arith

pub given_octets : (last : LastReadValue) (piece : List ℕ) → AreOctets piece → AreOctets (last_octets last piece)
given_octets never piece a = All-nil (λ x. x < 256)
given_octets (gave n) piece a = All-take (λ x. x < 256) n piece a
given_octets failed piece a = All-nil (λ x. x < 256)

-- of octets after others as many as the limit leaves
pub limit_after : (limit : ℕ) (b r : List ℕ) → length b ≤ limit → b ++ take (limit - length b) r ≡ take limit (b ++ r)
limit_after limit b r h =
    sym (take-append-add b r (limit - length b)) ∙ ap (λ (k : ℕ). take k (b ++ r)) (omega (arith, h))

-- ---- what is kept of events

pub enters_each : (es : List EventValue) → entered_offsets es ≡ flat_map (λ e. entered_offsets (e ∷ [])) es
enters_each [] = refl
enters_each (Enter h ∷ es) = ap (λ (l : List ℕ). h.offset ∷ l) (enters_each es)
enters_each (Open h ∷ es) = enters_each es
enters_each (Begin h ∷ es) = enters_each es
enters_each (Bytes c ∷ es) = enters_each es
enters_each (End ∷ es) = enters_each es
enters_each (Close o ∷ es) = enters_each es
enters_each (Unused ∷ es) = enters_each es
enters_each (Leave ∷ es) = enters_each es
enters_each (Pad c ∷ es) = enters_each es

module _ {S : Type 0} (next : S → EventValue → Effect S) where
  module _ (framing : Framing) (s : S) (old : SourceState) (from : DrainState) (now : TurnStates S) where
    -- before the first turn: the walker is new
    abbrev start : TurnStates S
    start = turn_states (new_walker framing) s old from

    -- the walk so far: what the reads gave, and what was made of these octets
    pub record Walking : Type 0 where
      pub gathered : PiecesSoFar old now.devices.source
      pub are_octets : AreOctets (concat gathered.pieces)
      pub failures : now.devices.source.failures ≡ old.failures
      pub walked : HasWalked next start now (concat gathered.pieces) []

    -- all events so far
    abbrev pub yielded : Walking → List EventValue
    yielded x = x.walked.all

    pub made : (x : Walking) → FollowsEvents next s now.follower (yielded x) go.On
    made x =
        subst (λ (es : List EventValue). FollowsEvents next s now.follower es go.On) x.walked.follows.all_is
        x.walked.follows.made

    pub sends : (x : Walking)
        → Sends {T = ⊤} {E = DeviceFault} from now.devices.drain (effect_of next s (yielded x)).put (Ok tt)
    sends x =
        subst
        (λ (es : List EventValue). Sends {T = ⊤} {E = DeviceFault} from now.devices.drain (effect_of next s es).put
        (Ok tt))
        x.walked.follows.all_is x.walked.follows.put

  pub walking_none : (framing : Framing) (s : S) (old : SourceState) (from : DrainState)
      → Stands (new_walker framing) [] []
      → Walking framing s old from (turn_states (new_walker framing) s old from)
  walking_none framing s old from st = record {
    gathered = no_pieces_so_far old;
    are_octets = All-nil (λ x. x < 256);
    failures = refl;
    walked = record {
      all = [];
      follows = record {
        more = [];
        all_is = refl;
        made = made_none next s;
        put = sends_nothing from tt;
        framing = refl;
      };
      stands = st;
      idle = refl;
    };
  }
