-- What is kept of the events of a walk over octets.
use Rattle.std.proofs.Common.{◌≡◌, ◌⊎◌, inl, inr, ℕ, ◌+◌, eqb, List, [], ◌∷◌, ◌++◌, length, flat_map, refl}
use Rattle.std.proofs.Common.{sym, ap, ◌∙◌, subst, arith, append_assoc, length-append}
use Rattle.std.specs.Prelude.{Option, Some, None, nat_lt}
use Rattle.std.proofs.lemmas.Bool.{cases_Bool}
use Rattle.std.proofs.lemmas.Grind.{flat_map-append}
use Rattle.tlv_head.specs.declared.fault.Fault.{Fault}
use Rattle.tlv_head.specs.UniversalTypes as universal
use Rattle.tlv_walk.specs.declared.event.Event.{Event}
use Rattle.tlv_walk.specs.declared.event.Step.{Step}
use Rattle.tlv_walk.specs.declared.event.Step.TheVariants as step
use Rattle.tlv_walk.specs.declared.framing.Framing.{Framing}
use Rattle.tlv_walk.specs.Events.{Begin, Bytes, Close, End, Enter, EventValue, Leave, Open, Pad, Unused, event_octets}
use Rattle.tlv_walk.specs.Events.{event_value_of}
use Rattle.tlv_walk.specs.WalkerState.{Refused, WalkerState}
use Rattle.tlv_walk.specs.Walker.{refused_one, took_all, IsIdle, Stands, RefusesNext, StepsTo, UsesUpPiece, YieldsNext}
use Rattle.tlv_walk.specs.Walker.{IsAfterEvent}
use Rattle.tlv_walk.proofs.WalkerLemmas.EventOctets.{stands-yielded_octets}
use Rattle.tlv_walk.proofs.WalkerLemmas.HasRead.{never_refused}
use Rattle.tlv_reasons.specs.declared.element.Element.{Element}
use Rattle.tlv_reasons.specs.declared.tracker.Tracker.{Tracker}
use Rattle.tlv_reasons.specs.Elements.{element_of}
use Rattle.tlv_reasons.specs.Private.Tracking.{HasTracked, IsNewWalker, bit_string_opened, holder_ended, holder_noted}
use Rattle.tlv_reasons.specs.Private.Tracking.{innermost, new_tracker, primitive_ended, track, track_all, tracked_event}
use Rattle.tlv_reasons.proofs.TrackLemmas.TrackedEvents.{track_all-append}

-- a walker that has walked over some of the octets, and what is kept of the events
pub record TracksOn (framing : Framing) (octets : List ℕ) (w : WalkerState) (rest : List ℕ) (t : Tracker)
    : Type 0 where
  pub framing_is : w.framing ≡ framing
  pub taken : List ℕ
  pub yielded : List EventValue
  pub stands : Stands w taken yielded
  pub whole : taken ++ rest ≡ octets
  pub after_event : IsAfterEvent w.phase
  pub tracked : t ≡ track_all new_tracker yielded
  pub offset : t.offset ≡ w.offset

-- only the octets of an event move the offset
noted-offset : (e : Element) (t : Tracker) → (holder_noted e t).offset ≡ t.offset
noted-offset e t = elim (cases_Bool (nat_lt (length t.holders.items) 128)) [
  | inl room ↦ rw room refl
  | inr full ↦ rw full refl
]

tracked-offset : (e : EventValue) (t : Tracker) → (tracked_event e t).offset ≡ t.offset
tracked-offset (Open h) t = noted-offset (element_of h) t
tracked-offset (Enter h) t = elim (cases_Bool (eqb h.number universal.bit_string)) [
  | inl bits ↦ rw bits refl
  | inr other ↦ rw other (noted-offset (element_of h) t)
]
tracked-offset (Begin h) t = refl
tracked-offset End t = by t.current
  where
    by : (o : Option Element) → (primitive_ended o t).offset ≡ t.offset
    by None = refl
    by (Some e) = refl
tracked-offset (Close offset) t = by (innermost t)
  where
    by : (o : Option Element) → (holder_ended o t).offset ≡ t.offset
    by None = refl
    by (Some e) = refl
tracked-offset Leave t = by (innermost t)
  where
    by : (o : Option Element) → (holder_ended o t).offset ≡ t.offset
    by None = refl
    by (Some e) = refl
tracked-offset (Bytes octets) t = refl
tracked-offset (Pad octets) t = refl
tracked-offset Unused t = by t.entered
  where
    by : (o : Option Element) → (bit_string_opened o t).offset ≡ t.offset
    by None = refl
    by (Some e) = noted-offset e (record t { entered = None })

-- the octets of an event are those that the walker takes
pub event-size : (framing : Framing) (octets : List ℕ) (old new : WalkerState) (rest left : List ℕ) (e : Event)
    (t : Tracker) → TracksOn framing octets old rest t → YieldsNext old new rest left e
    → new.offset ≡ t.offset + length (event_octets (event_value_of e))
event-size framing octets old new rest left e t k y =
    let before : flat_map event_octets k.yielded ≡ k.taken =
    stands-yielded_octets old k.taken k.yielded k.stands k.after_event in
    let after : flat_map event_octets (k.yielded ++ event_value_of e ∷ []) ≡ k.taken ++ y.takes.taken =
    stands-yielded_octets new (k.taken ++ y.takes.taken) (k.yielded ++ event_value_of e ∷ [])
    (y.stands k.taken k.yielded k.stands) y.has_yielded.after_event in
    let parts : flat_map event_octets (k.yielded ++ event_value_of e ∷ [])
    ≡ flat_map event_octets k.yielded ++ (event_octets (event_value_of e) ++ []) =
    flat_map-append event_octets k.yielded (event_value_of e ∷ []) in
    omega (
      arith,
      k.offset,
      y.takes.offset,
      ap length before,
      ap length after,
      ap length parts,
      length-append (flat_map event_octets k.yielded) (event_octets (event_value_of e) ++ []),
      length-append (event_octets (event_value_of e)) [],
      length-append k.taken y.takes.taken,
    )

pub tracks-on : (framing : Framing) (octets : List ℕ) (old new : WalkerState) (rest left : List ℕ) (e : Event)
    (t u : Tracker) → TracksOn framing octets old rest t → YieldsNext old new rest left e
    → u ≡ track t (event_value_of e) → TracksOn framing octets new left u
tracks-on framing octets old new rest left e t u k y same = record {
  framing_is = y.takes.framing ∙ k.framing_is;
  taken = k.taken ++ y.takes.taken;
  yielded = k.yielded ++ event_value_of e ∷ [];
  stands = y.stands k.taken k.yielded k.stands;
  whole =
      append_assoc k.taken y.takes.taken left
      ∙ (ap (λ (o : List ℕ). k.taken ++ o) (sym y.takes.piece_is) ∙ k.whole);
  after_event = y.has_yielded.after_event;
  tracked =
      same ∙ ap (λ (s : Tracker). track s (event_value_of e)) k.tracked
      ∙ sym (track_all-append new_tracker k.yielded (event_value_of e ∷ []));
  offset =
      ap (λ (s : Tracker). s.offset) same
      ∙ tracked-offset (event_value_of e) (record t { offset = t.offset + length (event_octets (event_value_of e)) })
      ∙ sym (event-size framing octets old new rest left e t k y);
}

tracks-used_up : (framing : Framing) (octets : List ℕ) (old new : WalkerState) (rest left : List ℕ) (t : Tracker)
    → TracksOn framing octets old rest t → UsesUpPiece old new rest left → HasTracked framing octets new t
tracks-used_up framing octets old new rest left t k u = record {
  framing_is = u.takes.framing ∙ k.framing_is;
  yielded = k.yielded;
  at_end =
      took_all (subst (λ (o : List ℕ). Stands new o k.yielded) k.whole (u.stands k.taken k.yielded k.stands)) u.ready.0;
  idle = u.ready.0;
  tracked = k.tracked;
}

tracks-refused : (framing : Framing) (octets : List ℕ) (old new : WalkerState) (rest left : List ℕ) (f : Fault)
    (t : Tracker)
    → TracksOn framing octets old rest t → RefusesNext old new rest left f → HasTracked framing octets new t
tracks-refused framing octets old new rest left f t k r = record {
  framing_is = r.takes.framing ∙ k.framing_is;
  yielded = k.yielded;
  at_end =
      refused_one f (record {
        taken = k.taken ++ r.takes.taken;
        octet = r.octet;
        others = r.others;
        octets_are =
            append_assoc k.taken r.takes.taken (r.octet ∷ r.others)
            ∙ (ap (λ (o : List ℕ). k.taken ++ (r.takes.taken ++ o)) (sym r.rest_is)
            ∙ (ap (λ (o : List ℕ). k.taken ++ o) (sym r.takes.piece_is) ∙ k.whole));
        stands = r.stands k.taken k.yielded k.stands;
      });
  idle = refused-idle new f r.phase;
  tracked = k.tracked;
}
  where
    refused-idle : (w : WalkerState) (f : Fault) → w.phase ≡ Refused f → IsIdle w
    refused-idle w f e = rw e refl

-- the step with which a walk has ended
pub track-ended : (framing : Framing) (octets : List ℕ) (old new : WalkerState) (rest left : List ℕ) (s : Step)
    (t : Tracker) → TracksOn framing octets old rest t → StepsTo old new rest left s
    → (s ≡ step.NeedMore) ⊎ ((f : Fault) × (s ≡ step.Fault f)) → HasTracked framing octets new t
track-ended framing octets old new rest left step.NeedMore t k y e =
    tracks-used_up framing octets old new rest left t k y
track-ended framing octets old new rest left (step.Fault f) t k (inl r) e =
    tracks-refused framing octets old new rest left f t k r
track-ended framing octets old new rest left (step.Fault f) t k (inr a) e =
    absurd (never_refused old k.taken k.yielded f k.stands a.refused)
track-ended framing octets old new rest left (step.Event x) t k y (inl e) = absurd (cc (e))
track-ended framing octets old new rest left (step.Event x) t k y (inr e) = let f = e.1 in absurd (cc (f))

-- before the first step
pub tracks-first : (w : WalkerState) (octets : List ℕ) (t : Tracker) → IsNewWalker w → t ≡ new_tracker
    → TracksOn w.framing octets w octets t
tracks-first w octets t n e = record {
  framing_is = refl;
  taken = [];
  yielded = [];
  stands = n.stands;
  whole = refl;
  after_event = subst IsAfterEvent (sym n.phase) tt;
  tracked = e;
  offset = ap (λ (s : Tracker). s.offset) e ∙ sym n.offset;
}
