-- The first named offset that is no wrapper's, found by counting.
use Rattle.std.proofs.Common.{◌≡◌, ◌≢◌, inl, inr, ℕ, suc, ◌+◌, ◌<◌, ◌≤◌, Bool, true, not, eqb, if◌then◌else◌, List, []}
use Rattle.std.proofs.Common.{◌∷◌, ◌++◌, refl, sym, ap, ap₂, ◌∙◌, arith, append-nil, eq-eqb, ne_eqb}
use Rattle.std.proofs.lemmas.Bool.{cases_Bool, cases_eq}
use Rattle.std.specs.Prelude.{Option, Some, None, slice_get}
use Rattle.std.specs.Option.{option_map_or}
use Rattle.tlv_walk.specs.Stack.{FrameValue}
use Rattle.tlv_walk.specs.declared.framing.Framing.{Framing}
use Rattle.tlv_walk.specs.WalkerState.{Between, InBitString, InEndOctets, InHeader, InPrimitive, PhaseValue, Refused}
use Rattle.tlv_walk.specs.WalkerState.{WalkerState}
use Rattle.tlv_walk.specs.Walker.{unused_offset, Stands, filled_end_events, is_end_at, waiting_events}
use Rattle.tlv_walk.specs.Walker.{waiting_events_in}
use Rattle.tlv_walk.specs.Events.{AreEqualJoined, EventValue, events}
use Rattle.tlv_walk.specs.Forest.{Forest}
use Rattle.tlv_walk.specs.Inside.{are_rising}
use Rattle.tlv_head.specs.Lists.{is_among}
use Rattle.tlv_walk.specs.Private.WrapperCount.{next_wrapper_count, wrapper_count_after}
use Rattle.tlv_walk.specs.Place.{ObeysGrammar, top_place}
use Rattle.tlv_walk.specs.DriveJob.{first_not_among}
use Rattle.tlv_walk.specs.Wrappers.{first_without_wrapper, entered_offsets, wrapper_offsets}
use Rattle.tlv_walk.proofs.EventLemmas.JoinedEvents.{apart-from_joined}
use Rattle.tlv_walk.proofs.EventLemmas.NamedOffsets.{AreRising, rising-to}
use Rattle.tlv_walk.proofs.EventLemmas.Wrappers.{Rise, enters-apart, enters-append, wrapper_offsets-entered}
use Rattle.tlv_walk.proofs.EventLemmas.Wrappers.{wrapper_offsets-rise}

-- an offset is not that of another
not_among : (n offset : ℕ) (offsets : List ℕ) → n ≢ offset → is_among n (offset ∷ offsets) ≡ is_among n offsets
not_among n offset offsets e = rw (ne_eqb n offset e) refl

is_first : (n : ℕ) (offsets : List ℕ) → is_among n (n ∷ offsets) ≡ true
is_first n offsets = rw (eq-eqb n n refl) refl

-- a smaller offset changes nothing for larger ones
first_not_among-larger : (least offset : ℕ) (ns offsets : List ℕ) → offset < least → AreRising least ns
    → first_not_among ns (offset ∷ offsets) ≡ first_not_among ns offsets
first_not_among-larger least offset [] offsets h r = refl
first_not_among-larger least offset (n ∷ ns) offsets h r =
    ap₂ (λ (k : Bool) (o : Option ℕ). if not k then Some n else o)
    (not_among n offset offsets (λ e. omega (arith, e, h, r.0)))
    (first_not_among-larger (n + 1) offset ns offsets (omega (arith, h, r.0)) r.2)

-- an offset among those that rise is not below the least
among_rise : (least end n : ℕ) (offsets : List ℕ) → Rise least end offsets → is_among n offsets ≡ true → least ≤ n
among_rise least end n [] r e = absurd (cc (e))
among_rise least end n (offset ∷ offsets) r e = elim (cases_eq n offset) [
  | inl same ↦ omega (arith, same, r.0)
  | inr other ↦
      omega (arith, r.0, among_rise (offset + 1) end n offsets r.1 (sym (not_among n offset offsets other) ∙ e))
]

-- counting goes on after the first of the list
next-after : (n : ℕ) (ns : List ℕ) (k offset : ℕ)
    → next_wrapper_count (n ∷ ns) (suc k) offset ≡ suc (next_wrapper_count ns k offset)
next-after n ns k offset = by (slice_get ns k)
  where
    by : (o : Option ℕ)
        → option_map_or (λ m. if eqb m offset then suc k + 1 else suc k) o (suc k)
        ≡ suc (option_map_or (λ m. if eqb m offset then k + 1 else k) o k)
    by None = refl
    by (Some m) = elim (cases_Bool (eqb m offset)) [
      | inl e ↦ rw e (omega arith)
      | inr e ↦ rw e refl
    ]

found-after : (n : ℕ) (ns : List ℕ) (k : ℕ) (offsets : List ℕ)
    → wrapper_count_after (n ∷ ns) (suc k) offsets ≡ suc (wrapper_count_after ns k offsets)
found-after n ns k [] = refl
found-after n ns k (offset ∷ offsets) =
    ap (λ (j : ℕ). wrapper_count_after (n ∷ ns) j offsets) (next-after n ns k offset)
    ∙ found-after n ns (next_wrapper_count ns k offset) offsets

none_there : (k : ℕ) → slice_get {X = ℕ} [] k ≡ None
none_there k = refl

-- the count is the index of the first offset that is not among the others
first-found : (inside offsets : List ℕ) (least low end : ℕ) → AreRising least inside → Rise low end offsets
    → slice_get inside (wrapper_count_after inside 0 offsets) ≡ first_not_among inside offsets
first-found [] offsets least low end r q = none_there (wrapper_count_after [] 0 offsets)
first-found (n ∷ ns) [] least low end r q = refl
first-found (n ∷ ns) (offset ∷ offsets) least low end r q = elim (cases_eq n offset) [
  | inl same ↦
      ap (λ (k : Bool). slice_get (n ∷ ns) (wrapper_count_after (n ∷ ns) (if k then 1 else 0) offsets))
      (eq-eqb n offset same)
      ∙ ap (slice_get (n ∷ ns)) (found-after n ns 0 offsets)
      ∙ first-found ns offsets (n + 1) (offset + 1) end r.2 q.1
      ∙ sym (first_not_among-larger (n + 1) offset ns offsets (omega (arith, same)) r.2)
      ∙ ap (λ (k : Bool). if not k then Some n else first_not_among ns (offset ∷ offsets))
      (sym (ap (λ (m : ℕ). is_among n (m ∷ offsets)) (sym same) ∙ is_first n offsets))
  | inr other ↦
      ap (λ (k : Bool). slice_get (n ∷ ns) (wrapper_count_after (n ∷ ns) (if k then 1 else 0) offsets))
      (ne_eqb n offset other)
      ∙ first-found (n ∷ ns) offsets least (offset + 1) end r q.1
      ∙ elim (cases_Bool (is_among n offsets)) [
        | inl among ↦
            let larger : offset < n + 1 = omega (arith, among_rise (offset + 1) end n offsets q.1 among) in
            ap₂ (λ (k : Bool) (o : Option ℕ). if not k then Some n else o) (sym (not_among n offset offsets other))
            (sym (first_not_among-larger (n + 1) offset ns offsets larger r.2))
        | inr none ↦ rw (not_among n offset offsets other, none) refl
      ]
]

-- ---- of a walker

-- the events that wait enter no wrapper
ends_enter_none : (offset : ℕ) (fs : List FrameValue) → entered_offsets (filled_end_events offset fs) ≡ []
ends_enter_none offset [] = refl
ends_enter_none offset (f ∷ fs) = elim (cases_Bool (is_end_at f.end offset)) [
  | inl e ↦ elim (cases_Bool f.wrapper) [
    | inl k ↦ rw (e, k) (ends_enter_none offset fs)
    | inr k ↦ rw (e, k) (ends_enter_none offset fs)
  ]
  | inr e ↦ rw e refl
]

waits_enter_none : (f : PhaseValue) (fs : List FrameValue) (offset : ℕ)
    → entered_offsets (waiting_events_in f fs offset) ≡ []
waits_enter_none Between fs offset = ends_enter_none offset fs
waits_enter_none (InHeader r) fs offset = refl
waits_enter_none (InPrimitive left) fs offset = elim (cases_Bool (eqb left 0)) [
  | inl e ↦ rw e (ends_enter_none offset fs)
  | inr e ↦ rw e refl
]
waits_enter_none InBitString fs offset = refl
waits_enter_none InEndOctets fs offset = refl
waits_enter_none (Refused fault) fs offset = refl

-- events that are equal joined enter the same wrappers
enters-joined : (xs ys : List EventValue) → AreEqualJoined xs ys → entered_offsets xs ≡ entered_offsets ys
enters-joined xs ys e = sym (enters-apart xs) ∙ ap entered_offsets (apart-from_joined xs ys e) ∙ enters-apart ys

-- the wrappers of a forest whose events were yielded
yielded_wrappers : (framing : Framing) (yielded waits : List EventValue) (f : Forest)
    → ObeysGrammar (top_place framing) f → entered_offsets waits ≡ [] → AreEqualJoined (yielded ++ waits) (events f)
    → entered_offsets yielded ≡ wrapper_offsets f
yielded_wrappers framing yielded waits f v none e =
    sym (enters-append yielded waits ∙ ap (λ (l : List ℕ). entered_offsets yielded ++ l) none
    ∙ append-nil (entered_offsets yielded))
    ∙ enters-joined (yielded ++ waits) (events f) e ∙ sym (wrapper_offsets-entered (top_place framing) f v)

-- the count over the events yielded gives the first named offset that is no wrapper's
pub yielded_unused : (framing : Framing) (yielded waits : List EventValue) (f : Forest)
    → are_rising 0 framing.inside ≡ true → ObeysGrammar (top_place framing) f → entered_offsets waits ≡ []
    → AreEqualJoined (yielded ++ waits) (events f)
    → slice_get framing.inside (wrapper_count_after framing.inside 0 (entered_offsets yielded))
    ≡ first_without_wrapper framing.inside f
yielded_unused framing yielded waits f named v none e =
    let same : entered_offsets yielded ≡ wrapper_offsets f = yielded_wrappers framing yielded waits f v none e in
    ap (λ (offsets : List ℕ). slice_get framing.inside (wrapper_count_after framing.inside 0 offsets)) same
    ∙ first-found framing.inside (wrapper_offsets f) 0 (top_place framing).offset _ (rising-to 0 framing.inside named)
    (wrapper_offsets-rise (top_place framing) f v)

pub stands_unused : (w : WalkerState) (b : List ℕ) (yielded : List EventValue) → (st : Stands w b yielded)
    → unused_offset w ≡ first_without_wrapper w.framing.inside st.has_events.reading
stands_unused w b yielded st =
    ap (slice_get w.framing.inside) st.private_state.wrapper_count
    ∙ yielded_unused w.framing yielded (waiting_events w) st.has_events.reading st.private_state.rising
    st.has_events.is_reading.obeys_grammar (waits_enter_none w.phase w.stack w.offset) st.has_events.all_events

-- it is the first that no event yielded entered
pub stands-entered : (w : WalkerState) (b : List ℕ) (yielded : List EventValue) → Stands w b yielded
    → unused_offset w ≡ first_not_among w.framing.inside (entered_offsets yielded)
stands-entered w b yielded st =
    stands_unused w b yielded st
    ∙ ap (first_not_among w.framing.inside)
    (sym
    (yielded_wrappers w.framing yielded (waiting_events w) st.has_events.reading
    st.has_events.is_reading.obeys_grammar (waits_enter_none w.phase w.stack w.offset)
    st.has_events.all_events))
