-- What is said of octets, by what is kept of the events of a walk over them.
use Rattle.std.proofs.Common.{◌≡◌, ◌≢◌, ℕ, ◌+◌, true, List, [], ◌∷◌, ◌++◌, length, refl, sym, ap, ◌∙◌}
use Rattle.std.proofs.Common.{subst, arith, append-nil, append_assoc, eq-eqb, ne_eqb, length-append}
use Rattle.std.specs.Prelude.{None, Option, Some, slice_index}
use Rattle.std.proofs.lemmas.Bool.{true≢false}
use Rattle.std.proofs.lemmas.List.{get_or_at}
use Rattle.tlv_head.specs.declared.fault.Fault.{Fault}
use Rattle.tlv_walk.specs.declared.ending.Ending.{Ending}
use Rattle.tlv_walk.specs.declared.ending.Ending.TheVariants as ending
use Rattle.tlv_walk.specs.declared.framing.Framing.{Framing}
use Rattle.tlv_walk.specs.Ending.{IsEnding, IsEndingOf, done, empty, open_end, refused, short}
use Rattle.tlv_walk.specs.Events.{AreEqualJoined, EventValue, events}
use Rattle.tlv_walk.specs.Forest.{Forest, Holder, NoMore, OpenBitString, OpenEndOctets, OpenHeader, OpenHolder}
use Rattle.tlv_walk.specs.Forest.{OpenPrimitive, PaddingOctet, Primitive, spelling}
use Rattle.tlv_walk.specs.WalkerState.{WalkerState}
use Rattle.tlv_walk.specs.Walker.{StandsAtEnd, refused_one, took_all}
use Rattle.tlv_walk.specs.Place.{ObeysGrammar, Place, top_place}
use Rattle.tlv_walk.specs.Reading.{IsReading}
use Rattle.tlv_walk.proofs.GrammarLemmas.Readings.{reading-unique}
use Rattle.tlv_reasons.specs.declared.facts.Facts.{Facts}
use Rattle.tlv_reasons.specs.declared.tracker.Tracker.{Tracker}
use Rattle.tlv_reasons.specs.Facts.{AreFacts, ending_by, unfinished_in}
use Rattle.tlv_reasons.specs.Private.Tracking.{HasTracked, MakesFacts, count_read, new_tracker, open_end_offset, track_all}
use Rattle.tlv_reasons.specs.Private.Tracking.{unfinished_at, unfinished_octet}
use Rattle.tlv_reasons.proofs.TrackLemmas.OpenPlace.{HasOpenEnd, has_open_end, header_prefix-first, is_end}
use Rattle.tlv_reasons.proofs.TrackLemmas.TrackedEvents.{tracked-joined}
use Rattle.tlv_reasons.proofs.TrackLemmas.TrackedForests.{IsTracked, begun_primitive, entered_bit_string, forest-tracked}

-- ---- the reading of the octets that a walk is over

-- octets have a reading, of which these are the events
record HasReading (framing : Framing) (octets : List ℕ) (yielded : List EventValue) : Type 0 where
  reading : Forest
  is_reading : IsReading framing octets reading
  all_events : AreEqualJoined yielded (events reading)

reading-at_end : (w : WalkerState) (octets : List ℕ) (yielded : List EventValue) → StandsAtEnd w octets yielded
    → HasReading w.framing octets yielded
reading-at_end w octets yielded (took_all st none) = record {
  reading = st.has_events.reading;
  is_reading = st.has_events.is_reading;
  all_events =
      subst (λ (es : List EventValue). AreEqualJoined es (events st.has_events.reading))
      (ap (λ (es : List EventValue). yielded ++ es) none ∙ append-nil yielded) st.has_events.all_events;
}
reading-at_end w octets yielded (refused_one f at) = record {
  reading = at.stands.refused.reading;
  is_reading =
      subst (λ (o : List ℕ). IsReading w.framing o at.stands.refused.reading) at.octets_are
      (at.stands.refused.stays at.others);
  all_events = at.stands.refused.all_events;
}

-- ---- what stands at the open end

-- an octet that is not the last one read
octet-there : (octets before rest : List ℕ) (x offset : ℕ) → octets ≡ before ++ x ∷ rest
    → offset ≡ length before → slice_index octets offset ≡ x
octet-there octets before rest x offset e d =
    ap (λ (o : List ℕ). slice_index o offset) e ∙ get_or_at before x rest 0 offset (sym d)

unfinished-nothing : (octets : List ℕ) (offset count : ℕ) → offset ≡ count
    → unfinished_octet octets offset count ≡ unfinished_in NoMore
unfinished-nothing octets offset count e = rw (eq-eqb offset count e) refl

unfinished-zero : (octets : List ℕ) (offset count : ℕ) → offset ≢ count → slice_index octets offset ≡ 0
    → unfinished_octet octets offset count ≡ unfinished_in OpenEndOctets
unfinished-zero octets offset count e d =
    rw (ne_eqb offset count e, eq-eqb (slice_index octets offset) 0 d) refl

unfinished-header : (octets o : List ℕ) (offset count : ℕ) → offset ≢ count → slice_index octets offset ≢ 0
    → unfinished_octet octets offset count ≡ unfinished_in (OpenHeader o)
unfinished-header octets o offset count e d =
    rw (ne_eqb offset count e, ne_eqb (slice_index octets offset) 0 d) refl

-- what is kept says what stands at an open end
record EndSaid (q : Place) (g : Forest) (octets : List ℕ) (count : ℕ) (t : Tracker) : Type 0 where
  next : open_end_offset t ≡ q.offset
  unfinished : unfinished_at t octets count ≡ unfinished_in g

-- where no element has begun
said-between : (q : Place) (g : Forest) (octets : List ℕ) (count : ℕ) (t : Tracker) → t.current ≡ None
    → t.entered ≡ None → t.offset ≡ q.offset → unfinished_octet octets t.offset count ≡ unfinished_in g
    → EndSaid q g octets count t
said-between q g octets count t none out there u = record {
  next = rw (none, out) there;
  unfinished = rw (none, out) u;
}

end-said : (q : Place) (g : Forest) (octets before rest : List ℕ) (count : ℕ) (t : Tracker)
    → ObeysGrammar q g → is_end g ≡ true → t.current ≡ begun_primitive g → t.entered ≡ entered_bit_string g
    → (t.current ≡ None → t.entered ≡ None → t.offset ≡ q.offset) → octets ≡ before ++ (spelling g ++ rest)
    → q.offset ≡ length before → count ≡ length before + length (spelling g) → EndSaid q g octets count t
end-said q NoMore octets before rest count t o end current entered offset spelled there all =
    said-between q NoMore octets count t current entered (offset current entered)
    (unfinished-nothing octets t.offset count (omega (arith, offset current entered, there, all)))
end-said q (OpenPrimitive h c) octets before rest count t o end current entered offset spelled there all = record {
  next = rw current o.0.header.offset;
  unfinished = rw current refl;
}
end-said q (OpenBitString h) octets before rest count t o end current entered offset spelled there all = record {
  next = rw (current, entered) o.0.header.offset;
  unfinished = rw (current, entered) refl;
}
end-said q (OpenHeader []) octets before rest count t o end current entered offset spelled there all =
    absurd (o.0 refl)
end-said q (OpenHeader (x ∷ xs)) octets before rest count t o end current entered offset spelled there all =
    let here : t.offset ≡ length before = offset current entered ∙ there in
    let first : slice_index octets t.offset ≡ x =
    octet-there octets before (xs ++ rest) x t.offset spelled here in
    said-between q (OpenHeader (x ∷ xs)) octets count t current entered (offset current entered)
    (unfinished-header octets (x ∷ xs) t.offset count (λ e. omega (arith, e, here, all))
    (λ e. header_prefix-first x xs o.1 (sym first ∙ e)))
end-said q OpenEndOctets octets before rest count t o end current entered offset spelled there all =
    let here : t.offset ≡ length before = offset current entered ∙ there in
    said-between q OpenEndOctets octets count t current entered (offset current entered)
    (unfinished-zero octets t.offset count (λ e. omega (arith, e, here, all))
    (octet-there octets before rest 0 t.offset spelled here))
end-said q (PaddingOctet f) octets before rest count t o end current entered offset spelled there all =
    absurd (true≢false (sym end))
end-said q (Primitive h c f) octets before rest count t o end current entered offset spelled there all =
    absurd (true≢false (sym end))
end-said q (Holder h children f) octets before rest count t o end current entered offset spelled there all =
    absurd (true≢false (sym end))
end-said q (OpenHolder h children) octets before rest count t o end current entered offset spelled there all =
    absurd (true≢false (sym end))

-- ---- all of it

-- how many octets are read of octets that have this ending
abbrev count_of : List ℕ → Ending → ℕ
count_of octets ending.Done = length octets
count_of octets (ending.Fault f) = f.offset

count_read-same : (found : Option Fault) (octets : List ℕ)
    → count_read found (length octets) ≡ count_of octets (ending_by found)
count_read-same None octets = refl
count_read-same (Some f) octets = refl

count-by : (framing : Framing) (octets : List ℕ) (e : Ending) (f : Forest) → IsEndingOf framing octets f e
    → count_of octets e ≡ length (spelling f)
count-by framing octets _ f (empty spelled none) = sym (ap length spelled)
count-by framing octets _ f (short spelled open_) = sym (ap length spelled)
count-by framing octets _ f (done spelled some whole) = sym (ap length spelled)
count-by framing octets _ f (refused x rest code spelled why) = refl

ending-count : (framing : Framing) (octets : List ℕ) (e : Ending) (f : Forest) → IsEnding framing octets e
    → IsReading framing octets f → count_of octets e ≡ length (spelling f)
ending-count framing octets e f x r =
    count-by framing octets e x.reading x.ends
    ∙ ap (λ (g : Forest). length (spelling g)) (reading-unique framing octets x.reading f x.is_reading r)

pub facts-made : (framing : Framing) (octets : List ℕ) (w : WalkerState) (t : Tracker) (e : Ending) (facts : Facts)
    → HasTracked framing octets w t → IsEnding framing octets e → MakesFacts t octets e facts
    → AreFacts framing octets facts
facts-made framing octets w t e facts k ends m =
    let walked : HasReading w.framing octets k.yielded = reading-at_end w octets k.yielded k.at_end in
    let f : Forest = walked.reading in
    let r : IsReading framing octets f =
    subst (λ (g : Framing). IsReading g octets f) k.framing_is walked.is_reading in
    let ending : IsEnding framing octets (ending_by facts.fault) = subst (IsEnding framing octets) (sym m.fault) ends in
    let p : Place = top_place framing in
    let same : t ≡ track_all new_tracker (events f) =
    k.tracked ∙ tracked-joined new_tracker k.yielded (events f) walked.all_events in
    let i : IsTracked p f [] None 0 [] t =
    subst (λ (u : Tracker). IsTracked p f [] None 0 [] u) (sym same)
    (forest-tracked p f [] None 0 [] r.obeys_grammar refl) in
    let q : HasOpenEnd p f = has_open_end p f r.obeys_grammar in
    let g : Forest = (open_end p f).forest in
    let rest : List ℕ = r.is_prefix.0 in
    let spelled : octets ≡ q.octets ++ (spelling g ++ rest) =
    sym r.is_prefix.1 ∙ ap (λ (o : List ℕ). o ++ rest) q.spelled ∙ append_assoc q.octets (spelling g) rest in
    let read : ℕ = count_read facts.fault (length octets) in
    let count : read ≡ length q.octets + length (spelling g) =
    count_read-same facts.fault octets ∙ ending-count framing octets (ending_by facts.fault) f ending r
    ∙ ap length q.spelled ∙ length-append q.octets (spelling g) in
    let said : EndSaid (open_end p f).place g octets read t =
    end-said (open_end p f).place g octets q.octets rest read t q.grammar q.end i.current i.entered i.offset spelled
    (omega (arith, q.offset)) count in
    record {
      ending = ending;
      reading = f;
      is_reading = r;
      are_facts = record {
        holders = m.holders ∙ i.holders_are;
        before = m.before ∙ i.before_is;
        top = m.top ∙ i.top_is;
        nearest = m.nearest ∙ i.nearest_are;
        next = m.next ∙ said.next;
        unfinished = m.unfinished ∙ said.unfinished;
        there = m.there;
      };
    }
