-- What a step yields, of what a walker stands for.
use Rattle.std.proofs.Common.{◌≡◌, ◌⊎◌, inl, inr, ℕ, ◌+◌, true, List, [], ◌∷◌, ◌++◌, length, refl, sym, ap, ◌∙◌, subst}
use Rattle.std.proofs.Common.{arith, append-nil, length-append}
use Rattle.tlv_head.specs.declared.fault.Fault.{Fault}
use Rattle.tlv_walk.specs.Stack.{FrameValue}
use Rattle.tlv_walk.specs.declared.event.Event.{Event}
use Rattle.tlv_walk.specs.declared.event.Step.{Step}
use Rattle.tlv_walk.specs.declared.event.Step.TheVariants as step
use Rattle.tlv_walk.specs.declared.framing.Framing.{Framing}
use Rattle.tlv_walk.specs.Events.{AreEqualJoined, EventValue, IsNoEmptyPart, event_value_of, events}
use Rattle.tlv_walk.specs.Inside.{are_rising}
use Rattle.tlv_walk.specs.WalkerState.{WalkerState, PhaseValue, Between, InHeader, InPrimitive, InBitString}
use Rattle.tlv_walk.specs.WalkerState.{InEndOctets, Refused}
use Rattle.tlv_walk.specs.Walker.{HasNotRefused, Stands, waiting_events, RefusesAgain, RefusesNext, StepsTo}
use Rattle.tlv_walk.specs.Walker.{UsesUpPiece, YieldsNext, IsRefusedAfter, StandsRefused}
use Rattle.tlv_walk.specs.Private.WalkerCalls.{Refuses, TakesAll, CountsOne}
use Rattle.tlv_walk.specs.Private.WrapperCount.{wrapper_count_after}
use Rattle.tlv_walk.specs.Wrappers.{entered_offsets}
use Rattle.tlv_walk.proofs.WalkerLemmas.ZipperGrowth.{found_in-append}
use Rattle.tlv_walk.proofs.EventLemmas.Wrappers.{enters-append}
use Rattle.tlv_walk.specs.declared.ending.Ending.TheVariants as ending
use Rattle.tlv_walk.specs.Ending.{IsEnding}
use Rattle.tlv_walk.specs.Reading.{CannotBecomeSound, IsReading}
use Rattle.tlv_walk.specs.Place.{ObeysGrammar, top_place}
use Rattle.tlv_walk.specs.Private.FollowsPiece.{WalksOver}
use Rattle.tlv_walk.specs.Private.Yields.{Continues, RefusesOctet, Steps, YieldsEvent, YieldsEvents, YieldsFault}
use Rattle.std.specs.Prelude.{slice_get}
use Rattle.tlv_walk.proofs.GrammarLemmas.Endings.{refused-reading}
use Rattle.tlv_walk.proofs.GrammarLemmas.FinalFaults.{refused-final}
use Rattle.tlv_walk.proofs.GrammarLemmas.OneEnding.{never-sound}
use Rattle.tlv_walk.proofs.WalkerLemmas.Depths.{state-depth}
use Rattle.tlv_walk.proofs.EventLemmas.UnusedOffset.{yielded_unused}
use Rattle.tlv_walk.proofs.WalkerLemmas.Waiting.{idle-none_waits}
use Rattle.tlv_walk.proofs.GrammarLemmas.PushSteps.{Spells}
use Rattle.tlv_walk.proofs.WalkerLemmas.ZipperReading.{stands, state-events, state-spells}
use Rattle.tlv_walk.proofs.WalkerLemmas.Zipper.{reading_of}

-- the wrappers found are those of the events yielded
found_on : (old new : WalkerState) (yielded more : List EventValue) → new.framing ≡ old.framing
    → old.wrapper_count ≡ wrapper_count_after old.framing.inside 0 (entered_offsets yielded)
    → new.wrapper_count ≡ wrapper_count_after old.framing.inside old.wrapper_count (entered_offsets more)
    → new.wrapper_count ≡ wrapper_count_after new.framing.inside 0 (entered_offsets (yielded ++ more))
found_on old new yielded more same p q =
    q
    ∙ ap (λ (k : ℕ). wrapper_count_after old.framing.inside k (entered_offsets more)) p
    ∙ sym (ap (wrapper_count_after old.framing.inside 0) (enters-append yielded more)
    ∙ found_in-append old.framing.inside 0 (entered_offsets yielded) (entered_offsets more))
    ∙ ap (λ (f : Framing). wrapper_count_after f.inside 0 (entered_offsets (yielded ++ more))) (sym same)

pub stands_all : (old new : WalkerState) (piece rest : List ℕ) (es : List EventValue)
    → YieldsEvents old new piece rest es → WalksOver old new piece rest es
stands_all old new piece rest es t = let k = t.continues in record {
  taken = t.taken;
  piece_is = t.piece_is;
  framing = k.framing;
  stands = λ b yielded st. let u = k.next_zipper b yielded st.private_state.zipper st.private_state.has_zipper in
      stands new (b ++ t.taken) (yielded ++ es) u.0 u.1
      (subst (λ (f : Framing). are_rising 0 f.inside ≡ true) (sym k.framing) st.private_state.rising)
      (found_on old new yielded es k.framing st.private_state.wrapper_count k.wrapper_count);
}

-- the reading after which the octet is refused
abbrev refused_reading : (old : WalkerState) (g : Framing) (piece rest : List ℕ) (f : Fault) → g ≡ old.framing
    → (r : RefusesOctet old piece rest f) → (b : List ℕ) (yielded : List EventValue) → Stands old b yielded
    → IsRefusedAfter g (b ++ r.taken) r.octet yielded f
refused_reading old g piece rest f same r b yielded st =
    let u = r.refuses b yielded st.private_state.zipper st.private_state.has_zipper in
    let all : AreEqualJoined (yielded ++ waiting_events u.walker) (events (reading_of u.zipper)) =
    state-events u.walker (b ++ r.taken) yielded u.zipper u.has_zipper in
    let spells : Spells (top_place u.walker.framing) (b ++ r.taken) (reading_of u.zipper) =
    state-spells u.walker (b ++ r.taken) yielded u.zipper u.has_zipper in
    let there : f.offset ≡ length (b ++ r.taken) = u.offset ∙ u.has_zipper.offset in
    let obeys_grammar : ObeysGrammar (top_place old.framing) (reading_of u.zipper) =
    subst (λ (w : Framing). ObeysGrammar (top_place w) (reading_of u.zipper)) u.framing spells.obeys_grammar in
    record {
      reading = reading_of u.zipper;
      spelled = spells.spelled;
      offset = there;
      all_events =
          subst (λ (es : List EventValue). AreEqualJoined es (events (reading_of u.zipper)))
          (ap (λ (es : List EventValue). yielded ++ es) u.idle ∙ append-nil yielded) all;
      stays = λ c. subst (λ (w : Framing). IsReading w ((b ++ r.taken) ++ r.octet ∷ c) (reading_of u.zipper)) (sym same)
          (refused-reading old.framing (b ++ r.taken) r.octet c f (reading_of u.zipper)
          (record { obeys_grammar = obeys_grammar; spelled = spells.spelled }) there (u.ends c));
      ends =
          λ c. subst (λ (w : Framing). IsEnding w ((b ++ r.taken) ++ r.octet ∷ c) (ending.Fault f)) (sym same)
          (u.ends c);
      never_sound = subst (λ (w : Framing). CannotBecomeSound w ((b ++ r.taken) ++ r.octet ∷ [])) (sym same)
          (never-sound old.framing ((b ++ r.taken) ++ r.octet ∷ []) (ending.Fault f) (u.ends [])
          (refused-final old.framing (b ++ r.taken) r.octet [] f there (u.ends [])));
    }

-- the walker after the octet that it refused
refused_walker : (old new : WalkerState) (piece rest : List ℕ) (f : Fault) → Refuses old new piece rest f
    → (r : RefusesOctet old piece rest f) → (b : List ℕ) (yielded : List EventValue) → Stands old b yielded
    → StandsRefused new (b ++ r.taken) r.octet yielded f
refused_walker old new piece rest f k r b yielded st =
    let u = r.refuses b yielded st.private_state.zipper st.private_state.has_zipper in
    let framing : new.framing ≡ old.framing = k.framing in
    let named : are_rising 0 new.framing.inside ≡ true =
    subst (λ (g : Framing). are_rising 0 g.inside ≡ true) (sym framing) st.private_state.rising in
    let there : IsRefusedAfter new.framing (b ++ r.taken) r.octet yielded f =
    refused_reading old new.framing piece rest f framing r b yielded st in
    let found : new.wrapper_count ≡ wrapper_count_after new.framing.inside 0 (entered_offsets yielded) =
    k.wrapper_count ∙ st.private_state.wrapper_count
    ∙ ap (λ (g : Framing). wrapper_count_after g.inside 0 (entered_offsets yielded)) (sym framing) in
    record {
      refused = there;
      phase = k.phase;
      offset =
          omega (
            arith,
            k.counts,
            st.private_state.has_zipper.offset,
            ap length r.piece_is,
            length-append r.taken rest,
            length-append b r.taken,
          );
      depth =
          ap (λ (fs : List FrameValue). length fs) (k.stack ∙ sym u.stack)
          ∙ state-depth u.walker (b ++ r.taken) yielded u.zipper u.has_zipper (idle-none_waits u.walker u.idle);
      unused =
          ap (slice_get new.framing.inside) found
          ∙ yielded_unused new.framing yielded [] there.reading named (there.stays []).obeys_grammar refl
          (subst (λ (es : List EventValue). AreEqualJoined es (events there.reading)) (sym (append-nil yielded))
          there.all_events);
    }

-- ---- what a step comes to

-- an event
yields_one-next : (old new : WalkerState) (piece rest : List ℕ) (e : Event) → HasNotRefused old
    → CountsOne old new piece rest
    → IsNoEmptyPart e → YieldsEvent old new piece rest (event_value_of e) → YieldsNext old new piece rest e
yields_one-next old new piece rest e n k has t =
    let walked = stands_all old new piece rest (event_value_of e ∷ []) t in record {
      takes = record {
        not_refused = n;
        taken = walked.taken;
        piece_is = walked.piece_is;
        framing = walked.framing;
        offset = omega (arith, k.counts, ap length walked.piece_is, length-append walked.taken rest);
        events = k.events;
      };
      stands = walked.stands;
      has_octets = has;
      has_yielded = k.has_yielded;
    }

-- more is needed
uses_up : (old new : WalkerState) (piece rest : List ℕ) → HasNotRefused old → TakesAll old new piece rest
    → Continues old new piece [] → UsesUpPiece old new piece rest
uses_up old new piece rest n k t =
    record {
      takes = record {
        not_refused = n;
        taken = piece;
        piece_is = sym (ap (λ (o : List ℕ). piece ++ o) k.none_left ∙ append-nil piece);
        framing = t.framing;
        offset = k.counts;
        events = omega (arith, k.events);
      };
      none_left = k.none_left;
      stands = λ b yielded st.
          let u = t.next_zipper b yielded st.private_state.zipper st.private_state.has_zipper in
          subst (λ (es : List EventValue). Stands new (b ++ piece) es) (append-nil yielded)
          (stands new (b ++ piece) (yielded ++ []) u.0 u.1
          (subst (λ (f : Framing). are_rising 0 f.inside ≡ true) (sym t.framing) st.private_state.rising)
          (found_on old new yielded [] t.framing st.private_state.wrapper_count t.wrapper_count));
      ready = k.ready;
    }

-- an octet is refused
refuses_now : (old new : WalkerState) (piece rest : List ℕ) (f : Fault) → HasNotRefused old
    → Refuses old new piece rest f → RefusesOctet old piece rest f → RefusesNext old new piece rest f
refuses_now old new piece rest f n k r = record {
  takes = record {
    not_refused = n;
    taken = r.taken;
    piece_is = r.piece_is;
    framing = k.framing;
    offset = omega (arith, k.counts, ap length r.piece_is, length-append r.taken rest);
    events = omega (arith, k.events);
  };
  octet = r.octet;
  others = r.others;
  rest_is = r.rest_is;
  stands = λ b yielded st. refused_walker old new piece rest f k r b yielded st;
  phase = k.phase;
  stack = k.stack;
  wrapper_count = k.wrapper_count;
}

-- an octet was refused before, or none was
refused_before : (p : PhaseValue) → ((f : Fault) × (p ≡ Refused f)) ⊎ ((f : Fault) → p ≡ Refused f → ⊥)
refused_before Between = inr (λ f e. cc)
refused_before (InHeader r) = inr (λ f e. cc)
refused_before (InPrimitive left) = inr (λ f e. cc)
refused_before InBitString = inr (λ f e. cc)
refused_before InEndOctets = inr (λ f e. cc)
refused_before (Refused f) = inl (f, refl)

fault_now : (old new : WalkerState) (piece rest : List ℕ) (f : Fault) → HasNotRefused old
    → Refuses old new piece rest f → YieldsFault old new piece rest f
    → StepsTo old new piece rest (step.Fault f)
fault_now old new piece rest f n k (inl r) = inl (refuses_now old new piece rest f n k r)
fault_now old new piece rest f n k (inr r) = absurd (n f r.refused)

steps_now : (old new : WalkerState) (piece rest : List ℕ) (s : Step) → HasNotRefused old
    → Steps old new piece rest s → StepsTo old new piece rest s
steps_now old new piece rest (step.Event e) n k = yields_one-next old new piece rest e n k.counts.0 k.counts.1 k.yields
steps_now old new piece rest step.NeedMore n k = uses_up old new piece rest n k.counts k.yields
steps_now old new piece rest (step.Fault f) n k = fault_now old new piece rest f n k.counts k.yields

steps_by : (old new : WalkerState) (piece rest : List ℕ) (s : Step) → Steps old new piece rest s
    → ((f : Fault) → old.phase ≡ Refused f → (s ≡ step.Fault f) × RefusesAgain old new piece rest f)
    → ((f : Fault) × (old.phase ≡ Refused f)) ⊎ HasNotRefused old
    → StepsTo old new piece rest s
steps_by old new piece rest s k again (inl x) =
    let a = again x.0 x.1 in subst (λ (r : Step). StepsTo old new piece rest r) (sym a.0) (inr a.1)
steps_by old new piece rest s k again (inr n) = steps_now old new piece rest s n k

pub steps_to : (old new : WalkerState) (piece rest : List ℕ) (s : Step) → Steps old new piece rest s
    → ((f : Fault) → old.phase ≡ Refused f → (s ≡ step.Fault f) × RefusesAgain old new piece rest f)
    → StepsTo old new piece rest s
steps_to old new piece rest s k again = steps_by old new piece rest s k again (refused_before old.phase)

-- ---- what is known of a step that yielded an event

pub walked_event : (old new : WalkerState) (piece rest : List ℕ) (e : Event) → YieldsNext old new piece rest e
    → WalksOver old new piece rest (event_value_of e ∷ [])
walked_event old new piece rest e x = record {
  taken = x.takes.taken;
  piece_is = x.takes.piece_is;
  framing = x.takes.framing;
  stands = x.stands;
}

pub event_offset : (old new : WalkerState) (piece rest : List ℕ) (e : Event) → YieldsNext old new piece rest e
    → new.offset + length rest ≡ old.offset + length piece
event_offset old new piece rest e x =
    omega (arith, x.takes.offset, ap length x.takes.piece_is, length-append x.takes.taken rest)
