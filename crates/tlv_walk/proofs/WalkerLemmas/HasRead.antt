-- What a walker returns of what it has read.
use Rattle.std.proofs.Common.{◌≡◌, ℕ, List, ◌++◌, ◌∷◌, length, sym, ap, ◌∙◌, subst}
use Rattle.tlv_head.specs.declared.fault.Fault.{Fault}
use Rattle.tlv_walk.specs.declared.ending.Ending.{Ending}
use Rattle.tlv_walk.specs.declared.ending.Ending.TheVariants as ending
use Rattle.tlv_walk.specs.declared.framing.Framing.{Framing}
use Rattle.tlv_walk.specs.Ending.{HasEnding, IsEnding}
use Rattle.tlv_walk.specs.Events.{EventValue}
use Rattle.tlv_walk.specs.Forest.{Forest}
use Rattle.tlv_walk.specs.WalkerState.{WalkerState, PhaseValue, Refused}
use Rattle.tlv_walk.specs.Walker.{unused_offset, depth_of, IsIdle, Stands, HasRead, StandsAtEnd, refused_one, refused}
use Rattle.tlv_walk.specs.Walker.{took, took_all, IfRefused, IfStands}
use Rattle.tlv_walk.specs.Place.{Place}
use Rattle.tlv_walk.specs.Private.Zipper.{IsPhaseOf, Tail, place_of}
use Rattle.tlv_walk.specs.Wrappers.{first_without_wrapper}
use Rattle.tlv_walk.proofs.WalkerLemmas.Depths.{state-depth}
use Rattle.tlv_walk.proofs.GrammarLemmas.Readings.{reading-unique}
use Rattle.tlv_walk.proofs.GrammarLemmas.OneEnding.{shows-soundness}
use Rattle.tlv_walk.proofs.WalkerLemmas.ZipperReading.{state-reading}
use Rattle.tlv_walk.proofs.EventLemmas.UnusedOffset.{stands_unused}
use Rattle.tlv_walk.proofs.WalkerLemmas.Waiting.{idle-none_waits}

pub read_depth : (w : WalkerState) (b : List ℕ) (f : Forest) → HasRead w b f → IsIdle w → length w.stack ≡ depth_of f
read_depth w b f (took yielded st e) none =
    state-depth w b yielded st.private_state.zipper st.private_state.has_zipper (idle-none_waits w none)
    ∙ ap depth_of
    (reading-unique w.framing b _ st.has_events.reading
    (state-reading w b yielded st.private_state.zipper st.private_state.has_zipper) st.has_events.is_reading
    ∙ e)
read_depth w b f (refused x yielded g st e) none = st.depth ∙ ap depth_of e

pub read_offset : (w : WalkerState) (b : List ℕ) (f : Forest) → HasRead w b f → w.offset ≡ length b
read_offset w b f (took yielded st e) = st.private_state.has_zipper.offset
read_offset w b f (refused x yielded g st e) = st.offset

pub read_unused : (w : WalkerState) (b : List ℕ) (f : Forest) → HasRead w b f
    → unused_offset w ≡ first_without_wrapper w.framing.inside f
read_unused w b f (took yielded st e) = stands_unused w b yielded st ∙ ap (first_without_wrapper w.framing.inside) e
read_unused w b f (refused x yielded g st e) = st.unused ∙ ap (first_without_wrapper w.framing.inside) e

-- a walker that stands for octets was refused none
pub never_refused : (w : WalkerState) (b : List ℕ) (yielded : List EventValue) (f : Fault) → Stands w b yielded
    → w.phase ≡ Refused f → ⊥
never_refused w b yielded f st e =
    no_phase st.private_state.zipper.tail (place_of w.framing st.private_state.zipper)
    (subst
    (λ (p : PhaseValue). IsPhaseOf p st.private_state.zipper.tail (place_of w.framing st.private_state.zipper))
    e st.private_state.has_zipper.phase)
  where
    no_phase : (t : Tail) (p : Place) → IsPhaseOf (Refused f) t p → ⊥
    no_phase t p h = h

-- an ending shows whether the input is sound
pub shown_ending : (framing : Framing) (o : List ℕ) (result : Ending) → IsEnding framing o result
    → HasEnding framing o result
shown_ending framing o result e = record { is_ending = e; soundness = shows-soundness framing o result e }

-- at the end of the input, also if an octet was refused
ends_by : (w : WalkerState) (o : List ℕ) (yielded : List EventValue) (result : Ending)
    → ((b : List ℕ) (yielded : List EventValue) → Stands w b yielded → IsEnding w.framing b result)
    → ((f : Fault) → w.phase ≡ Refused f → result ≡ ending.Fault f) → StandsAtEnd w o yielded
    → IsEnding w.framing o result
ends_by w o yielded result stands failed (took_all st none) = stands o yielded st
ends_by w o yielded result stands failed (refused_one f at) =
    subst (λ (l : List ℕ). IsEnding w.framing l result) at.octets_are
    (subst (λ (k : Ending). IsEnding w.framing (at.taken ++ at.octet ∷ at.others) k) (sym (failed f at.stands.phase))
    (at.stands.refused.ends at.others))

-- what a walker returns at the end of an input is the ending of that input, also if an octet was refused
pub has_ending : (w : WalkerState) (o : List ℕ) (yielded : List EventValue) (result : Ending)
    → IfStands w (λ b yielded. HasEnding w.framing b result)
    → IfRefused w (λ f. result ≡ ending.Fault f) → StandsAtEnd w o yielded
    → HasEnding w.framing o result
has_ending w o yielded result stands failed at =
    shown_ending w.framing o result
    (ends_by w o yielded result (λ b yielded st. (stands b yielded st).is_ending) failed at)
