-- What a walker returns at the end of the input.
use Rattle.std.proofs.Common.{◌≡◌, ℕ, true, false, List, [], sym, subst}
use Rattle.tlv_head.specs.declared.fault.FaultCode.TheVariants.{Empty, Short}
use Rattle.tlv_walk.specs.declared.ending.Ending.TheVariants as ending
use Rattle.tlv_walk.specs.WalkerState.{Between, WalkerState}
use Rattle.tlv_walk.specs.Walker.{Stands}
use Rattle.tlv_walk.specs.Ending.{IsEnding, fault_at, fault_ending}
use Rattle.tlv_walk.specs.Events.{EventValue}
use Rattle.tlv_walk.proofs.WalkerLemmas.Waiting.{EventWaits}
use Rattle.tlv_walk.proofs.WalkerLemmas.ZipperEndings.{state-done, state-empty, state-short}

pub finish_done : (w : WalkerState) (b : List ℕ) (yielded : List EventValue) → Stands w b yielded
    → w.phase ≡ Between → w.stack ≡ [] → w.has_element ≡ true → IsEnding w.framing b ending.Done
finish_done w b yielded st e none some =
    state-done w b yielded st.private_state.zipper st.private_state.has_zipper e none some

pub finish_empty : (w : WalkerState) (b : List ℕ) (yielded : List EventValue) → Stands w b yielded
    → w.phase ≡ Between → w.stack ≡ [] → w.has_element ≡ false
    → IsEnding w.framing b (ending.Fault (fault_at Empty w.offset))
finish_empty w b yielded st e none no_element =
    subst (λ (n : ℕ). IsEnding w.framing b (fault_ending Empty n)) (sym st.private_state.has_zipper.offset)
    (state-empty w b yielded st.private_state.zipper st.private_state.has_zipper e none no_element)

pub finish_short : (w : WalkerState) (b : List ℕ) (yielded : List EventValue) → Stands w b yielded
    → (EventWaits w → ⊥) → (w.phase ≡ Between → w.stack ≡ [] → ⊥)
    → IsEnding w.framing b (ending.Fault (fault_at Short w.offset))
finish_short w b yielded st idle inside =
    subst (λ (n : ℕ). IsEnding w.framing b (fault_ending Short n)) (sym st.private_state.has_zipper.offset)
    (state-short w b yielded st.private_state.zipper st.private_state.has_zipper idle inside)
