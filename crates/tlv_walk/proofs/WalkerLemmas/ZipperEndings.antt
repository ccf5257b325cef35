-- The end of the input, or an octet that is refused, after what a walker has taken, if no event is waiting.
use Rattle.std.proofs.Common.{◌≡◌, ℕ, true, false, List, [], ◌∷◌, ◌++◌, ◌+◌, length, refl, sym, ap, ◌∙◌, subst, arith}
use Rattle.tlv_head.specs.declared.fault.FaultCode.{FaultCode}
use Rattle.tlv_head.specs.declared.fault.FaultCode.TheVariants.{Empty, Short}
use Rattle.tlv_walk.specs.Stack.{FrameValue}
use Rattle.tlv_walk.specs.declared.ending.Ending.TheVariants.{Done}
use Rattle.tlv_walk.specs.declared.framing.Framing.{Framing}
use Rattle.tlv_walk.specs.WalkerState.{Between, InBitString, InEndOctets, InHeader, InPrimitive, PhaseValue}
use Rattle.tlv_walk.specs.WalkerState.{WalkerState}
use Rattle.tlv_walk.specs.Ending.{IsEnding, IsRefusedAt, done, empty, fault_ending, short, OpenEnd, open_end}
use Rattle.tlv_walk.specs.Events.{EventValue}
use Rattle.tlv_walk.specs.Forest.{Forest, NoMore, OpenPrimitive, OpenBitString, OpenHeader, OpenEndOctets, has_element}
use Rattle.tlv_walk.specs.Forest.{is_whole, spelling}
use Rattle.tlv_walk.proofs.WalkerLemmas.Waiting.{EventWaits, EventWaitsIn}
use Rattle.tlv_walk.specs.Place.{Place, top_place}
use Rattle.tlv_walk.specs.Private.Zipper.{BitStringTail, NoTail, HasZipper, PrimitiveTail, EndOctetsTail, HeaderTail}
use Rattle.tlv_walk.specs.Private.Zipper.{IsPhaseOf, Layer, Tail, Zipper, zipper_has_element, frames_of, place_in}
use Rattle.tlv_walk.specs.Private.Zipper.{place_of}
use Rattle.tlv_walk.specs.Private.Zipper.{spelling_of_tail, stack_of}
use Rattle.tlv_walk.proofs.GrammarLemmas.Endings.{ending-by, halt-ending}
use Rattle.tlv_walk.proofs.GrammarLemmas.Faults.{fault-refused}
use Rattle.tlv_walk.proofs.GrammarLemmas.PushSteps.{Spells}
use Rattle.tlv_walk.proofs.GrammarLemmas.Readings.{IsHalt}
use Rattle.tlv_walk.proofs.GrammarLemmas.ElementEnds.{end_in, settled-within}
use Rattle.tlv_walk.proofs.WalkerLemmas.Places.{walker-offset}
use Rattle.tlv_walk.proofs.WalkerLemmas.ZipperReading.{contents-less, later_place, state-reading, state-spells}
use Rattle.tlv_walk.proofs.WalkerLemmas.Zipper.{followed_by, followed_by-none, reading_in, reading_of}
use Rattle.tlv_walk.proofs.WalkerLemmas.Zipper.{open_end-followed_by}
use Rattle.tlv_walk.proofs.WalkerLemmas.Zipper.{open_end-within, whole-followed_by, whole-within, forest_in_layers}

-- what is open after the whole elements, as a forest: of a primitive, one that lacks contents octets
abbrev pub tail_forest : Tail → Forest
tail_forest NoTail = NoMore
tail_forest (PrimitiveTail h c) = OpenPrimitive h c
tail_forest (BitStringTail h) = OpenBitString h
tail_forest (HeaderTail octets) = OpenHeader octets
tail_forest EndOctetsTail = OpenEndOctets

-- the whole elements end at the offset: no element is filled there
filled-at : (w : Framing) (ls : List Layer) (here : Forest) (offset : ℕ) → offset ≡ end_in w ls here + 0
    → (EventWaitsIn Between (frames_of w ls) offset → ⊥)
    → EventWaitsIn Between (frames_of w ls) (end_in w ls here) → ⊥
filled-at w ls here offset e n f =
    let there : end_in w ls here ≡ offset =
    omega arith in n (subst (λ (k : ℕ). EventWaitsIn Between (frames_of w ls) k) there f)

-- if nothing is waiting, no element has ended
reading-within : (w : Framing) (ls : List Layer) (here : Forest) (f : PhaseValue) (t : Tail) (offset : ℕ)
    → IsPhaseOf f t (later_place w ls here)
    → offset ≡ (later_place w ls here).offset + length (spelling_of_tail t)
    → (EventWaitsIn f (stack_of w ls (later_place w ls here) t) offset → ⊥)
    → reading_in ls here t ≡ forest_in_layers ls (followed_by here (tail_forest t))
reading-within w ls here Between NoTail offset j e n =
    settled-within w ls here (filled-at w ls here offset e n) ∙ ap (forest_in_layers ls) (sym (followed_by-none here))
reading-within w ls here (InPrimitive left) (PrimitiveTail h c) offset j e n =
    rw (contents-less _ h c left j n) refl
reading-within w ls here (InHeader r) (HeaderTail octets) offset j e n = refl
reading-within w ls here InBitString (BitStringTail h) offset j e n = refl
reading-within w ls here InEndOctets EndOctetsTail offset j e n = refl
reading-within w ls here f t offset j e n = absurd j

-- so what a walker with nothing waiting has read is its layers, its whole elements and what is open
pub state-within : (w : WalkerState) (b : List ℕ) (yielded : List EventValue) (s : Zipper) → HasZipper w b yielded s
    → (EventWaits w → ⊥) → reading_of s ≡ forest_in_layers s.layers (followed_by s.here (tail_forest s.tail))
state-within w b yielded s h n =
    reading-within w.framing s.layers s.here w.phase s.tail w.offset h.phase (walker-offset w b yielded s h)
    (λ i. n (subst (λ (stack : List FrameValue). EventWaitsIn w.phase stack w.offset) (sym h.stack) i))

-- ---- the open end

-- what is open after the whole elements is the open end
open_end-tail : (p : Place) (t : Tail) → open_end p (tail_forest t) ≡ record { place = p; forest = tail_forest t }
open_end-tail p NoTail = refl
open_end-tail p (PrimitiveTail h c) = refl
open_end-tail p (BitStringTail h) = refl
open_end-tail p (HeaderTail octets) = refl
open_end-tail p EndOctetsTail = refl

-- the open end of a zipper: what is open after its whole elements
abbrev pub zipper_end : Framing → Zipper → OpenEnd
zipper_end w s = record { place = place_of w s; forest = tail_forest s.tail }

-- the open end of the reading is that of the state
pub state-open_end : (w : WalkerState) (b : List ℕ) (yielded : List EventValue) (s : Zipper) → HasZipper w b yielded s
    → (EventWaits w → ⊥)
    → open_end (top_place w.framing) (reading_of s) ≡ zipper_end w.framing s
state-open_end w b yielded s h n =
    ap (λ (f : Forest). open_end (top_place w.framing) f) (state-within w b yielded s h n)
    ∙ open_end-within w.framing s.layers (followed_by s.here (tail_forest s.tail)) h.layers
    ∙ open_end-followed_by (place_in w.framing s.layers) s.here (tail_forest s.tail) h.here.whole
    ∙ open_end-tail (place_of w.framing s) s.tail

-- an octet with a cause of the list at the open end gives the ending, whatever follows
pub state-fault : (w : WalkerState) (b : List ℕ) (yielded : List EventValue) (s : Zipper) (x : ℕ) (rest : List ℕ)
    (code : FaultCode)
    → HasZipper w b yielded s → (EventWaits w → ⊥)
    → IsRefusedAt (zipper_end w.framing s) x code
    → IsEnding w.framing (b ++ x ∷ rest) (fault_ending code (length b))
state-fault w b yielded s x rest code h n k =
    let r : Spells (top_place w.framing) b (reading_of s) = state-spells w b yielded s h in
    let there : IsRefusedAt (open_end (top_place w.framing) (reading_of s)) x code =
    subst (λ (t : OpenEnd). IsRefusedAt t x code) (sym (state-open_end w b yielded s h n)) k in
    let halt : IsHalt w.framing (reading_of s) code (b ++ x ∷ rest) =
    record {
      obeys_grammar = r.obeys_grammar;
      octet = x;
      rest = rest;
      front = ap (λ (o : List ℕ). o ++ x ∷ rest) r.spelled;
      refused = fault-refused w.framing (reading_of s) x code r.obeys_grammar there;
    } in
    subst (λ (o : List ℕ). IsEnding w.framing (b ++ x ∷ rest) (fault_ending code (length o))) r.spelled
    (halt-ending w.framing (reading_of s) code (b ++ x ∷ rest) halt there)

-- ---- the end of the input

-- outside all elements that hold others, between encodings, the whole elements are the reading
outermost-reading : (w : Framing) (ls : List Layer) (here : Forest) (t : Tail)
    → IsPhaseOf Between t (later_place w ls here) → stack_of w ls (later_place w ls here) t ≡ []
    → reading_in ls here t ≡ here
outermost-reading w [] here NoTail j e = refl
outermost-reading w (l ∷ ls) here NoTail j e = absurd (cc)
outermost-reading w ls here t j e = absurd j

-- there an octet of an element came if one is in the reading
outermost-element : (w : Framing) (ls : List Layer) (here : Forest) (t : Tail)
    → IsPhaseOf Between t (later_place w ls here) → stack_of w ls (later_place w ls here) t ≡ []
    → zipper_has_element ls here t ≡ has_element here
outermost-element w [] here NoTail j e = refl
outermost-element w (l ∷ ls) here NoTail j e = absurd (cc)
outermost-element w ls here t j e = absurd j

-- what a walker has read between encodings and outside all elements that hold others
record IsOutermost (w : WalkerState) (b : List ℕ) (s : Zipper) : Type 0 where
  reading : reading_of s ≡ s.here
  element : has_element s.here ≡ w.has_element
  spelled : spelling (reading_of s) ≡ b

-- it is the whole elements there
state-outermost : (w : WalkerState) (b : List ℕ) (yielded : List EventValue) (s : Zipper) → HasZipper w b yielded s
    → w.phase ≡ Between → w.stack ≡ [] → IsOutermost w b s
state-outermost w b yielded s h e none =
    let j : IsPhaseOf Between s.tail (place_of w.framing s) =
    subst (λ (f : PhaseValue). IsPhaseOf f s.tail (place_of w.framing s)) e h.phase in
    let empty : stack_of w.framing s.layers (place_of w.framing s) s.tail ≡ [] = sym h.stack ∙ none in
    let r : Spells (top_place w.framing) b (reading_of s) = state-spells w b yielded s h in
    record {
      reading = outermost-reading w.framing s.layers s.here s.tail j empty;
      element = sym (outermost-element w.framing s.layers s.here s.tail j empty) ∙ sym h.element;
      spelled = r.spelled;
    }

-- there, after an octet of an element, the input is done
pub state-done : (w : WalkerState) (b : List ℕ) (yielded : List EventValue) (s : Zipper) → HasZipper w b yielded s
    → w.phase ≡ Between → w.stack ≡ [] → w.has_element ≡ true
    → IsEnding w.framing b Done
state-done w b yielded s h e none some =
    let o : IsOutermost w b s = state-outermost w b yielded s h e none in
    ending-by w.framing b (reading_of s) Done (state-reading w b yielded s h)
    (done o.spelled (ap has_element o.reading ∙ o.element ∙ some) (ap is_whole o.reading ∙ h.here.whole))

-- and if no octet of an element came, there is none
pub state-empty : (w : WalkerState) (b : List ℕ) (yielded : List EventValue) (s : Zipper) → HasZipper w b yielded s
    → w.phase ≡ Between → w.stack ≡ [] → w.has_element ≡ false
    → IsEnding w.framing b (fault_ending Empty (length b))
state-empty w b yielded s h e none no_element =
    let o : IsOutermost w b s = state-outermost w b yielded s h e none in
    ending-by w.framing b (reading_of s) _ (state-reading w b yielded s h)
    (empty o.spelled (ap has_element o.reading ∙ o.element ∙ no_element))

-- elsewhere something is open: an element that holds others, or what is after the whole elements
open-elsewhere : (w : Framing) (ls : List Layer) (here : Forest) (f : PhaseValue) (t : Tail)
    → IsPhaseOf f t (later_place w ls here)
    → (f ≡ Between → stack_of w ls (later_place w ls here) t ≡ [] → ⊥) → ls ≡ []
    → is_whole (tail_forest t) ≡ false
open-elsewhere w ls here Between NoTail j n e = absurd (n refl (ap (frames_of w) e))
open-elsewhere w ls here (InHeader r) (HeaderTail octets) j n e = refl
open-elsewhere w ls here (InPrimitive left) (PrimitiveTail h c) j n e = refl
open-elsewhere w ls here InBitString (BitStringTail h) j n e = refl
open-elsewhere w ls here InEndOctets EndOctetsTail j n e = refl
open-elsewhere w ls here f t j n e = absurd j

-- there the input is too short
pub state-short : (w : WalkerState) (b : List ℕ) (yielded : List EventValue) (s : Zipper) → HasZipper w b yielded s
    → (EventWaits w → ⊥) → (w.phase ≡ Between → w.stack ≡ [] → ⊥)
    → IsEnding w.framing b (fault_ending Short (length b))
state-short w b yielded s h n outside =
    let r : Spells (top_place w.framing) b (reading_of s) = state-spells w b yielded s h in
    let part : is_whole (forest_in_layers s.layers (followed_by s.here (tail_forest s.tail))) ≡ false =
    whole-within w.framing s.layers (followed_by s.here (tail_forest s.tail)) h.layers
    (λ e. whole-followed_by s.here (tail_forest s.tail) h.here.whole
    ∙ open-elsewhere w.framing s.layers s.here w.phase s.tail h.phase (λ p q. outside p (h.stack ∙ q)) e) in
    ending-by w.framing b (reading_of s) _ (state-reading w b yielded s h)
    (short r.spelled (ap is_whole (state-within w b yielded s h n) ∙ part))
