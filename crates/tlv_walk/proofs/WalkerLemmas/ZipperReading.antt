-- What a walker stands for: the reading of its octets, whose events are those yielded and those waiting.
use Rattle.std.proofs.Common.{◌≡◌, inl, inr, ℕ, ◌+◌, true, false, eqb, List, [], ◌∷◌, ◌++◌, length, refl, sym, ap, ◌∙◌}
use Rattle.std.proofs.Common.{arith, append_assoc, append-nil, length-append, eq-eqb, ne_eqb}
use Rattle.std.proofs.lemmas.Bool.{cases_eq}
use Rattle.tlv_head.specs.declared.header.Size.TheVariants.{Definite}
use Rattle.tlv_head.specs.Header.{HeaderValue, announced_length, octets_of}
use Rattle.tlv_walk.specs.Stack.{FrameValue}
use Rattle.tlv_walk.specs.declared.framing.Framing.{Framing}
use Rattle.tlv_walk.specs.WalkerState.{Between, InBitString, InEndOctets, InHeader, InPrimitive, PhaseValue}
use Rattle.tlv_walk.specs.WalkerState.{WalkerState, new_walker}
use Rattle.tlv_walk.specs.Walker.{Stands, filled_end_events, waiting_events, waiting_events_in}
use Rattle.tlv_walk.specs.Events.{AreEqualJoined, Begin, Bytes, End, EventValue, events, single_octets}
use Rattle.tlv_walk.specs.Forest.{Forest, NoMore, Primitive, OpenPrimitive, OpenBitString, OpenHeader, OpenEndOctets}
use Rattle.tlv_walk.specs.Forest.{is_whole, spelling}
use Rattle.tlv_walk.specs.Private.WrapperCount.{wrapper_count_after}
use Rattle.tlv_walk.specs.Place.{ObeysGrammar, Place, place_after, top_place}
use Rattle.tlv_walk.specs.Reading.{IsReading}
use Rattle.tlv_walk.specs.Private.Zipper.{AreLayers, AreWhole, BitStringTail, NoTail, HasZipper, PrimitiveTail}
use Rattle.tlv_walk.specs.Private.Zipper.{EndOctetsTail, HeaderTail, IsContents, IsPhaseOf, Layer, Tail, Zipper}
use Rattle.tlv_walk.specs.Private.Zipper.{events_of_layers, events_of_tail, events_of_zipper, frames_of, place_in}
use Rattle.tlv_walk.specs.Private.Zipper.{place_of, spelling_of_layers, spelling_of_tail, spelling_of_zipper, stack_of}
use Rattle.tlv_walk.specs.Inside.{are_rising}
use Rattle.tlv_walk.specs.Wrappers.{entered_offsets}
use Rattle.tlv_walk.proofs.EventLemmas.JoinedEvents.{apart-before, apart-from_joined, joined-from_apart}
use Rattle.tlv_walk.proofs.GrammarLemmas.Bounds.{within-le}
use Rattle.tlv_walk.proofs.GrammarLemmas.PushSteps.{Spells}
use Rattle.tlv_walk.proofs.GrammarLemmas.Readings.{Going, run-reading}
use Rattle.tlv_walk.proofs.GrammarLemmas.ElementEnds.{end_in, settled-spells}
use Rattle.tlv_walk.proofs.WalkerLemmas.Places.{walker-offset}
use Rattle.tlv_walk.proofs.WalkerLemmas.Zipper.{followed_by, grammar-followed_by, grammar-within, reading_in}
use Rattle.tlv_walk.proofs.WalkerLemmas.Zipper.{reading_of}
use Rattle.tlv_walk.proofs.WalkerLemmas.Zipper.{room-if_open, settled_forest, spelling-followed_by, spelling-within}
use Rattle.tlv_walk.proofs.WalkerLemmas.Zipper.{whole-followed_by, forest_in_layers}
use Rattle.tlv_walk.proofs.WalkerLemmas.ZipperEvents.{events-followed_by, events-settled, events-within}

-- after the whole elements of the innermost open one
abbrev pub later_place : Framing → List Layer → Forest → Place
later_place w ls here = place_after (place_in w ls) (length (spelling here))

-- the place after whole elements is where they end
pub followed_by-end : (w : Framing) (ls : List Layer) (here g : Forest) → is_whole here ≡ true
    → end_in w ls (followed_by here g) ≡ (later_place w ls here).offset + length (spelling g)
followed_by-end w ls here g e =
    omega (arith, ap length (spelling-followed_by here g e), length-append (spelling here) (spelling g))

-- ---- whole elements, and then an open end

-- the forest obeys the grammar, with these octets
grammar-spell : (w : Framing) (ls : List Layer) (here g : Forest) → AreLayers w ls → AreWhole (place_in w ls) here
    → ObeysGrammar (later_place w ls here) g → is_whole g ≡ false
    → Spells (top_place w) (spelling_of_layers ls ++ (spelling here ++ spelling g))
    (forest_in_layers ls (followed_by here g))
grammar-spell w ls here g a i v e = record {
  obeys_grammar =
      grammar-within w ls (followed_by here g) a (grammar-followed_by (place_in w ls) here g i v)
      (room-if_open ls (followed_by here g) (whole-followed_by here g i.whole ∙ e));
  spelled =
      spelling-within w ls (followed_by here g) a
      ∙ ap (λ (t : List ℕ). spelling_of_layers ls ++ t) (spelling-followed_by here g i.whole);
}

-- they have these events
open-events : (w : Framing) (ls : List Layer) (here g : Forest) → AreLayers w ls → AreWhole (place_in w ls) here
    → (events_of_layers ls ++ (events here ++ events g)) ++ [] ≡ events (forest_in_layers ls (followed_by here g))
open-events w ls here g a i =
    append-nil _
    ∙ sym (events-within w ls (followed_by here g) a
    ∙ ap (λ (t : List EventValue). events_of_layers ls ++ t) (events-followed_by here g i.whole))

-- ---- whole elements, and then others that are whole

-- all are whole
more-whole : (w : Framing) (ls : List Layer) (here g : Forest) → AreWhole (place_in w ls) here
    → AreWhole (later_place w ls here) g → AreWhole (place_in w ls) (followed_by here g)
more-whole w ls here g i j = record {
  obeys_grammar = grammar-followed_by (place_in w ls) here g i j.obeys_grammar;
  whole = whole-followed_by here g i.whole ∙ j.whole;
}

-- the forest obeys the grammar, with these octets
whole-spells : (w : Framing) (ls : List Layer) (here g : Forest) → AreLayers w ls → AreWhole (place_in w ls) here
    → AreWhole (later_place w ls here) g
    → Spells (top_place w) (spelling_of_layers ls ++ (spelling here ++ spelling g))
    (settled_forest ls (followed_by here g))
whole-spells w ls here g a i j =
    let r : Spells (top_place w) (spelling_of_layers ls ++ spelling (followed_by here g))
    (settled_forest ls (followed_by here g)) =
    settled-spells w ls (followed_by here g) a (more-whole w ls here g i j) in
    record {
      obeys_grammar = r.obeys_grammar;
      spelled = r.spelled ∙ ap (λ (t : List ℕ). spelling_of_layers ls ++ t) (spelling-followed_by here g i.whole);
    }

-- they have these events, and then the ends of the elements that are filled
whole-events : (w : Framing) (ls : List Layer) (here g : Forest) (offset : ℕ) → AreLayers w ls
    → AreWhole (place_in w ls) here → AreWhole (later_place w ls here) g
    → offset ≡ (later_place w ls here).offset + length (spelling g)
    → events (settled_forest ls (followed_by here g))
    ≡ (events_of_layers ls ++ (events here ++ events g)) ++ filled_end_events offset (frames_of w ls)
whole-events w ls here g offset a i j e =
    events-settled w ls (followed_by here g) a (more-whole w ls here g i j)
    ∙ ap (λ (t : List EventValue). (events_of_layers ls ++ t)
    ++ filled_end_events (end_in w ls (followed_by here g)) (frames_of w ls))
    (events-followed_by here g i.whole)
    ∙ ap (λ (n : ℕ). (events_of_layers ls ++ (events here ++ events g)) ++ filled_end_events n (frames_of w ls))
    (followed_by-end w ls here g i.whole ∙ sym e)

-- ---- a primitive

-- with all its contents octets it is whole
contents-whole : (p : Place) (h : HeaderValue) (c : List ℕ) (left : ℕ) → IsContents p h c left → left ≡ 0
    → AreWhole p (Primitive h c NoMore)
contents-whole p h c left i e =
    let size : length c + left ≡ length c = omega arith in
    record {
      obeys_grammar = (
        (
          record { header = i.header; holding = i.holding; fits = rw size at i.fits },
          i.size ∙ ap Definite size,
        ),
        tt,
      );
      whole = refl;
    }

-- else it lacks contents octets
contents-open_primitive : (p : Place) (h : HeaderValue) (c : List ℕ) (left : ℕ) → IsContents p h c left
    → (left ≡ 0 → ⊥) → ObeysGrammar p (OpenPrimitive h c)
contents-open_primitive p h c left i n = (
  record {
    header = i.header;
    holding = i.holding;
    fits = within-le p.bound _ _ (omega (arith, ap announced_length i.size)) i.fits;
  },
  omega (arith, ap announced_length i.size),
)

-- the test of its length says which
contents-all : (p : Place) (h : HeaderValue) (c : List ℕ) (left : ℕ) → IsContents p h c left → left ≡ 0
    → eqb (length c) (announced_length h.size) ≡ true
contents-all p h c left i e =
    let all : announced_length h.size ≡ length c + left =
    ap announced_length i.size in eq-eqb (length c) (announced_length h.size) (omega arith)

pub contents-less : (p : Place) (h : HeaderValue) (c : List ℕ) (left : ℕ) → IsContents p h c left → (left ≡ 0 → ⊥)
    → eqb (length c) (announced_length h.size) ≡ false
contents-less p h c left i n =
    let all : announced_length h.size ≡ length c + left = ap announced_length i.size in
    ne_eqb (length c) (announced_length h.size) (λ z. n (omega arith))

-- ---- by what is open

-- what holds of what is open after the whole elements, whatever the phase
abbrev pub IsTailAt : Place → Tail → Type 0
IsTailAt p NoTail = Unit {0}
IsTailAt p (PrimitiveTail h c) = (left : ℕ) × IsContents p h c left
IsTailAt p (BitStringTail h) = ObeysGrammar p (OpenBitString h)
IsTailAt p (HeaderTail octets) = ObeysGrammar p (OpenHeader octets)
IsTailAt p EndOctetsTail = ObeysGrammar p OpenEndOctets

-- the phase says so
pub phase-tail : (f : PhaseValue) (t : Tail) (p : Place) → IsPhaseOf f t p → IsTailAt p t
phase-tail Between NoTail p i = tt
phase-tail (InHeader r) (HeaderTail octets) p i = i.3
phase-tail (InPrimitive left) (PrimitiveTail h c) p i = (left, i)
phase-tail InBitString (BitStringTail h) p i = i
phase-tail InEndOctets EndOctetsTail p i = i
phase-tail f t p i = absurd i

-- what a state has been read as obeys the grammar, with the state's octets
reading-spells : (w : Framing) (ls : List Layer) (here : Forest) (t : Tail) → AreLayers w ls
    → AreWhole (place_in w ls) here → IsTailAt (later_place w ls here) t
    → Spells (top_place w) (spelling_of_layers ls ++ (spelling here ++ spelling_of_tail t)) (reading_in ls here t)
reading-spells w ls here NoTail a i j =
    let r : Spells (top_place w) (spelling_of_layers ls ++ spelling here) (settled_forest ls here) =
    settled-spells w ls here a i in
    record {
      obeys_grammar = r.obeys_grammar;
      spelled = r.spelled ∙ ap (λ (t : List ℕ). spelling_of_layers ls ++ t) (sym (append-nil (spelling here)));
    }
reading-spells w ls here (PrimitiveTail h c) a i j = elim (cases_eq j.0 0) [
  | inl z ↦
      let r : Spells (top_place w) (spelling_of_layers ls ++ (spelling here ++ (octets_of h ++ (c ++ []))))
      (settled_forest ls (followed_by here (Primitive h c NoMore))) =
      whole-spells w ls here (Primitive h c NoMore) a i (contents-whole _ h c j.0 j.1 z) in
      rw (contents-all _ h c j.0 j.1 z)
      (record {
        obeys_grammar = r.obeys_grammar;
        spelled =
            r.spelled
            ∙ ap (λ (t : List ℕ). spelling_of_layers ls ++ (spelling here ++ (octets_of h ++ t))) (append-nil c);
      })
  | inr n ↦
      rw (contents-less _ h c j.0 j.1 n)
      (grammar-spell w ls here (OpenPrimitive h c) a i (contents-open_primitive _ h c j.0 j.1 n) refl)
]
reading-spells w ls here (BitStringTail h) a i j = grammar-spell w ls here (OpenBitString h) a i j refl
reading-spells w ls here (HeaderTail octets) a i j = grammar-spell w ls here (OpenHeader octets) a i j refl
reading-spells w ls here EndOctetsTail a i j = grammar-spell w ls here OpenEndOctets a i j refl

-- a primitive's end, yielded after what has been yielded of it
contents-end : (around earlier ends : List EventValue) (h : HeaderValue) (c : List ℕ)
    → (around ++ (earlier ++ (Begin h ∷ Bytes c ∷ []))) ++ (End ∷ ends)
    ≡ (around ++ (earlier ++ (Begin h ∷ Bytes c ∷ End ∷ []))) ++ ends
contents-end around earlier ends h c = simp append_assoc

-- its events are the state's, and then those waiting
reading-events : (w : Framing) (ls : List Layer) (here : Forest) (f : PhaseValue) (t : Tail) (offset : ℕ)
    → AreLayers w ls → AreWhole (place_in w ls) here → IsPhaseOf f t (later_place w ls here)
    → offset ≡ (later_place w ls here).offset + length (spelling_of_tail t)
    → (events_of_layers ls ++ (events here ++ events_of_tail t))
    ++ waiting_events_in f (stack_of w ls (later_place w ls here) t) offset
    ≡ events (reading_in ls here t)
reading-events w ls here Between NoTail offset a i j e =
    let there : offset ≡ end_in w ls here = omega arith in
    rw (append-nil (events here), there) (sym (events-settled w ls here a i))
reading-events w ls here (InPrimitive left) (PrimitiveTail h c) offset a i j e = elim (cases_eq left 0) [
  | inl z ↦
      let there : offset ≡ (later_place w ls here).offset + length (octets_of h ++ (c ++ [])) =
      e ∙ ap (λ (t : List ℕ). (later_place w ls here).offset + length (octets_of h ++ t)) (sym (append-nil c)) in
      rw (contents-all _ h c left j z, eq-eqb left 0 z)
      (contents-end (events_of_layers ls) (events here) (filled_end_events offset (frames_of w ls)) h c
      ∙ sym (whole-events w ls here (Primitive h c NoMore) offset a i (contents-whole _ h c left j z) there))
  | inr n ↦ rw (contents-less _ h c left j n, ne_eqb left 0 n) (open-events w ls here (OpenPrimitive h c) a i)
]
reading-events w ls here (InHeader r) (HeaderTail octets) offset a i j e =
    open-events w ls here (OpenHeader octets) a i
reading-events w ls here InBitString (BitStringTail h) offset a i j e =
    open-events w ls here (OpenBitString h) a i
reading-events w ls here InEndOctets EndOctetsTail offset a i j e = open-events w ls here OpenEndOctets a i
reading-events w ls here f t offset a i j e = absurd j

-- ---- of a walker

-- what its state has been read as obeys the grammar, with the octets taken
pub state-spells : (w : WalkerState) (b : List ℕ) (yielded : List EventValue) (s : Zipper) → HasZipper w b yielded s
    → Spells (top_place w.framing) b (reading_of s)
state-spells w b yielded s h =
    let r : Spells (top_place w.framing) (spelling_of_zipper s) (reading_of s) =
    reading-spells w.framing s.layers s.here s.tail h.layers h.here
    (phase-tail w.phase s.tail (place_of w.framing s) h.phase) in
    record { obeys_grammar = r.obeys_grammar; spelled = r.spelled ∙ h.spelled }

-- it is their reading
pub state-reading : (w : WalkerState) (b : List ℕ) (yielded : List EventValue) (s : Zipper) → HasZipper w b yielded s
    → IsReading w.framing b (reading_of s)
state-reading w b yielded s h = run-reading w.framing (Going (reading_of s)) b (state-spells w b yielded s h)

-- what was yielded and what is waiting are its events
pub state-events : (w : WalkerState) (b : List ℕ) (yielded : List EventValue) (s : Zipper) → HasZipper w b yielded s
    → AreEqualJoined (yielded ++ waiting_events w) (events (reading_of s))
state-events w b yielded s h =
    let all : events_of_zipper s ++ waiting_events w ≡ events (reading_of s) =
    ap (λ (stack : List FrameValue). events_of_zipper s ++ waiting_events_in w.phase stack w.offset) h.stack
    ∙ reading-events w.framing s.layers s.here w.phase s.tail w.offset h.layers h.here h.phase
    (walker-offset w b yielded s h) in
    joined-from_apart (yielded ++ waiting_events w) (events (reading_of s))
    (apart-before yielded (events_of_zipper s) (waiting_events w)
    (apart-from_joined yielded (events_of_zipper s) h.same_events)
    ∙ ap single_octets all)

-- a walker with a state stands for what was yielded and what was taken
pub stands : (w : WalkerState) (b : List ℕ) (yielded : List EventValue) (s : Zipper) → HasZipper w b yielded s
    → are_rising 0 w.framing.inside ≡ true
    → w.wrapper_count ≡ wrapper_count_after w.framing.inside 0 (entered_offsets yielded)
    → Stands w b yielded
stands w b yielded s h n k =
    record {
      has_events = record {
        reading = reading_of s;
        is_reading = state-reading w b yielded s h;
        all_events = state-events w b yielded s h;
      };
      private_state = record { zipper = s; has_zipper = h; rising = n; wrapper_count = k };
    }

-- the state of a new walker: nothing is open, and nothing came
abbrev pub new_state : Zipper
new_state = record { layers = []; here = NoMore; tail = NoTail }

-- a new walker has it
pub state-new : (framing : Framing) → HasZipper (new_walker framing) [] [] new_state
state-new framing = record {
  spelled = refl;
  offset = refl;
  stack = refl;
  layers = tt;
  here = record { obeys_grammar = tt; whole = refl };
  phase = tt;
  same_events = refl;
  element = refl;
}
