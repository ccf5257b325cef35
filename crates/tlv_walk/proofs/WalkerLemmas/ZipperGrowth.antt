-- A zipper as octets and events come to its open end: what it spells, what was yielded, and the tail that a phase has.
use Rattle.std.proofs.Common.{◌≡◌, ℕ, Bool, true, ◌||◌, List, [], ◌∷◌, ◌++◌, length, refl, sym, ap, ap₂, ◌∙◌, subst}
use Rattle.std.proofs.Common.{append_assoc, append-nil}
use Rattle.std.proofs.Math.Bool.{or-true}
use Rattle.tlv_head.specs.Header.{HeaderValue}
use Rattle.tlv_walk.specs.WalkerState.{Between, InEndOctets, InPrimitive, PhaseValue, WalkerState}
use Rattle.tlv_walk.specs.Events.{AreEqualJoined, EventValue, events, single_octets}
use Rattle.tlv_walk.specs.Forest.{Forest, NoMore, PaddingOctet, Primitive, Holder, OpenPrimitive, OpenHolder}
use Rattle.tlv_walk.specs.Forest.{OpenBitString, OpenHeader, OpenEndOctets, has_element, is_whole, spelling}
use Rattle.tlv_walk.specs.declared.framing.Framing.{Framing}
use Rattle.tlv_walk.specs.Private.WrapperCount.{next_wrapper_count, wrapper_count_after}
use Rattle.tlv_walk.specs.Wrappers.{entered_offsets}
use Rattle.tlv_walk.proofs.EventLemmas.Wrappers.{enters-append}
use Rattle.tlv_walk.specs.Place.{ObeysGrammar, Place, place_after}
use Rattle.tlv_walk.specs.Private.Zipper.{AreWhole, BitStringTail, NoTail, HasZipper, PrimitiveTail, EndOctetsTail}
use Rattle.tlv_walk.specs.Private.Zipper.{HeaderTail, IsPhaseOf, Layer, Tail, Zipper, has_element_before_tail}
use Rattle.tlv_walk.specs.Private.Zipper.{events_of_layers, place_of, spelling_of_layers}
use Rattle.tlv_walk.specs.Private.Yields.{Continues}
use Rattle.tlv_walk.proofs.EventLemmas.JoinedEvents.{apart-before, apart-from_joined, apart-more, joined-from_apart}
use Rattle.tlv_walk.proofs.GrammarLemmas.Spellings.{append_assoc-3}
use Rattle.tlv_walk.proofs.WalkerLemmas.Zipper.{followed_by, grammar-followed_by, spelling-followed_by}
use Rattle.tlv_walk.proofs.WalkerLemmas.Zipper.{whole-followed_by}
use Rattle.tlv_walk.proofs.WalkerLemmas.ZipperEvents.{events-followed_by}

-- events yielded one after another
pub yielded_more : (yielded es new es' : List EventValue) → AreEqualJoined yielded es
    → single_octets es' ≡ single_octets (es ++ new) → AreEqualJoined (yielded ++ new) es'
yielded_more yielded es new es' h e =
    joined-from_apart (yielded ++ new) es' (apart-before yielded es new (apart-from_joined yielded es h) ∙ sym e)

-- wrappers found one after another
pub found_in-append : (inside : List ℕ) (k : ℕ) (xs ys : List ℕ)
    → wrapper_count_after inside k (xs ++ ys) ≡ wrapper_count_after inside (wrapper_count_after inside k xs) ys
found_in-append inside k [] ys = refl
found_in-append inside k (x ∷ xs) ys = found_in-append inside (next_wrapper_count inside k x) xs ys

found_both : (u v w : WalkerState) (d e : List EventValue) → v.framing ≡ u.framing
    → v.wrapper_count ≡ wrapper_count_after u.framing.inside u.wrapper_count (entered_offsets d)
    → w.wrapper_count ≡ wrapper_count_after v.framing.inside v.wrapper_count (entered_offsets e)
    → w.wrapper_count ≡ wrapper_count_after u.framing.inside u.wrapper_count (entered_offsets (d ++ e))
found_both u v w d e same p q =
    q
    ∙ ap₂ (λ (f : Framing) (k : ℕ). wrapper_count_after f.inside k (entered_offsets e)) same p
    ∙ sym (ap (wrapper_count_after u.framing.inside u.wrapper_count) (enters-append d e)
    ∙ found_in-append u.framing.inside u.wrapper_count (entered_offsets d) (entered_offsets e))

pub continues_both : (u v w : WalkerState) (s t : List ℕ) (d e : List EventValue) → Continues u v s d
    → Continues v w t e → Continues u w (s ++ t) (d ++ e)
continues_both u v w s t d e f g = record {
  framing = g.framing ∙ f.framing;
  wrapper_count = found_both u v w d e f.framing f.wrapper_count g.wrapper_count;
  next_zipper = λ b yielded st has.
      let one = f.next_zipper b yielded st has in
      let two = g.next_zipper (b ++ s) (yielded ++ d) one.0 one.1 in (
        two.0,
        subst (λ (x : List ℕ). HasZipper w x (yielded ++ (d ++ e)) two.0) (append_assoc b s t)
            (subst (λ (x : List EventValue). HasZipper w ((b ++ s) ++ t) x two.0) (append_assoc yielded d e) two.1),
      );
}

-- the events of a state, if the open end goes on
pub yielded_after : (yielded : List EventValue) (ls : List Layer) (here : Forest) (old new more : List EventValue)
    → AreEqualJoined yielded (events_of_layers ls ++ (events here ++ old))
    → single_octets new ≡ single_octets (old ++ more)
    → AreEqualJoined (yielded ++ more) (events_of_layers ls ++ (events here ++ new))
yielded_after yielded ls here old new more h e =
    yielded_more yielded (events_of_layers ls ++ (events here ++ old)) more
    (events_of_layers ls ++ (events here ++ new)) h
    (apart-more (events_of_layers ls) (events here ++ new) (events here ++ old) more
    (apart-more (events here) new old more e))

-- its octets likewise
pub spelled_after : (ls : List Layer) (here : Forest) (old new t b : List ℕ) → new ≡ old ++ t
    → spelling_of_layers ls ++ (spelling here ++ old) ≡ b
    → spelling_of_layers ls ++ (spelling here ++ new) ≡ b ++ t
spelled_after ls here old new t b e f =
    ap (λ (s : List ℕ). spelling_of_layers ls ++ (spelling here ++ s)) e
    ∙ (sym (append_assoc-3 (spelling_of_layers ls) (spelling here) old t) ∙ ap (λ (s : List ℕ). s ++ t) f)

-- the same, if the open end is whole now
pub yielded_whole : (yielded : List EventValue) (ls : List Layer) (here new : Forest) (old more : List EventValue)
    → is_whole here ≡ true → AreEqualJoined yielded (events_of_layers ls ++ (events here ++ old))
    → single_octets (events new) ≡ single_octets (old ++ more)
    → AreEqualJoined (yielded ++ more) (events_of_layers ls ++ (events (followed_by here new) ++ []))
yielded_whole yielded ls here new old more whole h e =
    subst (λ (es : List EventValue). AreEqualJoined (yielded ++ more) (events_of_layers ls ++ es))
    (sym (append-nil (events (followed_by here new)) ∙ events-followed_by here new whole))
    (yielded_after yielded ls here old (events new) more h e)

pub spelled_whole : (ls : List Layer) (here more : Forest) (old t b : List ℕ) → is_whole here ≡ true
    → spelling more ≡ old ++ t → spelling_of_layers ls ++ (spelling here ++ old) ≡ b
    → spelling_of_layers ls ++ (spelling (followed_by here more) ++ []) ≡ b ++ t
spelled_whole ls here more old t b whole e f =
    ap (λ (s : List ℕ). spelling_of_layers ls ++ s)
    (append-nil (spelling (followed_by here more)) ∙ spelling-followed_by here more whole)
    ∙ spelled_after ls here old (spelling more) t b e f

-- whole elements, and then one more
pub are_whole : (p : Place) (here more : Forest) → AreWhole p here
    → ObeysGrammar (place_after p (length (spelling here))) more → is_whole more ≡ true
    → AreWhole p (followed_by here more)
are_whole p here more h o w = record {
  obeys_grammar = grammar-followed_by p here more h o;
  whole = whole-followed_by here more h.whole ∙ w;
}

-- an element came
pub element-either : (f g : Forest) → is_whole f ≡ true
    → has_element (followed_by f g) ≡ (has_element f || has_element g)
element-either NoMore g e = refl
element-either (PaddingOctet rest) g e = element-either rest g e
element-either (Primitive h c rest) g e = refl
element-either (Holder h inside rest) g e = refl
element-either (OpenPrimitive h c) g e = absurd (cc)
element-either (OpenHolder h inside) g e = absurd (cc)
element-either (OpenBitString h) g e = absurd (cc)
element-either (OpenHeader octets) g e = absurd (cc)
element-either OpenEndOctets g e = absurd (cc)

pub element-began : (ls : List Layer) (here more : Forest) → is_whole here ≡ true → has_element more ≡ true
    → has_element_before_tail ls (followed_by here more) ≡ true
element-began [] here more w e =
    element-either here more w ∙ (ap (λ (k : Bool). has_element here || k) e ∙ or-true (has_element here))
element-began (l ∷ ls) here more w e = refl

-- a state with this tail
abbrev pub with_tail : Zipper → Tail → Zipper
with_tail s t = record { layers = s.layers; here = s.here; tail = t }

pub tail_state : (w : WalkerState) (b : List ℕ) (yielded : List EventValue) (s : Zipper) (t : Tail) → s.tail ≡ t
    → HasZipper w b yielded s → HasZipper w b yielded (with_tail s t)
tail_state w b yielded s t e has = subst (λ (u : Tail). HasZipper w b yielded (with_tail s u)) e has

pub phase_at : (w : WalkerState) (b : List ℕ) (yielded : List EventValue) (s : Zipper) (f : PhaseValue) → w.phase ≡ f
    → HasZipper w b yielded s → IsPhaseOf f s.tail (place_of w.framing s)
phase_at w b yielded s f e has = subst (λ (g : PhaseValue). IsPhaseOf g s.tail (place_of w.framing s)) e has.phase

-- the tail in the contents of a primitive
pub contents_tail : (left : ℕ) (t : Tail) (p : Place) → IsPhaseOf (InPrimitive left) t p
    → (h : HeaderValue) × (c : List ℕ) × (t ≡ PrimitiveTail h c)
contents_tail left NoTail p x = absurd x
contents_tail left (PrimitiveTail h c) p x = (h, c, refl)
contents_tail left (BitStringTail h) p x = absurd x
contents_tail left (HeaderTail o) p x = absurd x
contents_tail left EndOctetsTail p x = absurd x

-- the tail between elements, and after the first of the end-of-contents octets
pub between_tail : (t : Tail) (p : Place) → IsPhaseOf Between t p → t ≡ NoTail
between_tail NoTail p x = refl
between_tail (PrimitiveTail h c) p x = absurd x
between_tail (BitStringTail h) p x = absurd x
between_tail (HeaderTail o) p x = absurd x
between_tail EndOctetsTail p x = absurd x

pub lone_tail : (t : Tail) (p : Place) → IsPhaseOf InEndOctets t p → t ≡ EndOctetsTail
lone_tail NoTail p x = absurd x
lone_tail (PrimitiveTail h c) p x = absurd x
lone_tail (BitStringTail h) p x = absurd x
lone_tail (HeaderTail o) p x = absurd x
lone_tail EndOctetsTail p x = refl

-- a state inside an element that has these layers
abbrev pub with_layers : Zipper → List Layer → Tail → Zipper
with_layers s ls t = record { layers = ls; here = s.here; tail = t }

-- the innermost element closes
abbrev pub closed_here : Layer → Forest → Forest
closed_here l inside = followed_by l.before (Holder l.header inside NoMore)
