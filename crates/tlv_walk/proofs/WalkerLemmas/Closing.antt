-- The innermost element of a walker's state ends.
use Rattle.std.proofs.Common.{◌≡◌, inl, inr, ℕ, ◌+◌, ◌-◌, ◌≤◌, Bool, true, false, not, if◌then◌else◌, List, [], ◌∷◌}
use Rattle.std.proofs.Common.{◌++◌, length, drop, Option, Some, None, refl, sym, ap, ◌∙◌, subst, arith, append_assoc}
use Rattle.std.proofs.Common.{append-nil, length-append}
use Rattle.std.proofs.lemmas.Bool.{false_from_ne_true, true≢false}
use Rattle.tlv_head.specs.declared.header.Size.{Size}
use Rattle.tlv_head.specs.declared.header.Size.TheVariants.{Definite, Indefinite}
use Rattle.tlv_head.specs.Header.{HeaderValue, announced_length, octets_of}
use Rattle.tlv_head.specs.HeaderSoFar.{AllowsSize}
use Rattle.tlv_walk.specs.WalkerState.{Between, InEndOctets, WalkerState}
use Rattle.tlv_walk.specs.Walker.{filled_end_event}
use Rattle.tlv_walk.specs.Events.{AreEqualJoined, Close, EventValue, Leave, closing_event, events}
use Rattle.tlv_walk.proofs.GrammarLemmas.Leads.{end_offset}
use Rattle.tlv_walk.specs.Events.{opening_events, single_octets}
use Rattle.tlv_walk.specs.Forest.{Forest, Holder, NoMore, OpenEndOctets, contents_length, end_octets, holder_extent, is_whole}
use Rattle.tlv_walk.specs.Forest.{opening, spelling}
use Rattle.tlv_walk.specs.Wrappers.{entered_offsets}
use Rattle.std.proofs.lemmas.Bool.{cases_Bool}
use Rattle.tlv_walk.specs.Private.WrapperCount.{wrapper_count_after}
use Rattle.tlv_walk.specs.Place.{Fits, IsHolderAt, ObeysGrammar, Place, announced_extent}
use Rattle.tlv_walk.specs.Private.Stack.{bound_in}
use Rattle.tlv_walk.specs.Stack.{IsWithin}
use Rattle.tlv_walk.specs.Place.{is_indefinite, place_after}
use Rattle.tlv_walk.proofs.GrammarLemmas.Lengths.{HasLength}
use Rattle.tlv_walk.specs.Stack.{FrameValue, IsInIndefinite, IsInWrapper, bound_of}
use Rattle.tlv_walk.specs.Private.Stack.{IsFilled, innermost_wraps}
use Rattle.tlv_walk.specs.Private.Yields.{Continues}
use Rattle.tlv_walk.specs.Private.Zipper.{AreWhole, NoTail, HasZipper, EndOctetsTail, Layer, Tail, Zipper}
use Rattle.tlv_walk.specs.Private.Zipper.{events_of_layers, events_of_tail, frame_at, frames_of, place_in, place_of}
use Rattle.tlv_walk.specs.Private.Zipper.{spelling_of_layers, spelling_of_tail}
use Rattle.tlv_walk.proofs.WalkerLemmas.ZipperGrowth.{element-began, between_tail, closed_here, continues_both}
use Rattle.tlv_walk.proofs.WalkerLemmas.ZipperGrowth.{lone_tail}
use Rattle.tlv_walk.proofs.WalkerLemmas.ZipperGrowth.{phase_at, tail_state, yielded_more, with_layers, with_tail}
use Rattle.tlv_walk.proofs.WalkerLemmas.YieldedEvents.{yields_zero}
use Rattle.tlv_walk.proofs.WalkerLemmas.Places.{definite-size, walker-offset}
use Rattle.tlv_walk.proofs.GrammarLemmas.Spellings.{length-opening}
use Rattle.tlv_walk.proofs.WalkerLemmas.Zipper.{grammar-followed_by, spelling-followed_by, whole-followed_by}
use Rattle.tlv_walk.proofs.WalkerLemmas.ZipperEvents.{events-followed_by}

layers-regroup : (a b c d e t : List ℕ)
    → a ++ ((b ++ (c ++ (d ++ ((e ++ t) ++ [])))) ++ []) ≡ ((a ++ (b ++ c)) ++ (d ++ e)) ++ t
layers-regroup a b c d e t = simp (append_assoc, append-nil) refl

spelled_closed : (ls : List Layer) (l : Layer) (here : Forest) (old t b : List ℕ) → is_whole l.before ≡ true
    → old ++ t ≡ end_octets l.header.size
    → spelling_of_layers (l ∷ ls) ++ (spelling here ++ old) ≡ b
    → spelling_of_layers ls ++ (spelling (closed_here l here) ++ []) ≡ b ++ t
spelled_closed ls l here old t b whole e f =
    ap (λ (s : List ℕ). spelling_of_layers ls ++ (s ++ []))
    (spelling-followed_by l.before (Holder l.header here NoMore) whole)
    ∙ ap (λ (s : List ℕ). spelling_of_layers ls
    ++ ((spelling l.before ++ (opening l.header ++ (spelling here ++ (s ++ [])))) ++ []))
    (sym e)
    ∙ layers-regroup (spelling_of_layers ls) (spelling l.before) (opening l.header) (spelling here) old t
    ∙ ap (λ (s : List ℕ). s ++ t) f

regroup_yielded : (a b c d : List EventValue) (e : EventValue)
    → a ++ ((b ++ (c ++ (d ++ e ∷ []))) ++ []) ≡ ((a ++ (b ++ c)) ++ (d ++ [])) ++ e ∷ []
regroup_yielded a b c d e = simp (append_assoc, append-nil) refl

yielded_closed : (yielded : List EventValue) (ls : List Layer) (l : Layer) (here : Forest) → is_whole l.before ≡ true
    → AreEqualJoined yielded (events_of_layers (l ∷ ls) ++ (events here ++ []))
    → AreEqualJoined (yielded ++ closing_event l.header here ∷ [])
    (events_of_layers ls ++ (events (closed_here l here) ++ []))
yielded_closed yielded ls l here whole h =
    yielded_more yielded (events_of_layers (l ∷ ls) ++ (events here ++ [])) (closing_event l.header here ∷ [])
    (events_of_layers ls ++ (events (closed_here l here) ++ [])) h
    (ap single_octets
    (ap (λ (es : List EventValue). events_of_layers ls ++ (es ++ []))
    (events-followed_by l.before (Holder l.header here NoMore) whole)
    ∙ regroup_yielded (events_of_layers ls) (events l.before) (opening_events l.header) (events here)
    (closing_event l.header here)))

closed_whole : (w : WalkerState) (l : Layer) (ls : List Layer) (here : Forest)
    → AreWhole (place_in w.framing ls) l.before
    → IsHolderAt (place_after (place_in w.framing ls) (length (spelling l.before))) l.header
    (announced_extent l.header)
    → AreWhole (place_in w.framing (l ∷ ls)) here → HasLength l.header.size (contents_length l.header here)
    → Fits (place_after (place_in w.framing ls) (length (spelling l.before))) (holder_extent l.header here)
    → AreWhole (place_in w.framing ls) (closed_here l here)
closed_whole w l ls here earlier entry inside filled fits = record {
  obeys_grammar = grammar-followed_by (place_in w.framing ls) l.before (Holder l.header here NoMore) earlier (
    (
      record { header = entry.header; holding = entry.holding; shallow = entry.shallow; fits = fits },
      inside.whole,
      filled,
    ),
    inside.obeys_grammar,
    tt,
  );
  whole = whole-followed_by l.before (Holder l.header here NoMore) earlier.whole;
}

-- the state of a walker whose innermost element ends with these octets
pub close_state : (w v : WalkerState) (b : List ℕ) (yielded : List EventValue) (l : Layer) (ls : List Layer)
    (here : Forest) (tail : Tail) (t : List ℕ)
    → HasZipper w b yielded (record { layers = l ∷ ls; here = here; tail = tail })
    → w.stack ≡ frames_of w.framing (l ∷ ls) → events_of_tail tail ≡ []
    → spelling_of_tail tail ++ t ≡ end_octets l.header.size → HasLength l.header.size (contents_length l.header here)
    → Fits (place_after (place_in w.framing ls) (length (spelling l.before))) (holder_extent l.header here)
    → v
    ≡ record w
    { stack = drop 1 w.stack; phase = Between; offset = w.offset + length t; events = w.events + 1 }
    → w.has_element ≡ true
    → HasZipper v (b ++ t) (yielded ++ closing_event l.header here ∷ []) (record {
      layers = ls;
      here = closed_here l here;
      tail = NoTail;
    })
close_state w v b yielded l ls here tail t has stack quiet ends filled fits is_v element =
    subst
    (λ (u : WalkerState). HasZipper u (b ++ t) (yielded ++ closing_event l.header here ∷ [])
    (record { layers = ls; here = closed_here l here; tail = NoTail }))
    (sym is_v) (record {
      spelled = spelled_closed ls l here (spelling_of_tail tail) t b has.layers.1.whole ends has.spelled;
      offset = omega (arith, has.offset, length-append b t);
      stack = ap (drop 1) stack;
      layers = has.layers.0;
      here = closed_whole w l ls here has.layers.1 has.layers.2 has.here filled fits;
      phase = tt;
      same_events = yielded_closed yielded ls l here has.layers.1.whole
          (subst (λ (es : List EventValue). AreEqualJoined yielded (events_of_layers (l ∷ ls) ++ (events here ++ es)))
          quiet has.same_events);
      element = element ∙ sym (element-began ls l.before (Holder l.header here NoMore) has.layers.1.whole refl);
    })

constructed_indefinite : (k : Bool) (s : Size) → s ≡ Indefinite → AllowsSize k s → k ≡ true
constructed_indefinite true s e a = refl
constructed_indefinite false (Definite n) e a = absurd (cc)
constructed_indefinite false Indefinite e a = absurd (cc (a))

size_indefinite : (s : Size) → is_indefinite s ≡ true → s ≡ Indefinite
size_indefinite (Definite n) e = absurd (cc)
size_indefinite Indefinite e = refl

length_of : (h : HeaderValue) (s : Size) (m : ℕ) → h.size ≡ s → HasLength s m → HasLength h.size m
length_of h s m e x = subst (λ (t : Size). HasLength t m) (sym e) x

-- the event of the end of an element of indefinite length has the offset of its end-of-contents octets
closes_indefinite : (h : HeaderValue) (here : Forest) (n : ℕ) → h.constructed ≡ true → h.size ≡ Indefinite
    → h.offset + length (opening h) + length (spelling here) ≡ n → closing_event h here ≡ Close (Some n)
closes_indefinite h here n k s e =
    ap (λ (c : Bool). if c then Close (end_offset h.size (h.offset + length (opening h) + length (spelling here)))
    else Leave)
    k
    ∙ ap (λ (t : Size). Close (end_offset t (h.offset + length (opening h) + length (spelling here)))) s
    ∙ ap (λ (m : ℕ). Close (Some m)) e

second_from : (w : WalkerState) (b : List ℕ) (yielded : List EventValue) (s : Zipper) (ls : List Layer)
    → HasZipper w b yielded (with_layers s ls EndOctetsTail)
    → ObeysGrammar (place_of w.framing (with_layers s ls EndOctetsTail)) OpenEndOctets
    → IsWithin (bound_of w.stack) (w.offset + 1)
    → (t : Zipper)
    × HasZipper
    (record w { stack = drop 1 w.stack; phase = Between; offset = w.offset + 1; events = w.events + 1 })
    (b ++ 0 ∷ []) (yielded ++ Close (Some (w.offset - 1)) ∷ []) t
second_from w b yielded s [] has zero room = absurd (true≢false (sym zero.0))
second_from w b yielded s (l ∷ ls) has zero room =
    let p : Place = place_after (place_in w.framing ls) (length (spelling l.before)) in
    let size : l.header.size ≡ Indefinite = size_indefinite l.header.size zero.0 in
    let at : w.offset ≡ (place_of w.framing (with_layers s (l ∷ ls) EndOctetsTail)).offset + 1 =
    walker-offset w b yielded _ has in
    let header : l.header.offset ≡ p.offset = has.layers.2.header.offset in
    let k : l.header.constructed ≡ true =
    constructed_indefinite l.header.constructed l.header.size size has.layers.2.header.valid.allowed in
    let ends : end_octets l.header.size ≡ 0 ∷ 0 ∷ [] = ap end_octets size in
    let event : closing_event l.header s.here ≡ Close (Some (w.offset - 1)) =
    closes_indefinite l.header s.here (w.offset - 1) k size (omega arith) in
    let bound : IsWithin (bound_in l.header.size (p.offset + length (octets_of l.header)) p.bound) (w.offset + 1) =
    subst (λ (fs : List FrameValue). IsWithin (bound_of fs) (w.offset + 1)) has.stack room in
    let outer : IsWithin p.bound (w.offset + 1) =
    subst (λ (t : Size). IsWithin (bound_in t (p.offset + length (octets_of l.header)) p.bound) (w.offset + 1))
    size bound in
    let two : length (end_octets l.header.size) ≡ 2 = ap length ends in
    let fits : Fits p (holder_extent l.header s.here) = subst (λ (n : ℕ). IsWithin p.bound n) (omega arith) outer in (
      _,
      subst
          (λ (e : EventValue). HasZipper
          (record w { stack = drop 1 w.stack; phase = Between; offset = w.offset + 1; events = w.events + 1 })
          (b ++ 0 ∷ []) (yielded ++ e ∷ []) (record { layers = ls; here = closed_here l s.here; tail = NoTail }))
          event
          (close_state w _ b yielded l ls s.here EndOctetsTail (0 ∷ []) has has.stack refl (sym ends)
          (length_of l.header Indefinite _ size tt) fits refl (has.element)),
    )

-- the second of the end-of-contents octets
pub yields_second : (w : WalkerState) → w.phase ≡ InEndOctets → IsWithin (bound_of w.stack) (w.offset + 1)
    → Continues w
    (record w { stack = drop 1 w.stack; phase = Between; offset = w.offset + 1; events = w.events + 1 })
    (0 ∷ []) (Close (Some (w.offset - 1)) ∷ [])
yields_second w e room = record {
  framing = refl;
  wrapper_count = refl;
  next_zipper = λ b yielded s has.
      let t = lone_tail s.tail _ (phase_at w b yielded s _ e has) in
      let has' : HasZipper w b yielded (with_tail s EndOctetsTail) = tail_state w b yielded s _ t has in
      second_from w b yielded s s.layers has' (phase_at w b yielded (with_tail s EndOctetsTail) _ e has') room;
}

-- the event of the end of an element that is filled has no offset
closes_definite : (k : Bool) (s : Size) (n m : ℕ) → s ≡ Definite n
    → (if k then Close (end_offset s m) else Leave) ≡ (if not k then Leave else Close None)
closes_definite true (Definite n) m o e = refl
closes_definite true Indefinite m o e = absurd (cc)
closes_definite false s m o e = refl

head_frame : (f g : FrameValue) (fs gs : List FrameValue) → f ∷ fs ≡ g ∷ gs → f ≡ g
head_frame f g fs gs e = cc

filled_from : (w : WalkerState) (b : List ℕ) (yielded : List EventValue) (s : Zipper) (ls : List Layer)
    → HasZipper w b yielded (with_layers s ls NoTail) → w.phase ≡ Between
    → (f : FrameValue) (fs : List FrameValue) → w.stack ≡ f ∷ fs → f.end ≡ Some w.offset
    → (t : Zipper)
    × HasZipper (record w { stack = drop 1 w.stack; events = w.events + 1 }) (b ++ [])
    (yielded ++ filled_end_event f ∷ []) t
filled_from w b yielded s [] has e f fs is full = absurd (cc (has.stack))
filled_from w b yielded s (l ∷ ls) has e f fs is full =
    let p : Place = place_after (place_in w.framing ls) (length (spelling l.before)) in
    let same : f ≡ frame_at p l.header =
    head_frame f (frame_at p l.header) fs (frames_of w.framing ls) (sym is ∙ has.stack) in
    let size : (n : ℕ) × (l.header.size ≡ Definite n) × (p.offset + length (octets_of l.header) + n ≡ w.offset) =
    definite-size l.header.size _ w.offset (sym (ap (λ (g : FrameValue). g.end) same) ∙ full) in
    let at : w.offset ≡ (place_of w.framing (with_layers s (l ∷ ls) NoTail)).offset + 0 =
    walker-offset w b yielded _ has in
    let long : contents_length l.header s.here ≡ size.0 = omega (arith, size.2, at, length-opening l.header) in
    let none : end_octets l.header.size ≡ [] = ap end_octets size.1 in
    let zero : length (end_octets l.header.size) ≡ 0 = ap length none in
    let event : closing_event l.header s.here ≡ filled_end_event f =
    closes_definite l.header.constructed l.header.size size.0 _ size.1 ∙ ap filled_end_event (sym same) in
    let entry : Fits p (length (octets_of l.header) + size.0) =
    subst (λ (t : Size). Fits p (length (octets_of l.header) + announced_length t)) size.1 has.layers.2.fits in
    let fits : Fits p (holder_extent l.header s.here) =
    subst (λ (n : ℕ). Fits p n) (omega (arith, long, zero, length-opening l.header)) entry in
    let still : w.offset ≡ w.offset + 0 = omega arith in (
      _,
      subst
          (λ (t : EventValue). HasZipper (record w { stack = drop 1 w.stack; events = w.events + 1 }) (b ++ [])
          (yielded ++ t ∷ []) (record { layers = ls; here = closed_here l s.here; tail = NoTail }))
          event
          (close_state w _ b yielded l ls s.here NoTail [] has has.stack refl (sym none)
          (length_of l.header (Definite size.0) _ size.1 long) fits
          (λ i. record w { stack = drop 1 w.stack; phase = e i; offset = still i; events = w.events + 1 }) has.element),
    )

-- the end of an element enters no wrapper
ending_enters : (f : FrameValue) → entered_offsets (filled_end_event f ∷ []) ≡ []
ending_enters f = elim (cases_Bool f.wrapper) [
  | inl e ↦ rw e refl
  | inr e ↦ rw e refl
]

-- the innermost element, which is filled, ends
pub yields_filled : (w : WalkerState) → w.phase ≡ Between → (f : FrameValue) (fs : List FrameValue)
    → w.stack ≡ f ∷ fs → f.end ≡ Some w.offset
    → Continues w (record w { stack = drop 1 w.stack; events = w.events + 1 }) [] (filled_end_event f ∷ [])
yields_filled w e f fs is full = record {
  framing = refl;
  wrapper_count = ap (wrapper_count_after w.framing.inside w.wrapper_count) (sym (ending_enters f));
  next_zipper = λ b yielded s has.
      let t = between_tail s.tail _ (phase_at w b yielded s _ e has) in
      filled_from w b yielded s s.layers (tail_state w b yielded s _ t has) e f fs is full;
}

-- a stack that has an innermost frame
record IsInnermost (stack : List FrameValue) (k : Bool) : Type 0 where
  frame : FrameValue
  stack_is : stack ≡ frame ∷ drop 1 stack
  wraps : frame.wrapper ≡ k

wraps-innermost : (stack : List FrameValue) (k : Bool) → innermost_wraps stack ≡ Some k → IsInnermost stack k
wraps-innermost [] k e = absurd (cc)
wraps-innermost (f ∷ fs) k e = record { frame = f; stack_is = refl; wraps = cc }

frame_filled : (stack : List FrameValue) (f : FrameValue) (fs : List FrameValue) (offset : ℕ) → stack ≡ f ∷ fs
    → IsFilled stack offset → f.end ≡ Some offset
frame_filled stack f fs offset e full = subst (λ (s : List FrameValue). IsFilled s offset) e full

-- the same, by what the frame says that was popped
pub yields_popped : (w : WalkerState) (k : Bool) → w.phase ≡ Between → IsFilled w.stack w.offset
    → innermost_wraps w.stack ≡ Some k
    → Continues w (record w { stack = drop 1 w.stack; events = w.events + 1 }) []
    ((if k then Leave else Close None) ∷ [])
yields_popped w k e full is =
    let i : IsInnermost w.stack k = wraps-innermost w.stack k is in
    subst (λ (x : EventValue). Continues w (record w { stack = drop 1 w.stack; events = w.events + 1 }) [] (x ∷ []))
    (ap (λ (b : Bool). if b then Leave else Close None) i.wraps)
    (yields_filled w e i.frame (drop 1 w.stack) i.stack_is
    (frame_filled w.stack i.frame (drop 1 w.stack) w.offset i.stack_is full))

-- the innermost element, which is filled and is no wrapper, wraps nothing
wraps_none : (stack : List FrameValue) (offset : ℕ) → IsFilled stack offset → (IsInWrapper stack → ⊥)
    → innermost_wraps stack ≡ Some false
wraps_none [] offset full n = absurd full
wraps_none (f ∷ fs) offset full n = ap Some (false_from_ne_true f.wrapper n)

-- the same, of an element that wraps nothing
pub yields_closed : (w : WalkerState) → w.phase ≡ Between → IsFilled w.stack w.offset → (IsInWrapper w.stack → ⊥)
    → Continues w (record w { stack = drop 1 w.stack; events = w.events + 1 }) [] (Close None ∷ [])
yields_closed w e full n = yields_popped w false e full (wraps_none w.stack w.offset full n)

-- the innermost element, which is filled and is a wrapper, wraps something
wraps_some : (stack : List FrameValue) (offset : ℕ) → IsFilled stack offset → IsInWrapper stack
    → innermost_wraps stack ≡ Some true
wraps_some [] offset full i = absurd full
wraps_some (f ∷ fs) offset full i = ap Some i

-- the same, of a wrapper
pub yields_left : (w : WalkerState) → w.phase ≡ Between → IsFilled w.stack w.offset → IsInWrapper w.stack
    → Continues w (record w { stack = drop 1 w.stack; events = w.events + 1 }) [] (Leave ∷ [])
yields_left w e full i = yields_popped w true e full (wraps_some w.stack w.offset full i)

-- an end before the bound
within_less : (b : Option ℕ) (m n : ℕ) → m ≤ n → IsWithin b n → IsWithin b m
within_less None m n h w = tt
within_less (Some k) m n h w = omega (arith, h, w)

-- both of the end-of-contents octets
pub yields_both : (w : WalkerState) → w.phase ≡ Between → IsInIndefinite w.stack
    → IsWithin (bound_of w.stack) (w.offset + 2)
    → Continues w (record w { stack = drop 1 w.stack; offset = w.offset + 2; events = w.events + 1 }) (0 ∷ 0 ∷ [])
    (Close (Some w.offset) ∷ [])
yields_both w e inside fits =
    let middle : WalkerState = record w { phase = InEndOctets; offset = w.offset + 1 } in
    let room : IsWithin (bound_of w.stack) (w.offset + 1) =
    within_less (bound_of w.stack) (w.offset + 1) (w.offset + 2) (omega arith) fits in
    let two : w.offset + 1 + 1 ≡ w.offset + 2 = omega arith in
    let one : w.offset + 1 - 1 ≡ w.offset = omega arith in
    let new : WalkerState = record w {
      stack = drop 1 w.stack;
      phase = Between;
      offset = w.offset + 1 + 1;
      events = w.events + 1;
    } in
    let both : Continues w new (0 ∷ 0 ∷ []) (Close (Some (w.offset + 1 - 1)) ∷ []) =
    continues_both w middle new (0 ∷ []) (0 ∷ []) [] (Close (Some (w.offset + 1 - 1)) ∷ [])
    (yields_zero w e inside room)
    (yields_second middle refl (subst (IsWithin (bound_of w.stack)) (sym two) fits)) in
    subst (λ (m : WalkerState). Continues w m (0 ∷ 0 ∷ []) (Close (Some w.offset) ∷ [])) (λ i. record w {
      stack = drop 1 w.stack;
      phase = sym e i;
      offset = two i;
      events = w.events + 1;
    })
    (subst (λ (n : ℕ). Continues w new (0 ∷ 0 ∷ []) (Close (Some n) ∷ [])) one both)
