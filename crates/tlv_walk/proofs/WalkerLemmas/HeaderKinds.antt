-- What a header begins, on a walker's state.
use Rattle.std.proofs.Common.{◌≡◌, ℕ, ◌+◌, ◌<◌, Bool, true, false, ◌||◌, eqb, if◌then◌else◌, List, [], ◌∷◌, ◌++◌}
use Rattle.std.proofs.Common.{length, take, Option, refl, sym, ap, ◌∙◌, subst}
use Rattle.std.proofs.lemmas.Bool.{true≢false}
use Rattle.std.proofs.lemmas.List.{take-append-drop}
use Rattle.tlv_head.specs.declared.header.HeaderFields.{HeaderFields}
use Rattle.tlv_head.specs.declared.header.Size.TheVariants.{Definite}
use Rattle.tlv_head.specs.HeaderFields.{fields_wrap, new_header}
use Rattle.tlv_head.specs.Header.{HeaderValue, announced_length, holds, octets_of}
use Rattle.tlv_head.specs.HeadReader.{HeadReaderState}
use Rattle.tlv_walk.specs.declared.walker.headers.HeaderKind.{HeaderKind}
use Rattle.tlv_walk.specs.declared.walker.headers.HeaderKind.TheVariants as kind
use Rattle.tlv_walk.specs.WalkerState.{Between, InBitString, InPrimitive, PhaseValue, WalkerState}
use Rattle.tlv_walk.specs.Events.{Begin, Enter, EventValue, Open}
use Rattle.tlv_walk.specs.Forest.{NoMore, lead}
use Rattle.tlv_walk.proofs.GrammarLemmas.Leads.{lead_by}
use Rattle.tlv_walk.specs.Private.Stack.{frame_with}
use Rattle.tlv_walk.specs.Private.WalkerCalls.{TakesHeader, after_header}
use Rattle.tlv_walk.specs.Private.WrapperCount.{next_wrapper_count, wrapper_count_after}
use Rattle.tlv_walk.specs.Wrappers.{entered_offsets}
use Rattle.tlv_head.specs.Lists.{is_among}
use Rattle.tlv_walk.specs.Stack.{FrameValue, bound_of}
use Rattle.tlv_walk.specs.Stack.{IsWithin}
use Rattle.tlv_walk.specs.Private.Yields.{Continues}
use Rattle.tlv_head.specs.ReadHeader.{BeginsWithFields}
use Rattle.tlv_head.specs.Refusal.{BeginsWith}
use Rattle.tlv_walk.specs.Private.Zipper.{NoTail, HasZipper, PrimitiveTail, Zipper, frame_at, place_of}
use Rattle.tlv_walk.proofs.WalkerLemmas.AfterHeader.{AtHeader, Completed, at_new, holding_state, lead_state}
use Rattle.tlv_walk.proofs.WalkerLemmas.AfterHeader.{primitive_state}
use Rattle.tlv_walk.proofs.WalkerLemmas.ZipperGrowth.{with_tail}
use Rattle.tlv_walk.proofs.WalkerLemmas.Places.{place-bound}
use Rattle.tlv_walk.proofs.GrammarLemmas.OpenElements.{size-definite}

-- the event that a header is yielded with
abbrev pub event_of : HeaderKind → HeaderValue → EventValue
event_of kind.Constructed h = Open h
event_of kind.Wrapper h = Enter h
event_of kind.Primitive h = Begin h

-- the frame that the walker pushes is that of the place
frame_there : (w : WalkerState) (b : List ℕ) (yielded : List EventValue) (s : Zipper) (r : HeadReaderState)
    (t : List ℕ) (h : HeaderValue)
    → AtHeader w b yielded s r → Completed w r t h
    → frame_at (place_of w.framing s) h
    ≡ frame_with (h.offset + length (octets_of h)) (bound_of w.stack) h.size h.constructed
frame_there w b yielded s r t h at c =
    ap (λ (n : ℕ). frame_with (n + length (octets_of h)) (place_of w.framing s).bound h.size h.constructed)
    (sym (c.offset ∙ at.offset))
    ∙ ap (λ (x : Option ℕ). frame_with (h.offset + length (octets_of h)) x h.size h.constructed)
    (place-bound w.framing s.layers ∙ ap bound_of (sym at.stack))

-- an element that holds others, with the frame that the walker pushes
abbrev walker_in_element : WalkerState → HeaderValue → PhaseValue → ℕ → WalkerState
walker_in_element w h f k =
    record (after_header w f (h.offset + length (octets_of h))) {
      stack =
          frame_with (h.offset + length (octets_of h)) (bound_of w.stack) h.size h.constructed ∷ w.stack;
      wrapper_count =
          k;
    }

-- the state is that of a walker which pushed the frame
frame-pushed : (w : WalkerState) (b : List ℕ) (yielded : List EventValue) (s : Zipper) (r : HeadReaderState)
    (t : List ℕ)
    (h : HeaderValue) (f : PhaseValue) (k : ℕ) (e : EventValue) (u : Zipper)
    → AtHeader w b yielded s r → Completed w r t h
    → HasZipper
    (record (after_header w f (h.offset + length (octets_of h)))
    { stack = frame_at (place_of w.framing s) h ∷ w.stack; wrapper_count = k })
    (b ++ t) (yielded ++ e ∷ []) u
    → HasZipper (walker_in_element w h f k) (b ++ t) (yielded ++ e ∷ []) u
frame-pushed w b yielded s r t h f k e u at c has =
    subst
    (λ (x : FrameValue). HasZipper
    (record (after_header w f (h.offset + length (octets_of h))) { stack = x ∷ w.stack; wrapper_count = k })
    (b ++ t) (yielded ++ e ∷ []) u)
    (frame_there w b yielded s r t h at c) has

lead_at : (h : HeaderValue) (k n : Bool) → h.constructed ≡ k → eqb h.number 3 ≡ n → lead h ≡ lead_by k n
lead_at h k n e f = ap (λ (c : Bool). lead_by c (eqb h.number 3)) e ∙ ap (lead_by k) f

or-left : (a b : Bool) → a ≡ true → (a || b) ≡ true
or-left a b e = ap (λ (x : Bool). x || b) e

or-right : (a b : Bool) → a ≡ false → b ≡ true → (a || b) ≡ true
or-right a b e f = ap (λ (x : Bool). x || b) e ∙ f

-- the state inside an element that has just begun
abbrev inside_state : Zipper → HeaderValue → Zipper
inside_state s h = record { layers = record { before = s.here; header = h } ∷ s.layers; here = NoMore; tail = NoTail }

takes_constructed : (w : WalkerState) (b : List ℕ) (yielded : List EventValue) (s : Zipper) (r : HeadReaderState)
    (t : List ℕ) (h : HeaderValue)
    → AtHeader w b yielded s r → Completed w r t h → h.constructed ≡ true
    → (u : Zipper)
    × HasZipper (walker_in_element w h Between w.wrapper_count) (b ++ t) (yielded ++ Open h ∷ []) u
takes_constructed w b yielded s r t h at c k =
    let none : lead h ≡ [] = lead_at h true (eqb h.number 3) k refl in
    let has = holding_state w b yielded s r t h w.wrapper_count at c (or-left h.constructed _ k) none in (
      _,
      frame-pushed w b yielded s r t h Between w.wrapper_count (Open h) _ at c
          (subst
          (λ (e : EventValue). HasZipper
          (record (after_header w Between (h.offset + length (octets_of h)))
          { stack = frame_at (place_of w.framing s) h ∷ w.stack; wrapper_count = w.wrapper_count })
          (b ++ t) (yielded ++ e ∷ []) (inside_state s h))
          (ap (λ (x : Bool). if x then Open h else Enter h) k) has),
    )

takes_wrapper : (w : WalkerState) (b : List ℕ) (yielded : List EventValue) (s : Zipper) (r : HeadReaderState)
    (t : List ℕ) (h : HeaderValue) (n : ℕ)
    → AtHeader w b yielded s r → Completed w r t h → h.constructed ≡ false → holds h ≡ true
    → (bits : Bool) → eqb h.number 3 ≡ bits
    → (u : Zipper)
    × HasZipper (walker_in_element w h (if bits then InBitString else Between) n) (b ++ t)
    (yielded ++ Enter h ∷ []) u
takes_wrapper w b yielded s r t h n at c k hold true bits =
    let one : lead h ≡ 0 ∷ [] = lead_at h false true k bits in (
      _,
      frame-pushed w b yielded s r t h InBitString n (Enter h) _ at c
          (lead_state w b yielded s r t h n at c hold one),
    )
takes_wrapper w b yielded s r t h n at c k hold false bits =
    let none : lead h ≡ [] = lead_at h false false k bits in
    let has = holding_state w b yielded s r t h n at c hold none in (
      _,
      frame-pushed w b yielded s r t h Between n (Enter h) _ at c
          (subst
          (λ (e : EventValue). HasZipper
          (record (after_header w Between (h.offset + length (octets_of h)))
          { stack = frame_at (place_of w.framing s) h ∷ w.stack; wrapper_count = n })
          (b ++ t) (yielded ++ e ∷ []) (inside_state s h))
          (ap (λ (x : Bool). if x then Open h else Enter h) k) has),
    )

takes_primitive : (w : WalkerState) (b : List ℕ) (yielded : List EventValue) (s : Zipper) (r : HeadReaderState)
    (t : List ℕ) (h : HeaderValue)
    → AtHeader w b yielded s r → Completed w r t h → holds h ≡ false
    → (u : Zipper)
    × HasZipper (after_header w (InPrimitive (announced_length h.size)) (h.offset + length (octets_of h)))
    (b ++ t) (yielded ++ Begin h ∷ []) u
takes_primitive w b yielded s r t h at c no_hold =
    let size : (n : ℕ) × (h.size ≡ Definite n) = size-definite h c.valid no_hold in (
      _,
      subst
          (λ (n : ℕ). HasZipper (after_header w (InPrimitive n) (h.offset + length (octets_of h))) (b ++ t)
          (yielded ++ Begin h ∷ []) (with_tail s (PrimitiveTail h [])))
          (sym (ap announced_length size.1))
          (primitive_state w b yielded s r t h size.0 at c no_hold size.1),
    )

-- after a header a walker is as it says
pub state_after_header : (w v : WalkerState) (b : List ℕ) (yielded : List EventValue) (s : Zipper) (r : HeadReaderState)
    (t : List ℕ) (f : HeaderFields) (o : List ℕ) (k : HeaderKind)
    → AtHeader w b yielded s r
    → Completed w r t (new_header f o) → TakesHeader w v f (f.offset + length (octets_of (new_header f o))) k
    → (u : Zipper) × HasZipper v (b ++ t) (yielded ++ event_of k (new_header f o) ∷ []) u
state_after_header w v b yielded s r t f o kind.Primitive at c e =
    let u = takes_primitive w b yielded s r t (new_header f o) at c e.0 in
    (u.0, subst (λ (m : WalkerState). HasZipper m (b ++ t) (yielded ++ Begin (new_header f o) ∷ []) u.0) (sym e.1) u.1)
state_after_header w v b yielded s r t f o kind.Constructed at c e =
    let u = takes_constructed w b yielded s r t (new_header f o) at c e.0 in
    (u.0, subst (λ (m : WalkerState). HasZipper m (b ++ t) (yielded ++ Open (new_header f o) ∷ []) u.0) (sym e.1) u.1)
state_after_header w v b yielded s r t f o kind.Wrapper at c e =
    let u =
    takes_wrapper w b yielded s r t (new_header f o) (next_wrapper_count w.framing.inside w.wrapper_count f.offset) at
    c e.0 (or-right f.constructed _ e.0 e.1) (eqb f.number 3) refl in
    (u.0, subst (λ (m : WalkerState). HasZipper m (b ++ t) (yielded ++ Enter (new_header f o) ∷ []) u.0) (sym e.2) u.1)

-- the framing stays
pub framing_after_header : (w v : WalkerState) (f : HeaderFields) (offset : ℕ) (k : HeaderKind)
    → TakesHeader w v f offset k
    → v.framing ≡ w.framing
framing_after_header w v f offset kind.Primitive e = ap (λ (m : WalkerState). m.framing) e.1
framing_after_header w v f offset kind.Constructed e = ap (λ (m : WalkerState). m.framing) e.1
framing_after_header w v f offset kind.Wrapper e = ap (λ (m : WalkerState). m.framing) e.2

-- a wrapper may be one of the named offsets
pub count_after_header : (w v : WalkerState) (f : HeaderFields) (o : List ℕ) (offset : ℕ) (k : HeaderKind)
    → TakesHeader w v f offset k
    → v.wrapper_count
    ≡ wrapper_count_after w.framing.inside w.wrapper_count (entered_offsets (event_of k (new_header f o) ∷ []))
count_after_header w v f o offset kind.Primitive e = ap (λ (m : WalkerState). m.wrapper_count) e.1
count_after_header w v f o offset kind.Constructed e = ap (λ (m : WalkerState). m.wrapper_count) e.1
count_after_header w v f o offset kind.Wrapper e = ap (λ (m : WalkerState). m.wrapper_count) e.2

-- octets that begin with a header, at a walker between elements
pub takes_at_once : (w v : WalkerState) (piece : List ℕ) (named : Bool) (f : HeaderFields) (count : ℕ) (o : List ℕ)
    (k : HeaderKind)
    → w.phase ≡ Between
    → BeginsWithFields piece w.offset named f count → o ≡ take count piece → named ≡ is_among w.offset w.framing.inside
    → (holds (new_header f o) ≡ true → length w.stack < 128)
    → IsWithin (bound_of w.stack) (f.offset + length o + announced_length f.size)
    → TakesHeader w v f (f.offset + length o) k → Continues w v o (event_of k (new_header f o) ∷ [])
takes_at_once w v piece named f count o k e begins front name shallow fits takes =
    let h : HeaderValue = new_header f o in
    let whole : octets_of h ≡ o = take-append-drop f.id_len o in
    let begins' : BeginsWith piece w.offset named h =
    subst (λ (x : List ℕ). BeginsWith piece w.offset named (new_header f x)) (sym front) begins.begins in
    let r : HeadReaderState = record { offset = w.offset; named = named; octets = []; done = false } in
    let completed : Completed w r o h = record {
      valid = begins'.valid;
      octets = whole;
      offset = begins'.offset;
      named = begins'.named;
      shallow = shallow;
      fits =
          subst (λ (x : List ℕ). IsWithin (bound_of w.stack) (f.offset + length x + announced_length f.size))
          (sym whole) fits;
    } in
    record {
      framing = framing_after_header w v f (f.offset + length o) k takes;
      wrapper_count = count_after_header w v f o (f.offset + length o) k takes;
      next_zipper = λ b yielded s has.
          state_after_header w v b yielded (with_tail s NoTail) r o f o k (at_new w b yielded s r has e refl refl name)
          completed
          (subst (λ (x : List ℕ). TakesHeader w v f (f.offset + length x) k) (sym whole) takes);
    }

-- a constructed header begins a constructed element
pub constructed_kind : (w v : WalkerState) (f : HeaderFields) (offset : ℕ) (k : HeaderKind) → f.constructed ≡ true
    → TakesHeader w v f offset k → k ≡ kind.Constructed
constructed_kind w v f offset kind.Constructed c e = refl
constructed_kind w v f offset kind.Primitive c e =
    absurd (true≢false (sym (ap (λ (k : Bool). k || fields_wrap f) c) ∙ e.0))
constructed_kind w v f offset kind.Wrapper c e = absurd (true≢false (sym c ∙ e.0))

-- the header of a wrapper begins a wrapper
pub wrapper_kind : (w v : WalkerState) (f : HeaderFields) (offset : ℕ) (k : HeaderKind) → f.constructed ≡ false
    → fields_wrap f ≡ true → TakesHeader w v f offset k → k ≡ kind.Wrapper
wrapper_kind w v f offset kind.Wrapper c wraps e = refl
wrapper_kind w v f offset kind.Primitive c wraps e =
    absurd (true≢false (sym (or-right f.constructed _ c wraps) ∙ e.0))
wrapper_kind w v f offset kind.Constructed c wraps e = absurd (true≢false (sym e.0 ∙ c))
