-- A walker's state goes on after a header.
use Rattle.std.proofs.Common.{◌≡◌, ℕ, ◌+◌, ◌<◌, Bool, true, false, eqb, if◌then◌else◌, List, [], ◌∷◌, ◌++◌, length, map}
use Rattle.std.proofs.Common.{Option, refl, sym, ap, ◌∙◌, subst, arith, append-nil, length-append}
use Rattle.tlv_head.specs.declared.header.Size.TheVariants.{Definite}
use Rattle.tlv_head.specs.Header.{HeaderValue, IsHeader, announced_length, holds, octets_of}
use Rattle.tlv_head.specs.HeadReader.{HeadReaderState}
use Rattle.tlv_head.specs.Refusal.{IsHeaderPrefix}
use Rattle.tlv_walk.specs.WalkerState.{Between, InBitString, InHeader, InPrimitive, WalkerState}
use Rattle.tlv_walk.specs.Events.{AreEqualJoined, Begin, Bytes, Enter, EventValue, Open, Unused, events, opening_events}
use Rattle.tlv_walk.specs.Events.{opening_event, single_octets}
use Rattle.tlv_walk.specs.Forest.{Forest, NoMore, OpenBitString, lead, opening, spelling}
use Rattle.tlv_walk.proofs.GrammarLemmas.Leads.{lead-one, lead_by, wraps-bits}
use Rattle.tlv_head.specs.Lists.{is_among}
use Rattle.tlv_walk.specs.Private.WalkerCalls.{after_header}
use Rattle.tlv_walk.specs.Place.{Fits, IsHeaderAt, IsHolderAt, ObeysGrammar, Place, announced_extent}
use Rattle.tlv_walk.specs.Stack.{IsWithin}
use Rattle.tlv_walk.specs.Stack.{FrameValue, bound_of}
use Rattle.tlv_walk.specs.Private.Zipper.{BitStringTail, NoTail, HasZipper, PrimitiveTail, EndOctetsTail, HeaderTail}
use Rattle.tlv_walk.specs.Private.Zipper.{IsPhaseOf, Layer, Tail, Zipper, events_of_layers, events_of_tail, frame_at}
use Rattle.tlv_walk.specs.Private.Zipper.{frames_of, place_in, place_of, spelling_of_layers, spelling_of_tail}
use Rattle.tlv_walk.specs.Private.Yields.{Continues}
use Rattle.tlv_walk.proofs.WalkerLemmas.ZipperGrowth.{between_tail, phase_at, spelled_after, tail_state, yielded_after}
use Rattle.tlv_walk.proofs.WalkerLemmas.ZipperGrowth.{with_tail}
use Rattle.tlv_walk.proofs.WalkerLemmas.Places.{place-bound, place-depth, place-inside, walker-offset}

-- a walker that is at a header, or after the octets of one that the reader has
pub record AtHeader (w : WalkerState) (b : List ℕ) (yielded : List EventValue) (s : Zipper)
    (r : HeadReaderState) : Type 0 where
  pub has : HasZipper w b yielded s
  pub octets : spelling_of_tail s.tail ≡ r.octets
  pub offset : r.offset ≡ (place_of w.framing s).offset
  pub named : r.named ≡ is_among r.offset w.framing.inside
  pub quiet : events_of_tail s.tail ≡ []
  pub stack : w.stack ≡ frames_of w.framing s.layers

pub at_new : (w : WalkerState) (b : List ℕ) (yielded : List EventValue) (s : Zipper) (r : HeadReaderState)
    → HasZipper w b yielded s → w.phase ≡ Between → r.octets ≡ [] → r.offset ≡ w.offset
    → r.named ≡ is_among w.offset w.framing.inside → AtHeader w b yielded (with_tail s NoTail) r
at_new w b yielded s r has e none at named =
    let t : s.tail ≡ NoTail = between_tail s.tail _ (phase_at w b yielded s _ e has) in
    let has' : HasZipper w b yielded (with_tail s NoTail) = tail_state w b yielded s _ t has in
    let place : w.offset ≡ (place_of w.framing (with_tail s NoTail)).offset + 0 = walker-offset w b yielded _ has' in
    record {
      has = has';
      octets = sym none;
      offset = omega (arith, at, place);
      named = named ∙ ap (λ (n : ℕ). is_among n w.framing.inside) (sym at);
      quiet = refl;
      stack = has'.stack;
    }

front_tail : (r : HeadReaderState) (t : Tail) (p : Place) → IsPhaseOf (InHeader r) t p
    → (o : List ℕ) × (t ≡ HeaderTail o)
front_tail r NoTail p x = absurd x
front_tail r (PrimitiveTail h c) p x = absurd x
front_tail r (BitStringTail h) p x = absurd x
front_tail r (HeaderTail o) p x = (o, refl)
front_tail r EndOctetsTail p x = absurd x

pub at_front : (w : WalkerState) (b : List ℕ) (yielded : List EventValue) (s : Zipper) (r : HeadReaderState)
    → HasZipper w b yielded s → w.phase ≡ InHeader r
    → (o : List ℕ) × AtHeader w b yielded (with_tail s (HeaderTail o)) r
at_front w b yielded s r has e =
    let t = front_tail r s.tail _ (phase_at w b yielded s _ e has) in
    let has' : HasZipper w b yielded (with_tail s (HeaderTail t.0)) = tail_state w b yielded s _ t.1 has in
    let at : IsPhaseOf (InHeader r) (HeaderTail t.0) (place_of w.framing s) = phase_at w b yielded _ _ e has' in (
      t.0,
      record {
        has = has';
        octets = sym at.0;
        offset = at.1;
        named =
            at.2 ∙ ap (λ (n : ℕ). is_among n (place_in w.framing s.layers).inside) (sym at.1)
            ∙ ap (λ (ns : List ℕ). is_among r.offset ns) (place-inside w.framing s.layers);
        quiet = refl;
        stack = has'.stack;
      },
    )

-- a header that is complete with these octets more, and may be there
pub record Completed (w : WalkerState) (r : HeadReaderState) (t : List ℕ) (h : HeaderValue) : Type 0 where
  pub valid : IsHeader h
  pub octets : octets_of h ≡ r.octets ++ t
  pub offset : h.offset ≡ r.offset
  pub named : h.named ≡ r.named
  pub shallow : holds h ≡ true → length w.stack < 128
  pub fits : IsWithin (bound_of w.stack) (h.offset + length (octets_of h) + announced_length h.size)

is_header_at : (w : WalkerState) (b : List ℕ) (yielded : List EventValue) (s : Zipper) (r : HeadReaderState)
    (t : List ℕ) (h : HeaderValue)
    → AtHeader w b yielded s r → Completed w r t h
    → IsHeaderAt (place_of w.framing s) h
is_header_at w b yielded s r t h at c = record {
  valid = c.valid;
  offset = c.offset ∙ at.offset;
  named =
      c.named ∙ at.named ∙ ap (λ (n : ℕ). is_among n w.framing.inside) at.offset
      ∙ ap (λ (ns : List ℕ). is_among (place_of w.framing s).offset ns) (sym (place-inside w.framing s.layers));
}

fits_at : (w : WalkerState) (b : List ℕ) (yielded : List EventValue) (s : Zipper) (r : HeadReaderState) (t : List ℕ)
    (h : HeaderValue)
    → AtHeader w b yielded s r → Completed w r t h
    → Fits (place_of w.framing s) (announced_extent h)
fits_at w b yielded s r t h at c =
    let bound : bound_of w.stack ≡ (place_in w.framing s.layers).bound =
    ap bound_of at.stack ∙ sym (place-bound w.framing s.layers) in
    let fits : IsWithin (place_in w.framing s.layers).bound
    (h.offset + length (octets_of h) + announced_length h.size) =
    subst (λ (x : Option ℕ). IsWithin x (h.offset + length (octets_of h) + announced_length h.size)) bound c.fits in
    subst (λ (n : ℕ). IsWithin (place_in w.framing s.layers).bound n) (omega (arith, c.offset, at.offset)) fits

entry_at : (w : WalkerState) (b : List ℕ) (yielded : List EventValue) (s : Zipper) (r : HeadReaderState) (t : List ℕ)
    (h : HeaderValue)
    → AtHeader w b yielded s r → Completed w r t h → holds h ≡ true
    → IsHolderAt (place_of w.framing s) h (announced_extent h)
entry_at w b yielded s r t h at c e = record {
  header = is_header_at w b yielded s r t h at c;
  holding = e;
  shallow = omega (arith, c.shallow e, place-depth w.framing s.layers, ap length at.stack);
  fits = fits_at w b yielded s r t h at c;
}

-- the events so far, and no open end
quiet_yielded : (w : WalkerState) (b : List ℕ) (yielded : List EventValue) (s : Zipper) (r : HeadReaderState)
    → AtHeader w b yielded s r → AreEqualJoined yielded (events_of_layers s.layers ++ (events s.here ++ []))
quiet_yielded w b yielded s r at =
    subst (λ (es : List EventValue). AreEqualJoined yielded (events_of_layers s.layers ++ (events s.here ++ es)))
    at.quiet at.has.same_events

-- where the header of a walker ends
header_end : (w : WalkerState) (b : List ℕ) (yielded : List EventValue) (s : Zipper) (r : HeadReaderState)
    (t : List ℕ) (h : HeaderValue)
    → AtHeader w b yielded s r → Completed w r t h
    → h.offset + length (octets_of h) ≡ length (b ++ t)
header_end w b yielded s r t h at c =
    omega (
      arith,
      c.offset,
      at.offset,
      ap length c.octets,
      ap length at.octets,
      length-append r.octets t,
      length-append b t,
      at.has.offset,
      walker-offset w b yielded s at.has,
    )

-- a primitive begins
pub primitive_state : (w : WalkerState) (b : List ℕ) (yielded : List EventValue) (s : Zipper) (r : HeadReaderState)
    (t : List ℕ) (h : HeaderValue) (n : ℕ)
    → AtHeader w b yielded s r → Completed w r t h
    → holds h ≡ false → h.size ≡ Definite n
    → HasZipper (after_header w (InPrimitive n) (h.offset + length (octets_of h))) (b ++ t)
    (yielded ++ Begin h ∷ []) (with_tail s (PrimitiveTail h []))
primitive_state w b yielded s r t h n at c e size =
    let zero : n ≡ 0 + n = omega arith in
    record {
      spelled =
          spelled_after s.layers s.here (spelling_of_tail s.tail) (octets_of h ++ []) t b
          (append-nil (octets_of h) ∙ (c.octets ∙ ap (λ (o : List ℕ). o ++ t) (sym at.octets))) at.has.spelled;
      offset = header_end w b yielded s r t h at c;
      stack = at.stack;
      layers = at.has.layers;
      here = at.has.here;
      phase = record {
        header = is_header_at w b yielded s r t h at c;
        holding = e;
        size = size ∙ ap Definite zero;
        fits =
            subst (λ (m : ℕ). Fits (place_of w.framing s) (length (octets_of h) + m))
            (ap announced_length size ∙ zero) (fits_at w b yielded s r t h at c);
      };
      same_events =
          yielded_after yielded s.layers s.here [] (Begin h ∷ Bytes [] ∷ []) (Begin h ∷ [])
          (quiet_yielded w b yielded s r at) refl;
      element = refl;
    }

-- a layer more
layer_spelled : (ls : List Layer) (here : Forest) (h : HeaderValue) (old t b : List ℕ) → old ++ t ≡ opening h
    → spelling_of_layers ls ++ (spelling here ++ old) ≡ b
    → spelling_of_layers (record { before = here; header = h } ∷ ls) ++ ([] ++ []) ≡ b ++ t
layer_spelled ls here h old t b e f =
    append-nil (spelling_of_layers ls ++ (spelling here ++ opening h))
    ∙ spelled_after ls here old (opening h) t b (sym e) f

layer_yielded : (yielded : List EventValue) (ls : List Layer) (here : Forest) (h : HeaderValue)
    (old more : List EventValue)
    → opening_events h ≡ old ++ more → AreEqualJoined yielded (events_of_layers ls ++ (events here ++ old))
    → AreEqualJoined (yielded ++ more) (events_of_layers (record { before = here; header = h } ∷ ls) ++ ([] ++ []))
layer_yielded yielded ls here h old more e f =
    subst (λ (es : List EventValue). AreEqualJoined (yielded ++ more) es)
    (sym (append-nil (events_of_layers ls ++ (events here ++ opening_events h))))
    (yielded_after yielded ls here old (opening_events h) more f (ap single_octets e))

-- an element that holds others begins with the next octet
pub holding_state : (w : WalkerState) (b : List ℕ) (yielded : List EventValue) (s : Zipper) (r : HeadReaderState)
    (t : List ℕ) (h : HeaderValue) (k : ℕ)
    → AtHeader w b yielded s r → Completed w r t h
    → holds h ≡ true → lead h ≡ []
    → HasZipper
    (record (after_header w Between (h.offset + length (octets_of h)))
    { stack = frame_at (place_of w.framing s) h ∷ w.stack; wrapper_count = k })
    (b ++ t) (yielded ++ opening_event h ∷ [])
    (record { layers = record { before = s.here; header = h } ∷ s.layers; here = NoMore; tail = NoTail })
holding_state w b yielded s r t h k at c e none = record {
  spelled = layer_spelled s.layers s.here h (spelling_of_tail s.tail) t b
      (ap (λ (o : List ℕ). o ++ t) at.octets
      ∙ (sym c.octets ∙ (sym (append-nil (octets_of h)) ∙ ap (λ (l : List ℕ). octets_of h ++ l) (sym none))))
      at.has.spelled;
  offset = header_end w b yielded s r t h at c;
  stack = ap (λ (fs : List FrameValue). frame_at (place_of w.framing s) h ∷ fs) at.stack;
  layers = (at.has.layers, at.has.here, entry_at w b yielded s r t h at c e);
  here = record { obeys_grammar = tt; whole = refl };
  phase = tt;
  same_events =
      layer_yielded yielded s.layers s.here h [] (opening_event h ∷ [])
      (ap (λ (l : List ℕ). opening_event h ∷ map (λ z. Unused) l) none) (quiet_yielded w b yielded s r at);
  element = refl;
}

-- a wrapping BIT STRING begins
pub lead_state : (w : WalkerState) (b : List ℕ) (yielded : List EventValue) (s : Zipper) (r : HeadReaderState)
    (t : List ℕ) (h : HeaderValue) (k : ℕ)
    → AtHeader w b yielded s r → Completed w r t h
    → holds h ≡ true → lead h ≡ 0 ∷ []
    → HasZipper
    (record (after_header w InBitString (h.offset + length (octets_of h)))
    { stack = frame_at (place_of w.framing s) h ∷ w.stack; wrapper_count = k })
    (b ++ t) (yielded ++ Enter h ∷ [])
    (with_tail s (BitStringTail h))
lead_state w b yielded s r t h k at c e one = record {
  spelled =
      spelled_after s.layers s.here (spelling_of_tail s.tail) (octets_of h) t b
      (c.octets ∙ ap (λ (o : List ℕ). o ++ t) (sym at.octets)) at.has.spelled;
  offset = header_end w b yielded s r t h at c;
  stack = ap (λ (fs : List FrameValue). frame_at (place_of w.framing s) h ∷ fs) at.stack;
  layers = at.has.layers;
  here = at.has.here;
  phase = (entry_at w b yielded s r t h at c e, wraps-bits h 0 [] one);
  same_events =
      yielded_after yielded s.layers s.here [] (Enter h ∷ []) (Enter h ∷ []) (quiet_yielded w b yielded s r at) refl;
  element = refl;
}

-- its first contents octet
pub lead_tail : (t : Tail) (p : Place) → IsPhaseOf InBitString t p → (h : HeaderValue) × (t ≡ BitStringTail h)
lead_tail NoTail p x = absurd x
lead_tail (PrimitiveTail h c) p x = absurd x
lead_tail (BitStringTail h) p x = (h, refl)
lead_tail (HeaderTail o) p x = absurd x
lead_tail EndOctetsTail p x = absurd x

lead_primitive : (k n : Bool) → lead_by k n ≡ 0 ∷ [] → k ≡ false
lead_primitive true n e = absurd (cc)
lead_primitive false n e = refl

unused_state : (w : WalkerState) (b : List ℕ) (yielded : List EventValue) (s : Zipper) (h : HeaderValue)
    → HasZipper w b yielded (with_tail s (BitStringTail h)) → ObeysGrammar (place_of w.framing s) (OpenBitString h)
    → HasZipper (record w { phase = Between; offset = w.offset + 1; events = w.events + 1 }) (b ++ 0 ∷ [])
    (yielded ++ Unused ∷ [])
    (record { layers = record { before = s.here; header = h } ∷ s.layers; here = NoMore; tail = NoTail })
unused_state w b yielded s h has a =
    let one : lead h ≡ 0 ∷ [] = lead-one h a.1 in
    let k : h.constructed ≡ false = lead_primitive h.constructed (eqb h.number 3) one in
    record {
      spelled =
          layer_spelled s.layers s.here h (octets_of h) (0 ∷ []) b (ap (λ (l : List ℕ). octets_of h ++ l) (sym one))
          has.spelled;
      offset = omega (arith, has.offset, length-append b (0 ∷ []));
      stack = has.stack;
      layers = (has.layers, has.here, a.0);
      here = record { obeys_grammar = tt; whole = refl };
      phase = tt;
      same_events = layer_yielded yielded s.layers s.here h (Enter h ∷ []) (Unused ∷ [])
          (ap (λ (c : Bool). (if c then Open h else Enter h) ∷ map (λ z. Unused) (lead h)) k
          ∙ ap (λ (l : List ℕ). Enter h ∷ map (λ z. Unused) l) one)
          has.same_events;
      element = has.element;
    }

pub yields_unused : (w : WalkerState) → w.phase ≡ InBitString
    → Continues w (record w { phase = Between; offset = w.offset + 1; events = w.events + 1 }) (0 ∷ [])
    (Unused ∷ [])
yields_unused w e = record {
  framing = refl;
  wrapper_count = refl;
  next_zipper = λ b yielded s has.
      let t = lead_tail s.tail _ (phase_at w b yielded s _ e has) in
      let has' : HasZipper w b yielded (with_tail s (BitStringTail t.0)) = tail_state w b yielded s _ t.1 has in
      (_, unused_state w b yielded s t.0 has' (phase_at w b yielded (with_tail s (BitStringTail t.0)) _ e has'));
}

-- more octets of a header
pub front_state : (w : WalkerState) (b : List ℕ) (yielded : List EventValue) (s : Zipper) (r q : HeadReaderState)
    (t : List ℕ)
    → AtHeader w b yielded s r → q.octets ≡ r.octets ++ t → q.offset ≡ r.offset
    → q.named ≡ r.named → (q.octets ≡ [] → ⊥) → IsHeaderPrefix q.octets
    → IsWithin (bound_of w.stack) (q.offset + length q.octets)
    → HasZipper (record w { phase = InHeader q; offset = q.offset + length q.octets; has_element = true })
    (b ++ t) (yielded ++ []) (with_tail s (HeaderTail q.octets))
front_state w b yielded s r q t at o f n some front fits =
    let bound : bound_of w.stack ≡ (place_in w.framing s.layers).bound =
    ap bound_of at.stack ∙ sym (place-bound w.framing s.layers) in
    let place : q.offset ≡ (place_of w.framing s).offset = f ∙ at.offset in
    record {
      spelled =
          spelled_after s.layers s.here (spelling_of_tail s.tail) q.octets t b
          (o ∙ ap (λ (x : List ℕ). x ++ t) (sym at.octets)) at.has.spelled;
      offset =
          omega (
            arith,
            f,
            at.offset,
            ap length o,
            ap length at.octets,
            length-append r.octets t,
            length-append b t,
            at.has.offset,
            walker-offset w b yielded s at.has,
          );
      stack = at.stack;
      layers = at.has.layers;
      here = at.has.here;
      phase = (
        refl,
        place,
        n ∙ at.named ∙ ap (λ (m : ℕ). is_among m w.framing.inside) at.offset
            ∙ ap (λ (ns : List ℕ). is_among (place_of w.framing s).offset ns) (sym (place-inside w.framing s.layers)),
        (
          some,
          front,
          subst (λ (m : ℕ). IsWithin (place_in w.framing s.layers).bound (m + length q.octets)) place
              (subst (λ (x : Option ℕ). IsWithin x (q.offset + length q.octets)) bound fits),
        ),
      );
      same_events = yielded_after yielded s.layers s.here [] [] [] (quiet_yielded w b yielded s r at) refl;
      element = refl;
    }
