-- What each event that a walker yields makes of its state.
use Rattle.std.proofs.Common.{◌≡◌, ℕ, ◌+◌, ◌-◌, ◌≤◌, List, [], ◌∷◌, ◌++◌, length, map, refl, sym, ap, ◌∙◌, subst, arith}
use Rattle.std.proofs.Common.{append_assoc, append-nil, length-append}
use Rattle.std.proofs.lemmas.List.{map-append}
use Rattle.tlv_head.specs.declared.header.Size.TheVariants.{Definite, Indefinite}
use Rattle.tlv_head.specs.Header.{HeaderValue, octets_of}
use Rattle.tlv_walk.specs.WalkerState.{Between, InEndOctets, InPrimitive, WalkerState}
use Rattle.tlv_walk.specs.Events.{Begin, Bytes, End, EventValue, single_octets}
use Rattle.tlv_walk.specs.Forest.{NoMore, Primitive, spelling}
use Rattle.tlv_walk.specs.Place.{Fits, Place, is_indefinite, place_after}
use Rattle.tlv_walk.specs.Stack.{IsWithin}
use Rattle.tlv_walk.specs.Stack.{FrameValue, IsInIndefinite, bound_of}
use Rattle.tlv_walk.specs.Private.Zipper.{NoTail, HasZipper, PrimitiveTail, EndOctetsTail, IsContents, Layer, Zipper}
use Rattle.tlv_walk.specs.Private.Zipper.{frames_of, place_in, place_of}
use Rattle.tlv_walk.specs.Private.Yields.{Continues}
use Rattle.tlv_walk.proofs.WalkerLemmas.Places.{indefinite-size, walker-offset}
use Rattle.tlv_walk.proofs.WalkerLemmas.Zipper.{followed_by}
use Rattle.tlv_walk.proofs.WalkerLemmas.ZipperGrowth.{continues_both, yielded_after, spelled_after, yielded_whole}
use Rattle.tlv_walk.proofs.WalkerLemmas.ZipperGrowth.{spelled_whole, are_whole, element-began, with_tail, tail_state}
use Rattle.tlv_walk.proofs.WalkerLemmas.ZipperGrowth.{phase_at}
use Rattle.tlv_walk.proofs.WalkerLemmas.ZipperGrowth.{contents_tail, between_tail, with_layers}

-- contents of a primitive
contents_state : (w : WalkerState) (b : List ℕ) (yielded : List EventValue) (s : Zipper) (h : HeaderValue)
    (c t : List ℕ) (left : ℕ)
    → HasZipper w b yielded (with_tail s (PrimitiveTail h c)) → w.phase ≡ InPrimitive left → length t ≤ left
    → HasZipper
    (record w { phase = InPrimitive (left - length t); offset = w.offset + length t; events = w.events + 1 })
    (b ++ t) (yielded ++ Bytes t ∷ [])
    (with_tail s (PrimitiveTail h (c ++ t)))
contents_state w b yielded s h c t left has e most =
    let k : IsContents (place_of w.framing s) h c left = phase_at w b yielded _ _ e has in
    let same : length c + left ≡ length (c ++ t) + (left - length t) = omega (arith, length-append c t) in
    record {
      spelled =
          spelled_after s.layers s.here (octets_of h ++ c) _ t b (sym (append_assoc (octets_of h) c t)) has.spelled;
      offset = omega (arith, has.offset, length-append b t);
      stack = has.stack;
      layers = has.layers;
      here = has.here;
      phase = record {
        header = k.header;
        holding = k.holding;
        size = k.size ∙ ap Definite same;
        fits = subst (λ (n : ℕ). Fits (place_of w.framing s) (length (octets_of h) + n)) same k.fits;
      };
      same_events =
          yielded_after yielded s.layers s.here (Begin h ∷ Bytes c ∷ []) (Begin h ∷ Bytes (c ++ t) ∷ [])
          (Bytes t ∷ []) has.same_events (bytes_more h c t);
      element = has.element;
    }
  where
    bytes_more : (h : HeaderValue) (c t : List ℕ)
        → single_octets (Begin h ∷ Bytes (c ++ t) ∷ []) ≡ single_octets (Begin h ∷ Bytes c ∷ Bytes t ∷ [])
    bytes_more h c t =
        ap (λ (es : List EventValue). Begin h ∷ es)
        (ap (λ (es : List EventValue). es ++ []) (map-append (λ x. Bytes (x ∷ [])) c t)
        ∙ append_assoc (map (λ x. Bytes (x ∷ [])) c) _ [])

pub yields_contents : (w : WalkerState) (left : ℕ) (t : List ℕ) (n : ℕ) → w.phase ≡ InPrimitive left
    → length t ≤ left → n ≡ length t
    → Continues w (record w { phase = InPrimitive (left - n); offset = w.offset + n; events = w.events + 1 }) t
    (Bytes t ∷ [])
yields_contents w left t n e most len =
    subst
    (λ (m : ℕ). Continues w
    (record w { phase = InPrimitive (left - m); offset = w.offset + m; events = w.events + 1 }) t
    (Bytes t ∷ []))
    (sym len) (record {
      framing = refl;
      wrapper_count = refl;
      next_zipper = λ b yielded s has.
          let k = contents_tail left s.tail _ (phase_at w b yielded s _ e has) in
          (_, contents_state w b yielded s k.0 k.1 t left (tail_state w b yielded s _ k.2 has) e most);
    })

-- the end of a primitive
end_state : (w : WalkerState) (b : List ℕ) (yielded : List EventValue) (s : Zipper) (h : HeaderValue) (c : List ℕ)
    → HasZipper w b yielded (with_tail s (PrimitiveTail h c)) → w.phase ≡ InPrimitive 0
    → HasZipper (record w { phase = Between; events = w.events + 1 }) (b ++ []) (yielded ++ End ∷ [])
    (record { layers = s.layers; here = followed_by s.here (Primitive h c NoMore); tail = NoTail })
end_state w b yielded s h c has e =
    let p : Place = place_of w.framing s in
    let k : IsContents p h c 0 = phase_at w b yielded _ _ e has in
    let same : length c + 0 ≡ length c = omega arith in
    record {
      spelled =
          spelled_whole s.layers s.here (Primitive h c NoMore) (octets_of h ++ c) [] b has.here.whole
          (ap (λ (x : List ℕ). octets_of h ++ x) (append-nil c) ∙ sym (append-nil (octets_of h ++ c)))
          has.spelled;
      offset = omega (arith, has.offset, ap length (append-nil b));
      stack = has.stack;
      layers = has.layers;
      here =
          are_whole _ s.here (Primitive h c NoMore) has.here (
            (
              record {
                header = k.header;
                holding = k.holding;
                fits = subst (λ (n : ℕ). Fits p (length (octets_of h) + n)) same k.fits;
              },
              k.size ∙ ap Definite same,
            ),
            tt,
          )
          refl;
      phase = tt;
      same_events =
          yielded_whole yielded s.layers s.here (Primitive h c NoMore) (Begin h ∷ Bytes c ∷ []) (End ∷ [])
          has.here.whole has.same_events refl;
      element = has.element ∙ sym (element-began s.layers s.here (Primitive h c NoMore) has.here.whole refl);
    }

pub yields_end : (w : WalkerState) → w.phase ≡ InPrimitive 0
    → Continues w (record w { phase = Between; events = w.events + 1 }) [] (End ∷ [])
yields_end w e = record {
  framing = refl;
  wrapper_count = refl;
  next_zipper = λ b yielded s has.
      let k = contents_tail 0 s.tail _ (phase_at w b yielded s _ e has) in
      (_, end_state w b yielded s k.0 k.1 (tail_state w b yielded s _ k.2 has) e);
}

-- the first of the end-of-contents octets
zero_state : (w : WalkerState) (b : List ℕ) (yielded : List EventValue) (s : Zipper) (l : Layer) (ls : List Layer)
    → HasZipper w b yielded (record { layers = l ∷ ls; here = s.here; tail = NoTail }) → l.header.size ≡ Indefinite
    → Fits (place_after (place_in w.framing (l ∷ ls)) (length (spelling s.here))) 1
    → HasZipper (record w { phase = InEndOctets; offset = w.offset + 1 }) (b ++ 0 ∷ []) (yielded ++ []) (record {
      layers = l ∷ ls;
      here = s.here;
      tail = EndOctetsTail;
    })
zero_state w b yielded s l ls has e f = record {
  spelled = spelled_after (l ∷ ls) s.here [] (0 ∷ []) (0 ∷ []) b refl has.spelled;
  offset = omega (arith, has.offset, length-append b (0 ∷ []));
  stack = has.stack;
  layers = has.layers;
  here = has.here;
  phase = (ap is_indefinite e, f);
  same_events = yielded_after yielded (l ∷ ls) s.here [] [] [] has.same_events refl;
  element = has.element;
}

pub yields_zero : (w : WalkerState) → w.phase ≡ Between → IsInIndefinite w.stack
    → IsWithin (bound_of w.stack) (w.offset + 1)
    → Continues w (record w { phase = InEndOctets; offset = w.offset + 1 }) (0 ∷ []) []
yields_zero w e i f = record {
  framing = refl;
  wrapper_count = refl;
  next_zipper = λ b yielded s has.
      let t = between_tail s.tail _ (phase_at w b yielded s _ e has) in
      let has' : HasZipper w b yielded (with_tail s NoTail) = tail_state w b yielded s _ t has in
      zero_from w b yielded s s.layers refl has' i f;
}
  where
    zero_from : (w : WalkerState) (b : List ℕ) (yielded : List EventValue) (s : Zipper) (ls : List Layer)
        → s.layers ≡ ls → HasZipper w b yielded (with_layers s ls NoTail) → IsInIndefinite w.stack
        → IsWithin (bound_of w.stack) (w.offset + 1)
        → (t : Zipper)
        × HasZipper (record w { phase = InEndOctets; offset = w.offset + 1 }) (b ++ 0 ∷ [])
        (yielded ++ []) t
    zero_from w b yielded s [] q has i f = absurd (subst IsInIndefinite has.stack i)
    zero_from w b yielded s (l ∷ ls) q has i f =
        let inside : IsInIndefinite (frames_of w.framing (l ∷ ls)) = subst IsInIndefinite has.stack i in
        let fits : IsWithin (place_in w.framing (l ∷ ls)).bound (w.offset + 1) =
        subst (λ (fs : List FrameValue). IsWithin (bound_of fs) (w.offset + 1)) has.stack f in
        let at : w.offset ≡ (place_of w.framing (with_layers s (l ∷ ls) NoTail)).offset + 0 =
        walker-offset w b yielded _ has in (
          _,
          zero_state w b yielded s l ls has (indefinite-size l.header.size _ inside)
              (subst (λ (n : ℕ). IsWithin (place_in w.framing (l ∷ ls)).bound n) (omega (arith, at)) fits),
        )

-- all contents that are to come, and the end
counted_state : (w : WalkerState) (n : ℕ) (b : List ℕ) (yielded : List EventValue) (s : Zipper)
    → HasZipper w b yielded s → HasZipper (record w { events = n }) b yielded s
counted_state w n b yielded s has = record {
  spelled = has.spelled;
  offset = has.offset;
  stack = has.stack;
  layers = has.layers;
  here = has.here;
  phase = has.phase;
  same_events = has.same_events;
  element = has.element;
}

pub yields_passed : (w : WalkerState) (t : List ℕ) (n : ℕ) → w.phase ≡ InPrimitive (length t)
    → Continues w (record w { phase = Between; offset = w.offset + length t; events = n }) t (Bytes t ∷ End ∷ [])
yields_passed w t n e =
    let left : ℕ = length t in
    let u : WalkerState = record w {
      phase = InPrimitive (left - left);
      offset = w.offset + left;
      events = w.events + 1;
    } in
    let none : left - left ≡ 0 = omega arith in
    let one : Continues w u t (Bytes t ∷ []) = yields_contents w left t left e (omega arith) refl in
    let two : Continues u (record u { phase = Between; events = u.events + 1 }) [] (End ∷ []) =
    yields_end u (ap InPrimitive none) in
    let both =
    subst
    (λ (o : List ℕ). Continues w (record u { phase = Between; events = u.events + 1 }) o
    (Bytes t ∷ End ∷ []))
    (append-nil t) (continues_both w u _ t [] (Bytes t ∷ []) (End ∷ []) one two) in
    record {
      framing = both.framing;
      wrapper_count = both.wrapper_count;
      next_zipper = λ b yielded s has.
          let g = both.next_zipper b yielded s has in
          (g.0, counted_state _ n _ _ g.0 g.1);
    }
