-- What is refused after octets of a header is a fault, whatever follows.
use Rattle.std.proofs.Common.{◌≡◌, ◌≢◌, inl, inr, ℕ, ◌+◌, ◌<◌, ◌≤◌, Bool, false, List, [], ◌∷◌, ◌++◌, length}
use Rattle.std.proofs.Common.{Option, Some, None, refl, sym, ap, ◌∙◌, subst, arith, append-nil, length-append}
use Rattle.tlv_head.specs.declared.fault.Fault.{Fault}
use Rattle.tlv_head.specs.declared.fault.FaultCode.{FaultCode}
use Rattle.tlv_head.specs.declared.header.Class.{Class}
use Rattle.tlv_head.specs.declared.header.Size.{Size}
use Rattle.tlv_head.specs.declared.header.Size.TheVariants.{Definite, Indefinite}
use Rattle.tlv_head.specs.Header.{HeaderValue, IsIdentifier, announced_length, octets_of}
use Rattle.tlv_head.specs.Refusal.{IsRefusedOctet, tag_too_long, reserved_length, indefinite_primitive}
use Rattle.tlv_head.specs.Refusal.{length_too_large}
use Rattle.tlv_head.specs.HeadReader.{ContentsFit, HeadReaderState, Completes, IsRefusedPush}
use Rattle.tlv_head.specs.HeadReader as push
use Rattle.tlv_head.proofs.ReaderLemmas.Prefix.{header-two}
use Rattle.tlv_walk.specs.WalkerState.{InHeader, WalkerState}
use Rattle.tlv_walk.specs.Ending.{IsEnding, IsRefusedAt, fault_ending, no_room, open_end, overrun, refused_octet}
use Rattle.tlv_walk.specs.Ending.{too_deep}
use Rattle.tlv_walk.specs.Forest.{OpenHeader}
use Rattle.tlv_walk.specs.Events.{EventValue}
use Rattle.tlv_head.specs.Lists.{is_among}
use Rattle.tlv_walk.specs.Place.{Fits, IsHeaderAt, Place}
use Rattle.tlv_walk.specs.Stack.{IsWithin}
use Rattle.tlv_walk.specs.Private.HandsOver.{HandsOver}
use Rattle.tlv_walk.specs.Stack.{FrameValue, bound_of}
use Rattle.tlv_walk.specs.Private.Stack.{room_to}
use Rattle.tlv_walk.specs.Private.Zipper.{HasZipper, HeaderTail, Zipper, place_of}
use Rattle.tlv_walk.specs.Private.Yields.{RefusesOctet}
use Rattle.tlv_walk.proofs.WalkerLemmas.HeaderSteps.{HasTaken, TakenState, in_header, taken_state}
use Rattle.tlv_walk.proofs.WalkerLemmas.ZipperGrowth.{phase_at, with_tail}
use Rattle.tlv_walk.proofs.WalkerLemmas.Places.{place-bound, place-depth}
use Rattle.tlv_walk.proofs.WalkerLemmas.Refusals.{left_none, left_some}
use Rattle.tlv_walk.proofs.WalkerLemmas.ZipperEndings.{state-fault}

-- ---- if there is room, a reader without octets refuses none

-- an identifier has octets
identifier-nil : (class : Class) (k : Bool) (n : ℕ) (o : List ℕ) → IsIdentifier class k n o → o ≡ [] → ⊥
identifier-nil class k n o (inl low) e = let z : [] ≡ _ ∷ [] = sym e ∙ low.octets_are in absurd (cc)
identifier-nil class k n o (inr high) e = let z : [] ≡ _ ∷ _ = sym e ∙ high.octets_are in absurd (cc)

-- one octet is no header
completes-two : (r : HeadReaderState) (x : ℕ) (h : HeaderValue) → Completes r (x ∷ []) h → r.octets ≡ [] → ⊥
completes-two r x h c e =
    let two : 2 ≤ length (octets_of h) = header-two h c.valid in
    let one : octets_of h ≡ x ∷ [] = c.octets_are ∙ ap (λ (o : List ℕ). o ++ x ∷ []) e in
    omega (arith, ap length one)

-- what is refused for the octets of a header has octets before it
refused-after : (o : List ℕ) (x : ℕ) (code : FaultCode) → IsRefusedOctet o x code → o ≡ [] → ⊥
refused-after o x code (tag_too_long c k front eight flag) e =
    let z : [] ≡ _ ∷ _ = sym e ∙ front.octets_are in absurd (cc)
refused-after o x code (reserved_length c k n i ones) e = identifier-nil c k n o i e
refused-after o x code (indefinite_primitive c n i mark) e = identifier-nil c false n o i e
refused-after o x code (length_too_large c k n left front many nonzero) e =
    omega (
      arith,
      ap length (sym e ∙ front.octets_are),
      length-append front.identifier_octets ((128 + (length front.digits + left)) ∷ front.digits),
    )

-- so a refusal has octets before it, or no room
pub refused-some : (code : FaultCode) (r : HeadReaderState) (x : ℕ) (room : Option ℕ) (depth : ℕ)
    → IsRefusedPush r x room depth code → room ≢ Some 0 → r.octets ≡ [] → ⊥
refused-some code r x room depth (push.no_room none) some e = some none
refused-some code r x room depth (push.refused_octet left octet) some e = refused-after r.octets x code octet e
refused-some code r x room depth (push.too_deep left h completes holding deep) some e = completes-two r x h completes e
refused-some code r x room depth (push.overrun left h completes shallow beyond) some e = completes-two r x h completes e

-- ---- what a reader refuses is a fault there

-- the contents end beyond the bound
beyond_bound : (size : Size) (b : Option ℕ) (n m : ℕ) → (ContentsFit size (room_to b n) → ⊥)
    → n + 1 + announced_length size ≤ m → IsWithin b m → ⊥
beyond_bound (Definite k) None n m beyond h f = beyond tt
beyond_bound Indefinite None n m beyond h f = beyond tt
beyond_bound (Definite k) (Some b) n m beyond h f = beyond (omega arith)
beyond_bound Indefinite (Some b) n m beyond h f = beyond (omega arith)

-- where a reader is
pub record IsReader (p : Place) (q : HeadReaderState) (room : Option ℕ) (depth : ℕ) : Type 0 where
  pub offset : q.offset ≡ p.offset
  pub named : q.named ≡ is_among p.offset p.inside
  pub depths : depth ≡ p.depth
  pub left : room ≡ room_to p.bound (p.offset + length q.octets)
  pub within : IsWithin p.bound (p.offset + length q.octets)

-- a header that its octets make
header_there : (p : Place) (q : HeadReaderState) (room : Option ℕ) (depth x : ℕ) (h : HeaderValue)
    → IsReader p q room depth → Completes q (x ∷ []) h → IsHeaderAt p h
header_there p q room depth x h k c = record {
  valid = c.valid;
  offset = c.offset ∙ k.offset;
  named = c.named ∙ k.named;
}

-- there is room
room_there : (p : Place) (q : HeadReaderState) (room : Option ℕ) (depth : ℕ) → IsReader p q room depth → room ≢ Some 0
    → Fits p (length q.octets + 1)
room_there p q room depth k some =
    left_some p.bound (p.offset + length q.octets) (p.offset + (length q.octets + 1)) (λ e. some (k.left ∙ e))
    (omega arith)

-- each cause of a reader is a line of the faults
pub refused_fault : (p : Place) (q : HeadReaderState) (room : Option ℕ) (depth x : ℕ) (code : FaultCode)
    → IsReader p q room depth → IsRefusedPush q x room depth code
    → IsRefusedAt (open_end p (OpenHeader q.octets)) x code
refused_fault p q room depth x code k (push.no_room none) =
    no_room
    (left_none p.bound (p.offset + length q.octets) (p.offset + (length q.octets + 1)) (sym k.left ∙ none)
    (omega arith))
refused_fault p q room depth x code k (push.refused_octet left octet) =
    refused_octet (room_there p q room depth k left) octet
refused_fault p q room depth x code k (push.too_deep left h completes holding deep) =
    too_deep (room_there p q room depth k left) h (header_there p q room depth x h k completes) holding
    completes.octets_are
    (subst (λ (n : ℕ). 128 ≤ n) k.depths deep)
refused_fault p q room depth x code k (push.overrun left h completes shallow beyond) =
    overrun (room_there p q room depth k left) h (header_there p q room depth x h k completes)
    completes.octets_are
    (λ e. subst (λ (n : ℕ). n < 128) k.depths (shallow e))
    (beyond_bound h.size p.bound (p.offset + length q.octets) _ (λ f. beyond (subst (ContentsFit h.size)
    (sym k.left) f))
    (omega (arith, ap length completes.octets_are, length-append q.octets (x ∷ []))))

-- ---- a walker refuses it

-- the reader of a walker inside a header is where its state says
reader_there : (w : WalkerState) (b : List ℕ) (yielded : List EventValue) (s : Zipper) (q : HeadReaderState) (depth : ℕ)
    → w.phase ≡ InHeader q → HasZipper w b yielded (with_tail s (HeaderTail q.octets)) → depth ≡ length w.stack
    → IsReader (place_of w.framing s) q (room_to (bound_of w.stack) (q.offset + length q.octets)) depth
reader_there w b yielded s q depth e has d =
    let p : Place = place_of w.framing s in
    let at = phase_at w b yielded (with_tail s (HeaderTail q.octets)) (InHeader q) e has in
    let bound : bound_of w.stack ≡ p.bound = ap bound_of has.stack ∙ sym (place-bound w.framing s.layers) in
    record {
      offset = at.1;
      named = at.2;
      depths = d ∙ ap length has.stack ∙ sym (place-depth w.framing s.layers);
      left =
          ap (λ (o : Option ℕ). room_to o (q.offset + length q.octets)) bound
          ∙ ap (λ (n : ℕ). room_to p.bound (n + length q.octets)) at.1;
      within = at.3.2;
    }

-- the octet that its reader refuses
pub refuses_header : (w u : WalkerState) (r q : HeadReaderState) (piece rest others : List ℕ) (x depth offset : ℕ)
    (f : Fault)
    → HandsOver w u r → HasTaken r q piece rest → rest ≡ x ∷ others
    → IsWithin (bound_of u.stack) offset → q.offset + length q.octets ≡ offset → depth ≡ length u.stack
    → (q.octets ≡ [] → room_to (bound_of u.stack) offset ≢ Some 0)
    → IsRefusedPush q x (room_to (bound_of u.stack) offset) depth f.code → f.offset ≡ q.offset + length q.octets
    → RefusesOctet w piece rest f
refuses_header w u r q piece rest others x depth offset f over k e within place deep room refused there =
    let some : q.octets ≡ [] → ⊥ = λ none. refused-some f.code q x _ depth refused (room none) none in record {
      taken = k.taken;
      octet = x;
      others = others;
      piece_is = k.piece_is;
      rest_is = e;
      refuses = λ b yielded s has.
          let t : TakenState w u q k.taken b yielded =
          taken_state w u r q piece rest over k some (subst (IsWithin (bound_of u.stack)) (sym place) within) b
          yielded s has in
          let has' : HasZipper (in_header w q) (b ++ k.taken) yielded (with_tail t.state (HeaderTail q.octets)) =
          subst
          (λ (es : List EventValue). HasZipper (in_header w q) (b ++ k.taken) es
          (with_tail t.state (HeaderTail q.octets)))
          (append-nil yielded) t.has in
          let same : u.stack ≡ w.stack = ap (λ (m : WalkerState). m.stack) t.same in
          let left : room_to (bound_of u.stack) offset ≡ room_to (bound_of w.stack) (q.offset + length q.octets) =
          ap (λ (fs : List FrameValue). room_to (bound_of fs) offset) same
          ∙ ap (room_to (bound_of w.stack)) (sym place) in
          let faulty : IsRefusedAt (open_end (place_of w.framing t.state) (OpenHeader q.octets)) x f.code =
          refused_fault _ q _ depth x f.code
          (reader_there (in_header w q) (b ++ k.taken) yielded t.state q depth refl has' (deep ∙ ap length same))
          (subst (λ (o : Option ℕ). IsRefusedPush q x o depth f.code) left refused) in record {
            walker = in_header w q;
            zipper = with_tail t.state (HeaderTail q.octets);
            has_zipper = has';
            idle = refl;
            offset = there;
            ends =
                λ c. subst (λ (n : ℕ). IsEnding w.framing ((b ++ k.taken) ++ x ∷ c) (fault_ending f.code n))
                (sym has'.offset ∙ sym there)
                (state-fault (in_header w q) (b ++ k.taken) yielded (with_tail t.state (HeaderTail q.octets)) x c
                f.code has' (λ z. z) faulty);
            framing = refl;
            stack = refl;
          };
    }
