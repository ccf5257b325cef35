-- A walker goes on after the octets of a header that its reader takes.
use Rattle.std.proofs.Common.{◌≡◌, ◌≢◌, ◌⊎◌, inl, inr, ℕ, ◌+◌, ◌-◌, ◌^◌, ◌<◌, ◌≤◌, Bool, true, List, [], ◌∷◌, ◌++◌}
use Rattle.std.proofs.Common.{length, get_or, take, drop, Option, Some, None, refl, sym, ap, ap₂, ◌∙◌, subst, arith}
use Rattle.std.proofs.Common.{append_assoc, append-nil, length-append}
use Rattle.std.proofs.lemmas.Bool.{cases_eq}
use Rattle.std.proofs.lemmas.List.{take_all}
use Rattle.tlv_head.specs.declared.header.HeaderFields.{HeaderFields}
use Rattle.tlv_head.specs.declared.header.Size.{Size}
use Rattle.tlv_head.specs.declared.header.Size.TheVariants.{Definite, Indefinite}
use Rattle.tlv_head.specs.HeaderFields.{new_header}
use Rattle.tlv_head.specs.Header.{HeaderValue, announced_length, octets_of}
use Rattle.tlv_head.specs.HeadReader.{ContentsFit, HeadReaderState, with_octet, Completes, FitsThere}
use Rattle.tlv_head.specs.Refusal.{IsHeaderPrefix}
use Rattle.tlv_walk.specs.declared.walker.headers.HeaderKind.{HeaderKind}
use Rattle.tlv_walk.specs.declared.walker.headers.HeaderKind.TheVariants as kind
use Rattle.tlv_walk.specs.WalkerState.{Between, InHeader, PhaseValue, WalkerState}
use Rattle.tlv_walk.specs.Events.{EventValue}
use Rattle.tlv_walk.specs.declared.framing.Framing.{Framing}
use Rattle.tlv_walk.specs.Private.WalkerCalls.{CanTakeHeader, TakesHeader}
use Rattle.tlv_walk.specs.Private.WrapperCount.{wrapper_count_after}
use Rattle.tlv_walk.specs.Wrappers.{entered_offsets}
use Rattle.tlv_walk.specs.Private.HandsOver.{HandsOver, YieldsHeader}
use Rattle.tlv_walk.specs.Stack.{bound_of}
use Rattle.tlv_walk.specs.Stack.{IsWithin}
use Rattle.tlv_walk.specs.Private.Stack.{room_to}
use Rattle.tlv_walk.specs.Private.Zipper.{NoTail, HasZipper, HeaderTail, IsPhaseOf, Zipper, place_of}
use Rattle.tlv_walk.specs.Private.Yields.{Continues, YieldsEvent}
use Rattle.tlv_walk.proofs.WalkerLemmas.AfterHeader.{AtHeader, Completed, at_front, at_new, front_state}
use Rattle.tlv_walk.proofs.WalkerLemmas.HeaderKinds.{count_after_header, framing_after_header, state_after_header}
use Rattle.tlv_walk.proofs.WalkerLemmas.HeaderKinds.{event_of}
use Rattle.tlv_walk.proofs.WalkerLemmas.ZipperGrowth.{phase_at, with_tail}

-- ---- the walker that the reader was taken from

-- it is at the header of that reader
pub handed-at_header : (w u : WalkerState) (r : HeadReaderState) → HandsOver w u r
    → (b : List ℕ) (yielded : List EventValue) (s : Zipper) → HasZipper w b yielded s
    → (t : Zipper) × AtHeader w b yielded t r × (u ≡ record w { phase = Between; has_element = true })
handed-at_header w u r (inl h) b yielded s has =
    let a = at_front w b yielded s r has h.0 in (
      with_tail s (HeaderTail a.0),
      a.1,
      h.1 ∙ ap (λ (k : Bool). record w { phase = Between; has_element = k }) a.1.has.element,
    )
handed-at_header w u r (inr h) b yielded s has = (
  with_tail s NoTail,
  at_new w b yielded s r has h.0.phase h.0.none h.0.offset h.0.named,
  h.1 ∙ ap (λ (f : PhaseValue). record w { phase = f; has_element = true }) h.0.phase,
)

-- the octets that the reader has, if there are any, are a prefix of a header
handed_prefix : (w u : WalkerState) (r : HeadReaderState) → HandsOver w u r
    → (b : List ℕ) (yielded : List EventValue) (s : Zipper) → HasZipper w b yielded s → (r.octets ≡ [] → ⊥)
    → IsHeaderPrefix r.octets
handed_prefix w u r (inl h) b yielded s has some =
    let a = at_front w b yielded s r has h.0 in
    let at : IsPhaseOf (InHeader r) (HeaderTail a.0) (place_of w.framing s) =
    phase_at w b yielded _ _ h.0 a.1.has in
    subst IsHeaderPrefix (sym at.0) at.3.1
handed_prefix w u r (inr h) b yielded s has some = absurd (some h.0.none)

-- ---- octets that a reader takes

-- from r to q, a prefix of a piece was taken
pub record HasTaken (r q : HeadReaderState) (piece rest : List ℕ) : Type 0 where
  pub taken : List ℕ
  pub piece_is : piece ≡ taken ++ rest
  pub octets : q.octets ≡ r.octets ++ taken
  pub offset : q.offset ≡ r.offset
  pub named : q.named ≡ r.named
  pub front : (q.octets ≡ r.octets) ⊎ IsHeaderPrefix q.octets

-- one more
pub taken_more : (r q p : HeadReaderState) (piece rest others : List ℕ) (x : ℕ) → HasTaken r q piece rest
    → rest ≡ x ∷ others → IsHeaderPrefix (q.octets ++ x ∷ []) → p ≡ with_octet q x → HasTaken r p piece others
taken_more r q p piece rest others x k e front same =
    subst (λ (p : HeadReaderState). HasTaken r p piece others) (sym same) (record {
      taken = k.taken ++ x ∷ [];
      piece_is = k.piece_is ∙ (ap (λ (l : List ℕ). k.taken ++ l) e ∙ sym (append_assoc k.taken (x ∷ []) others));
      octets = ap (λ (l : List ℕ). l ++ x ∷ []) k.octets ∙ append_assoc r.octets k.taken (x ∷ []);
      offset = k.offset;
      named = k.named;
      front = inr front;
    })

-- the walker after the octets of a reader that it has
abbrev pub in_header : WalkerState → HeadReaderState → WalkerState
in_header w q = record w { phase = InHeader q; offset = q.offset + length q.octets; has_element = true }

-- the state after them, of the walker that the reader was taken from
pub record TakenState (w u : WalkerState) (q : HeadReaderState) (t b : List ℕ) (yielded : List EventValue) : Type
    0 where
  pub state : Zipper
  pub has : HasZipper (in_header w q) (b ++ t) (yielded ++ []) (with_tail state (HeaderTail q.octets))
  pub same : u ≡ record w { phase = Between; has_element = true }

pub taken_state : (w u : WalkerState) (r q : HeadReaderState) (piece rest : List ℕ) → HandsOver w u r
    → (k : HasTaken r q piece rest) → (q.octets ≡ [] → ⊥)
    → IsWithin (bound_of u.stack) (q.offset + length q.octets) → (b : List ℕ) (yielded : List EventValue) (s : Zipper)
    → HasZipper w b yielded s → TakenState w u q k.taken b yielded
taken_state w u r q piece rest over k some fits b yielded s has =
    let h = handed-at_header w u r over b yielded s has in
    let within : IsWithin (bound_of w.stack) (q.offset + length q.octets) =
    subst (λ (m : WalkerState). IsWithin (bound_of m.stack) (q.offset + length q.octets)) h.2 fits in
    record {
      state = h.0;
      has = front_state w b yielded h.0 r q k.taken h.1 k.octets k.offset k.named some (front_taken k.front) within;
      same = h.2;
    }
  where
    front_taken : (q.octets ≡ r.octets) ⊎ IsHeaderPrefix q.octets → IsHeaderPrefix q.octets
    front_taken (inl e) =
        subst IsHeaderPrefix (sym e) (handed_prefix w u r over b yielded s has (λ none. some (e ∙ none)))
    front_taken (inr f) = f

-- the framing stays
handed_framing : (w u : WalkerState) (r : HeadReaderState) → HandsOver w u r → u.framing ≡ w.framing
handed_framing w u r (inl h) = ap (λ (m : WalkerState). m.framing) h.1
handed_framing w u r (inr h) = ap (λ (m : WalkerState). m.framing) h.1

handed_wrappers : (w u : WalkerState) (r : HeadReaderState) → HandsOver w u r → u.wrapper_count ≡ w.wrapper_count
handed_wrappers w u r (inl h) = ap (λ (m : WalkerState). m.wrapper_count) h.1
handed_wrappers w u r (inr h) = ap (λ (m : WalkerState). m.wrapper_count) h.1

-- the piece is used up inside a header
pub yields_unfinished : (w u : WalkerState) (r q : HeadReaderState) (piece : List ℕ) (offset : ℕ) → HandsOver w u r
    → HasTaken r q piece [] → (q.octets ≡ [] → ⊥) → q.offset + length q.octets ≡ offset
    → IsWithin (bound_of u.stack) offset → Continues w (record u { phase = InHeader q; offset = offset }) piece []
yields_unfinished w u r q piece offset over k some e fits = record {
  framing = handed_framing w u r over;
  wrapper_count = handed_wrappers w u r over;
  next_zipper = λ b yielded s has.
      let t : TakenState w u q k.taken b yielded =
      taken_state w u r q piece [] over k some (subst (IsWithin (bound_of u.stack)) (sym e) fits) b yielded s has in
      let new : in_header w q ≡ record u { phase = InHeader q; offset = offset } =
      ap (λ (n : ℕ). record w { phase = InHeader q; offset = n; has_element = true }) e
      ∙ ap (λ (m : WalkerState). record m { phase = InHeader q; offset = offset }) (sym t.same) in
      let all : k.taken ≡ piece = sym (k.piece_is ∙ append-nil k.taken) in (
        with_tail t.state (HeaderTail q.octets),
        subst
            (λ (m : WalkerState). HasZipper m (b ++ piece) (yielded ++ []) (with_tail t.state (HeaderTail q.octets)))
            new
            (subst
            (λ (o : List ℕ). HasZipper (in_header w q) (b ++ o) (yielded ++ [])
            (with_tail t.state (HeaderTail q.octets)))
            all t.has),
      );
}

-- ---- a whole header

-- the walker that the reader was taken from takes it too
takes_without : (w u new : WalkerState) (f : HeaderFields) (offset : ℕ) (k : HeaderKind)
    → u ≡ record w { phase = Between; has_element = true } → TakesHeader u new f offset k
    → TakesHeader w new f offset k
takes_without w u new f offset kind.Primitive e takes =
    subst (λ (m : WalkerState). TakesHeader m new f offset kind.Primitive) e takes
takes_without w u new f offset kind.Constructed e takes =
    subst (λ (m : WalkerState). TakesHeader m new f offset kind.Constructed) e takes
takes_without w u new f offset kind.Wrapper e takes =
    subst (λ (m : WalkerState). TakesHeader m new f offset kind.Wrapper) e takes

-- and the header that it completes may be there
completed_without : (w u : WalkerState) (r : HeadReaderState) (t : List ℕ) (h : HeaderValue)
    → u ≡ record w { phase = Between; has_element = true } → CanTakeHeader u h → Completes r t h
    → Completed w r t h
completed_without w u r t h e can makes =
    let can' : CanTakeHeader (record w { phase = Between; has_element = true }) h =
    subst (λ (m : WalkerState). CanTakeHeader m h) e can in
    record {
      valid = can'.valid;
      octets = makes.octets_are;
      offset = makes.offset;
      named = makes.named;
      shallow = can'.shallow;
      fits = can'.fits;
    }

-- so it yields a header with the fields that were taken
yields_after : (u new : WalkerState) (f : HeaderFields) (o : List ℕ) (offset : ℕ) (k : HeaderKind)
    → CanTakeHeader u (new_header f o) → offset ≡ f.offset + length (octets_of (new_header f o))
    → TakesHeader u new f offset k
    → YieldsHeader u new (new_header f o) (event_of k (new_header f o))
yields_after u new f o offset k can e does w r t over makes = record {
  framing = framing_after_header u new f offset k does ∙ handed_framing w u r over;
  wrapper_count =
      count_after_header u new f o offset k does
      ∙ ap₂
      (λ (g : Framing) (n : ℕ). wrapper_count_after g.inside n (entered_offsets (event_of k (new_header f o) ∷ [])))
      (handed_framing w u r over) (handed_wrappers w u r over);
  next_zipper = λ b yielded s has.
      let h = handed-at_header w u r over b yielded s has in
      state_after_header w new b yielded h.0 r t f o k h.1 (completed_without w u r t (new_header f o) h.2 can makes)
      (subst (λ (n : ℕ). TakesHeader w new f n k) e (takes_without w u new f offset k h.2 does));
}

-- the same of a header that has these fields
pub yields_header : (u new : WalkerState) (f : HeaderFields) (h : HeaderValue) (offset : ℕ) (k : HeaderKind)
    → CanTakeHeader u h → new_header f (octets_of h) ≡ h → offset ≡ f.offset + length (octets_of h)
    → TakesHeader u new f offset k
    → YieldsHeader u new h (event_of k h)
yields_header u new f h offset k can same e takes =
    subst (λ (g : HeaderValue). YieldsHeader u new g (event_of k g)) same
    (yields_after u new f (octets_of h) offset k (subst (CanTakeHeader u) (sym same) can)
    (e ∙ ap (λ (g : HeaderValue). f.offset + length (octets_of g)) (sym same)) takes)

-- ---- the octet that a reader is given

-- a piece without octets
pub used_up : (p : List ℕ) → length p < 1 → p ≡ []
used_up [] h = refl
used_up (x ∷ p) h = absurd (omega arith)

-- the first octet of a piece, and the others
pub first_and_others : (p : List ℕ) → 1 ≤ length p → p ≡ get_or p 0 0 ∷ take (length p - 1) (drop 1 p)
first_and_others [] h = absurd (omega arith)
first_and_others (x ∷ p) h = ap (λ (l : List ℕ). x ∷ l) (sym (take_all (length (x ∷ p) - 1) p (omega arith)))

-- an octet below the bound
pub within_next : (b : Option ℕ) (n : ℕ) → IsWithin b n → room_to b n ≢ Some 0 → IsWithin b (n + 1)
within_next None n h some = tt
within_next (Some m) n h some = elim (cases_eq m n) [
  | inl e ↦ let z : m - n ≡ 0 = omega arith in absurd (some (ap Some z))
  | inr less ↦ omega arith
]

-- contents that fit after it
within_announced : (size : Size) (b : Option ℕ) (n : ℕ) → ContentsFit size (room_to b n)
    → IsWithin b (n + 1 + announced_length size)
within_announced (Definite k) None n h = tt
within_announced (Definite k) (Some m) n h = omega (arith, h)
within_announced Indefinite None n h = tt
within_announced Indefinite (Some m) n h = omega (arith, h)

-- the header that it completes may be there
pub can_take_whole_header : (u : WalkerState) (q : HeadReaderState) (x depth offset : ℕ) (h : HeaderValue)
    → u.offset ≤ offset → u.events + length u.stack ≤ q.offset → q.offset + length q.octets ≡ offset
    → offset + 1 ≤ 2 ^ 40 → depth ≡ length u.stack
    → Completes q (x ∷ []) h → FitsThere h (room_to (bound_of u.stack) offset) depth → CanTakeHeader u h
can_take_whole_header u q x depth offset h grown counted place limit deep c f =
    let end : h.offset + length (octets_of h) ≡ offset + 1 =
    omega (arith, c.offset, ap length c.octets_are, length-append q.octets (x ∷ [])) in
    record {
      valid = c.valid;
      end = omega (arith, grown, end);
      counted = omega (arith, c.offset);
      limit = omega arith;
      shallow = λ e. subst (λ (n : ℕ). n < 128) deep (f.shallow e);
      fits =
          subst (λ (n : ℕ). IsWithin (bound_of u.stack) (n + announced_length h.size)) (sym end)
          (within_announced h.size (bound_of u.stack) offset f.contents_fit);
    }

-- and the walker yields it
pub whole_yields : (w u new : WalkerState) (r q : HeadReaderState) (piece rest others : List ℕ) (x : ℕ)
    (h : HeaderValue) (e : EventValue)
    → HandsOver w u r → HasTaken r q piece rest → rest ≡ x ∷ others → Completes q (x ∷ []) h
    → YieldsHeader u new h e → YieldsEvent w new piece others e
whole_yields w u new r q piece rest others x h e over k f c yields = record {
  taken = k.taken ++ x ∷ [];
  piece_is = k.piece_is ∙ (ap (λ (l : List ℕ). k.taken ++ l) f ∙ sym (append_assoc k.taken (x ∷ []) others));
  continues = yields w r (k.taken ++ x ∷ []) over (record {
    valid = c.valid;
    offset = c.offset ∙ k.offset;
    named = c.named ∙ k.named;
    octets_are = c.octets_are ∙ (ap (λ (l : List ℕ). l ++ x ∷ []) k.octets ∙ append_assoc r.octets k.taken (x ∷ []));
  });
}

-- ---- what a reader has before an octet

-- octets, or a piece that begins with another octet than 00, below the bound
abbrev pub CanGive : List ℕ → List ℕ → Option ℕ → Type 0
CanGive octets piece room =
    (octets ≢ []) ⊎ ((x : ℕ) × (others : List ℕ) × (piece ≡ x ∷ others) × (x ≢ 0) × (room ≢ Some 0))

-- if it has none, there is room
pub give_room : (octets piece : List ℕ) (room : Option ℕ) → CanGive octets piece room → octets ≡ [] → room ≢ Some 0
give_room octets piece room (inl some) none = absurd (some none)
give_room octets piece room (inr k) none = k.4

-- if the piece is used up, it has octets
pub give_some : (octets piece : List ℕ) (room : Option ℕ) → CanGive octets piece room → piece ≡ [] → octets ≢ []
give_some octets piece room (inl some) used = some
give_some octets piece room (inr k) used = let z : [] ≡ k.0 ∷ k.1 = sym used ∙ k.2 in absurd (cc)

-- with another octet
pub pushed_end : (q p : HeadReaderState) (x offset : ℕ) → p ≡ with_octet q x → q.offset + length q.octets ≡ offset
    → p.offset + length p.octets ≡ offset + 1
pushed_end q p x offset e place =
    omega (
      arith,
      ap (λ (r : HeadReaderState). r.offset) e,
      ap (λ (r : HeadReaderState). length r.octets) e,
      length-append q.octets (x ∷ []),
    )

pub pushed_some : (q p : HeadReaderState) (x : ℕ) → p ≡ with_octet q x → p.octets ≢ []
pushed_some q p x e none =
    omega (arith, ap (λ (r : HeadReaderState). length r.octets) e, ap length none, length-append q.octets (x ∷ []))
