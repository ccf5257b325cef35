-- The octets that events yield of are those that a walker took.
use Rattle.std.proofs.Common.{◌≡◌, inl, inr, ℕ, ◌+◌, Bool, true, false, if◌then◌else◌, eqb, List, [], ◌∷◌, ◌++◌, length}
use Rattle.std.proofs.Common.{map, flat_map, refl, sym, ap, ◌∙◌, append-nil}
use Rattle.std.proofs.lemmas.Bool.{cases_Bool, true≢false}
use Rattle.std.proofs.lemmas.Grind.{flat_map-append}
use Rattle.tlv_head.specs.declared.header.Size.{Size}
use Rattle.tlv_head.specs.declared.header.Size.TheVariants.{Definite, Indefinite}
use Rattle.tlv_head.specs.Header.{HeaderValue, octets_of}
use Rattle.tlv_head.specs.HeaderSoFar.{AllowsSize}
use Rattle.tlv_walk.specs.declared.framing.Framing.{Framing}
use Rattle.tlv_walk.specs.WalkerState.{PhaseValue, Between, InBitString, InEndOctets, InHeader, InPrimitive}
use Rattle.tlv_walk.specs.WalkerState.{WalkerState}
use Rattle.tlv_walk.specs.Walker.{IsAfterEvent, Stands}
use Rattle.tlv_walk.specs.Events.{AreEqualJoined, Begin, Bytes, Close, End, Enter, EventValue, Leave, Open, Pad, Unused}
use Rattle.tlv_walk.specs.Events.{closing_event, event_octets, events, opening_events, single_octets}
use Rattle.tlv_walk.proofs.GrammarLemmas.Leads.{end_offset}
use Rattle.tlv_walk.specs.Forest.{Forest, NoMore, PaddingOctet, Primitive, Holder, OpenPrimitive, OpenHolder}
use Rattle.tlv_walk.specs.Forest.{OpenBitString, OpenHeader, OpenEndOctets, end_octets, holder_extent, is_whole, lead, opening}
use Rattle.tlv_walk.specs.Forest.{spelling}
use Rattle.tlv_walk.specs.Place.{IsHeaderAt, ObeysGrammar, Place, place_after, place_of_children}
use Rattle.tlv_walk.specs.Private.Zipper.{AreLayers, BitStringTail, NoTail, HasZipper, PrimitiveTail, EndOctetsTail}
use Rattle.tlv_walk.specs.Private.Zipper.{HeaderTail, IsPhaseOf, Layer, Tail, Zipper, events_of_layers, events_of_tail}
use Rattle.tlv_walk.specs.Private.Zipper.{events_of_zipper, place_in, place_of, spelling_of_layers, spelling_of_tail}
use Rattle.tlv_walk.proofs.EventLemmas.JoinedEvents.{apart-from_joined}

-- ---- however they are cut into pieces

octets_bytes : (c : List ℕ) (es : List EventValue)
    → flat_map event_octets (map (λ x. Bytes (x ∷ [])) c ++ es) ≡ c ++ flat_map event_octets es
octets_bytes [] es = refl
octets_bytes (x ∷ c) es = ap (λ (l : List ℕ). x ∷ l) (octets_bytes c es)

octets_pads : (c : List ℕ) (es : List EventValue)
    → flat_map event_octets (map (λ x. Pad (x ∷ [])) c ++ es) ≡ c ++ flat_map event_octets es
octets_pads [] es = refl
octets_pads (x ∷ c) es = ap (λ (l : List ℕ). x ∷ l) (octets_pads c es)

octets_apart : (es : List EventValue) → flat_map event_octets (single_octets es) ≡ flat_map event_octets es
octets_apart [] = refl
octets_apart (Open h ∷ es) = ap (λ (l : List ℕ). octets_of h ++ l) (octets_apart es)
octets_apart (Begin h ∷ es) = ap (λ (l : List ℕ). octets_of h ++ l) (octets_apart es)
octets_apart (Bytes c ∷ es) = octets_bytes c (single_octets es) ∙ ap (λ (l : List ℕ). c ++ l) (octets_apart es)
octets_apart (End ∷ es) = octets_apart es
octets_apart (Close o ∷ es) = ap (λ (l : List ℕ). event_octets (Close o) ++ l) (octets_apart es)
octets_apart (Enter h ∷ es) = ap (λ (l : List ℕ). octets_of h ++ l) (octets_apart es)
octets_apart (Unused ∷ es) = ap (λ (l : List ℕ). 0 ∷ l) (octets_apart es)
octets_apart (Leave ∷ es) = octets_apart es
octets_apart (Pad c ∷ es) = octets_pads c (single_octets es) ∙ ap (λ (l : List ℕ). c ++ l) (octets_apart es)

pub octets_joined : (es fs : List EventValue) → AreEqualJoined es fs
    → flat_map event_octets es ≡ flat_map event_octets fs
octets_joined es fs e = sym (octets_apart es) ∙ ap (flat_map event_octets) (apart-from_joined es fs e) ∙ octets_apart fs

-- ---- of elements

octets_lead : (b : List ℕ) → flat_map event_octets (map (λ z. Unused) b) ≡ map (λ z. 0) b
octets_lead [] = refl
octets_lead (x ∷ b) = ap (λ (l : List ℕ). 0 ∷ l) (octets_lead b)

lead_zeros : (h : HeaderValue) → map (λ z. 0) (lead h) ≡ lead h
lead_zeros h = elim (cases_Bool h.constructed) [
  | inl c ↦ rw c refl
  | inr c ↦ elim (cases_Bool (eqb h.number 3)) [
    | inl n ↦ rw (c, n) refl
    | inr n ↦ rw (c, n) refl
  ]
]

octets_opens : (h : HeaderValue) → flat_map event_octets (opening_events h) ≡ opening h
octets_opens h = elim (cases_Bool h.constructed) [
  | inl c ↦
      ap (λ (e : EventValue). event_octets e ++ flat_map event_octets (map (λ z. Unused) (lead h)))
      (ap (λ (k : Bool). if k then Open h else Enter h) c)
      ∙ ap (λ (l : List ℕ). octets_of h ++ l) (octets_lead (lead h) ∙ lead_zeros h)
  | inr c ↦
      ap (λ (e : EventValue). event_octets e ++ flat_map event_octets (map (λ z. Unused) (lead h)))
      (ap (λ (k : Bool). if k then Open h else Enter h) c)
      ∙ ap (λ (l : List ℕ). octets_of h ++ l) (octets_lead (lead h) ∙ lead_zeros h)
]

-- 8.1.3.2 a): the length of a primitive is definite
no_end_octets : (constructed : Bool) (size : Size) → AllowsSize constructed size → constructed ≡ false
    → end_octets size ≡ []
no_end_octets constructed (Definite n) a e = refl
no_end_octets true Indefinite a e = absurd (true≢false e)
no_end_octets false Indefinite a e = absurd (cc (a))

octets_close : (size : Size) (offset : ℕ) → event_octets (Close (end_offset size offset)) ≡ end_octets size
octets_close (Definite n) offset = refl
octets_close Indefinite offset = refl

octets_closes : (p : Place) (h : HeaderValue) (inside : Forest) → IsHeaderAt p h
    → event_octets (closing_event h inside) ≡ end_octets h.size
octets_closes p h inside i = elim (cases_Bool h.constructed) [
  | inl c ↦
      ap event_octets
      (ap
      (λ (k : Bool). if k
      then Close (end_offset h.size (h.offset + length (opening h) + length (spelling inside)))
      else Leave)
      c)
      ∙ octets_close h.size _
  | inr c ↦
      ap event_octets
      (ap
      (λ (k : Bool). if k
      then Close (end_offset h.size (h.offset + length (opening h) + length (spelling inside)))
      else Leave)
      c)
      ∙ sym (no_end_octets h.constructed h.size i.valid.allowed c)
]

octets_append : (xs ys : List EventValue)
    → flat_map event_octets (xs ++ ys) ≡ flat_map event_octets xs ++ flat_map event_octets ys
octets_append xs ys = flat_map-append event_octets xs ys

-- of whole elements
octets_whole : (p : Place) (f : Forest) → ObeysGrammar p f → is_whole f ≡ true
    → flat_map event_octets (events f) ≡ spelling f
octets_whole p NoMore o e = refl
octets_whole p (PaddingOctet rest) o e = ap (λ (l : List ℕ). 0 ∷ l) (octets_whole (place_after p 1) rest o.1 e)
octets_whole p (Primitive h c rest) o e =
    ap (λ (l : List ℕ). octets_of h ++ (c ++ l))
    (octets_whole (place_after p (length (octets_of h) + length c)) rest o.1 e)
octets_whole p (Holder h inside rest) o e =
    octets_append (opening_events h) (events inside ++ closing_event h inside ∷ events rest)
    ∙ ap (λ (l : List ℕ). l ++ flat_map event_octets (events inside ++ closing_event h inside ∷ events rest))
    (octets_opens h)
    ∙ ap (λ (l : List ℕ). opening h ++ l) (
    octets_append (events inside) (closing_event h inside ∷ events rest)
    ∙ ap (λ (l : List ℕ). l ++ flat_map event_octets (closing_event h inside ∷ events rest))
    (octets_whole (place_of_children p h) inside o.1 o.0.1)
    ∙ ap (λ (l : List ℕ). spelling inside ++ (l ++ flat_map event_octets (events rest)))
    (octets_closes p h inside o.0.0.header)
    ∙ ap (λ (l : List ℕ). spelling inside ++ (end_octets h.size ++ l))
    (octets_whole (place_after p (holder_extent h inside)) rest o.2 e)
    )
octets_whole p (OpenPrimitive h c) o e = absurd (true≢false (sym e))
octets_whole p (OpenHolder h inside) o e = absurd (true≢false (sym e))
octets_whole p (OpenBitString h) o e = absurd (true≢false (sym e))
octets_whole p (OpenHeader octets) o e = absurd (true≢false (sym e))
octets_whole p OpenEndOctets o e = absurd (true≢false (sym e))

-- ---- of what a walker stands for

octets_layers : (w : Framing) (ls : List Layer) → AreLayers w ls
    → flat_map event_octets (events_of_layers ls) ≡ spelling_of_layers ls
octets_layers w [] a = refl
octets_layers w (l ∷ ls) a =
    octets_append (events_of_layers ls) (events l.before ++ opening_events l.header)
    ∙ ap (λ (t : List ℕ). t ++ flat_map event_octets (events l.before ++ opening_events l.header))
    (octets_layers w ls a.0)
    ∙ ap (λ (t : List ℕ). spelling_of_layers ls ++ t) (
    octets_append (events l.before) (opening_events l.header)
    ∙ ap (λ (t : List ℕ). t ++ flat_map event_octets (opening_events l.header))
    (octets_whole (place_in w ls) l.before a.1.obeys_grammar a.1.whole)
    ∙ ap (λ (t : List ℕ). spelling l.before ++ t) (octets_opens l.header)
    )

octets_tail : (f : PhaseValue) (t : Tail) (p : Place) → IsPhaseOf f t p → IsAfterEvent f
    → flat_map event_octets (events_of_tail t) ≡ spelling_of_tail t
octets_tail Between NoTail p i k = refl
octets_tail (InHeader r) (HeaderTail octets) p i k = absurd k
octets_tail (InPrimitive left) (PrimitiveTail h c) p i k = ap (λ (l : List ℕ). octets_of h ++ l) (append-nil c)
octets_tail InBitString (BitStringTail h) p i k = append-nil (octets_of h)
octets_tail InEndOctets EndOctetsTail p i k = absurd k
octets_tail f t p i k = absurd i

-- a walker that has yielded an event of each octet
pub stands-yielded_octets : (w : WalkerState) (b : List ℕ) (yielded : List EventValue) → Stands w b yielded
    → IsAfterEvent w.phase → flat_map event_octets yielded ≡ b
stands-yielded_octets w b yielded st k =
    let s : Zipper = st.private_state.zipper in
    let h : HasZipper w b yielded s = st.private_state.has_zipper in
    octets_joined yielded (events_of_zipper s) h.same_events
    ∙ octets_append (events_of_layers s.layers) (events s.here ++ events_of_tail s.tail)
    ∙ ap (λ (t : List ℕ). t ++ flat_map event_octets (events s.here ++ events_of_tail s.tail))
    (octets_layers w.framing s.layers h.layers)
    ∙ ap (λ (t : List ℕ). spelling_of_layers s.layers ++ t) (
    octets_append (events s.here) (events_of_tail s.tail)
    ∙ ap (λ (t : List ℕ). t ++ flat_map event_octets (events_of_tail s.tail))
    (octets_whole (place_in w.framing s.layers) s.here h.here.obeys_grammar h.here.whole)
    ∙ ap (λ (t : List ℕ). spelling s.here ++ t) (octets_tail w.phase s.tail (place_of w.framing s) h.phase k)
    )
    ∙ h.spelled
