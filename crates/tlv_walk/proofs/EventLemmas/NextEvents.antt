-- The events that one more octet brings.
use Rattle.std.proofs.Common.{◌≡◌, inl, inr, ℕ, ◌+◌, Bool, true, false, cond, eqb, List, [], ◌∷◌, ◌++◌, length, refl}
use Rattle.std.proofs.Common.{sym, ap, ◌∙◌, append_assoc, append-nil, subst}
use Rattle.std.proofs.lemmas.Bool.{cases_Bool}
use Rattle.std.proofs.lemmas.List.{map_push}
use Rattle.tlv_head.specs.declared.fault.FaultCode.TheVariants.{BadEnd, BadInside, MissingEnd}
use Rattle.tlv_head.specs.Header.{HeaderValue, announced_length, octets_of}
use Rattle.tlv_walk.specs.Forest.{Forest, NoMore, PaddingOctet, Primitive, Holder, OpenPrimitive, OpenHolder}
use Rattle.tlv_walk.specs.Forest.{OpenBitString, OpenHeader, OpenEndOctets, holder_extent, lead}
use Rattle.tlv_walk.specs.Place.{ObeysGrammar, Place, place_after, place_of_children}
use Rattle.tlv_walk.specs.Events.{Begin, Bytes, End, Enter, EventValue, Pad, Unused, closing_event, events}
use Rattle.tlv_walk.specs.Events.{opening_events, single_octets}
use Rattle.tlv_walk.proofs.GrammarLemmas.Bounds.{fits}
use Rattle.tlv_walk.proofs.GrammarLemmas.PushSteps.{PushStep, Grown, Ended, Refused, holder_so_far, push_after}
use Rattle.tlv_walk.proofs.GrammarLemmas.PushSteps.{is_filled_by, primitive_so_far, push, settle}
use Rattle.tlv_walk.proofs.EventLemmas.JoinedEvents.{apart-before, apart-more, bytes_apart}
use Rattle.tlv_walk.proofs.GrammarLemmas.Leads.{lead-one}

-- the events of what a step gives
abbrev pub step_events : PushStep → List EventValue
step_events (Grown g) = events g
step_events (Ended g) = events g
step_events (Refused code) = []

-- the end of an element that holds others, if a step of what it holds is its last
abbrev pub closing_events : HeaderValue → PushStep → List EventValue
closing_events h (Grown g) = cond (is_filled_by h g) (closing_event h g ∷ []) []
closing_events h (Ended g) = closing_event h g ∷ []
closing_events h (Refused code) = []

-- what the octet x after a forest that obeys the grammar brings
abbrev pub gain_events : Place → Forest → ℕ → List EventValue
gain_events p NoMore x = step_events (push p NoMore x)
gain_events p (PaddingOctet rest) x = gain_events (place_after p 1) rest x
gain_events p (Primitive h c rest) x = gain_events (place_after p (length (octets_of h) + length c)) rest x
gain_events p (Holder h inside rest) x = gain_events (place_after p (holder_extent h inside)) rest x
gain_events p (OpenPrimitive h c) x =
    Bytes (x ∷ []) ∷ cond (eqb (length (c ++ x ∷ [])) (announced_length h.size)) (End ∷ []) []
gain_events p (OpenHolder h inside) x =
    gain_events (place_of_children p h) inside x ++ closing_events h (push (place_of_children p h) inside x)
gain_events p (OpenBitString h) x = cond (eqb x 0) (Unused ∷ closing_events h (Grown NoMore)) []
gain_events p (OpenHeader o) x = step_events (push p (OpenHeader o) x)
gain_events p OpenEndOctets x = []

-- the events of a step's forest are these, each octet by itself
abbrev pub Brings : List EventValue → PushStep → Type 0
Brings es (Grown g) = single_octets (events g) ≡ single_octets es
Brings es (Ended g) = single_octets (events g) ≡ single_octets es
Brings es (Refused code) = Unit {0}

-- a step brings its events
step-brings : (s : PushStep) → Brings (step_events s) s
step-brings (Grown g) = refl
step-brings (Ended g) = refl
step-brings (Refused code) = tt

-- after the first of the end-of-contents octets nothing is brought
end_octets-brings : (a b : Bool) → Brings [] (cond a (cond b (Ended NoMore) (Refused BadEnd)) (Refused MissingEnd))
end_octets-brings true true = refl
end_octets-brings true false = tt
end_octets-brings false b = tt

-- events that a step brings are brought after others
follow-brings : (f : Forest → Forest) (earlier yielded more : List EventValue) (s : PushStep)
    → ((g : Forest) → events (f g) ≡ earlier ++ events g) → Brings (yielded ++ more) s
    → Brings ((earlier ++ yielded) ++ more) (push_after f s)
follow-brings f earlier yielded more (Grown g) split e =
    ap single_octets (split g) ∙ apart-more earlier (events g) yielded more e
follow-brings f earlier yielded more (Ended g) split e =
    ap single_octets (split g) ∙ apart-more earlier (events g) yielded more e
follow-brings f earlier yielded more (Refused code) split e = tt

-- a contents octet of a primitive brings that octet, and the end after the last
open_primitive-brings : (h : HeaderValue) (c : List ℕ) (x : ℕ)
    → Brings
    (events (OpenPrimitive h c)
    ++ Bytes (x ∷ []) ∷ cond (eqb (length (c ++ x ∷ [])) (announced_length h.size)) (End ∷ []) [])
    (Grown (primitive_so_far h (c ++ x ∷ [])))
open_primitive-brings h c x = elim (cases_Bool (eqb (length (c ++ x ∷ [])) (announced_length h.size))) [
  | inl full ↦
      rw (full, map_push (λ x. Bytes (x ∷ [])) c x, append_assoc (bytes_apart c) (Bytes (x ∷ []) ∷ []) (End ∷ []))
  | inr less ↦ rw (less, map_push (λ x. Bytes (x ∷ [])) c x, append-nil (bytes_apart c ++ Bytes (x ∷ []) ∷ []))
]

-- an element that holds others ends with its last
holder-brings : (h : HeaderValue) (yielded more : List EventValue) (g : Forest)
    → single_octets (events g) ≡ single_octets (yielded ++ more)
    → single_octets (events (Holder h g NoMore))
    ≡ single_octets ((opening_events h ++ yielded) ++ (more ++ closing_event h g ∷ []))
holder-brings h yielded more g e =
    apart-more (opening_events h) (events g ++ closing_event h g ∷ []) yielded (more ++ closing_event h g ∷ [])
    (apart-before (events g) (yielded ++ more) (closing_event h g ∷ []) e
    ∙ ap single_octets (append_assoc yielded more (closing_event h g ∷ [])))

-- an element that holds others brings what they bring, and its end after the last
holder_so_far-brings : (h : HeaderValue) (yielded more : List EventValue) (g : Forest)
    → single_octets (events g) ≡ single_octets (yielded ++ more)
    → single_octets (events (holder_so_far h g))
    ≡ single_octets ((opening_events h ++ yielded) ++ (more ++ closing_events h (Grown g)))
holder_so_far-brings h yielded more g e = elim (cases_Bool (is_filled_by h g)) [
  | inl full ↦ rw full (holder-brings h yielded more g e)
  | inr less ↦ rw (less, append-nil more) (apart-more (opening_events h) (events g) yielded more e)
]

-- a step of what an element holds
settle-brings : (h : HeaderValue) (yielded more : List EventValue) (s : PushStep) → Brings (yielded ++ more) s
    → Brings ((opening_events h ++ yielded) ++ (more ++ closing_events h s)) (settle h s)
settle-brings h yielded more (Grown g) e = holder_so_far-brings h yielded more g e
settle-brings h yielded more (Ended g) e = holder-brings h yielded more g e
settle-brings h yielded more (Refused code) e = tt

-- a wrapping BIT STRING begins with its header and the octet before what it holds
waiting-opens : (h : HeaderValue) (constructed : Bool) → h.constructed ≡ constructed → lead h ≡ 0 ∷ []
    → opening_events h ≡ Enter h ∷ Unused ∷ []
waiting-opens h true c e = let none : List ℕ = [] in let e' : none ≡ 0 ∷ [] = rw c at e in absurd (cc)
waiting-opens h false c e = rw (e, c)

-- the first contents octet of a wrapping BIT STRING
open_bit_string-brings : (h : HeaderValue) (x : ℕ) → lead h ≡ 0 ∷ []
    → Brings (Enter h ∷ cond (eqb x 0) (Unused ∷ closing_events h (Grown NoMore)) [])
    (cond (eqb x 0) (Grown (holder_so_far h NoMore)) (Refused BadInside))
open_bit_string-brings h x e = elim (cases_Bool (eqb x 0)) [
  | inl z ↦ rw z
      (holder_so_far-brings h [] [] NoMore refl
      ∙ ap (λ (t : List EventValue). single_octets ((t ++ []) ++ closing_events h (Grown NoMore)))
      (waiting-opens h h.constructed refl e))
  | inr nz ↦ rw nz tt
]

-- the events of the forest pushed are those before, and then those that the octet brings
pub push-brings : (p : Place) (f : Forest) (x : ℕ) → ObeysGrammar p f
    → Brings (events f ++ gain_events p f x) (push p f x)
push-brings p NoMore x w = step-brings (push p NoMore x)
push-brings p (PaddingOctet rest) x w =
    follow-brings PaddingOctet (Pad (0 ∷ []) ∷ []) (events rest) _ _ (λ g. refl)
    (push-brings (place_after p 1) rest x w.1)
push-brings p (Primitive h c rest) x w =
    follow-brings (Primitive h c) (Begin h ∷ Bytes c ∷ End ∷ []) (events rest) _ _ (λ g. refl)
    (push-brings (place_after p (length (octets_of h) + length c)) rest x w.1)
push-brings p (Holder h inside rest) x w =
    let earlier : List EventValue = opening_events h ++ (events inside ++ closing_event h inside ∷ []) in
    let split : (g : Forest) → events (Holder h inside g) ≡ earlier ++ events g =
    λ g. rw (
      append_assoc (opening_events h) (events inside ++ closing_event h inside ∷ []) (events g),
      append_assoc (events inside) (closing_event h inside ∷ []) (events g),
    ) in
    let brings : Brings ((earlier ++ events rest) ++ gain_events p (Holder h inside rest) x)
    (push p (Holder h inside rest) x) =
    follow-brings (Holder h inside) earlier (events rest) _ _ split
    (push-brings (place_after p (holder_extent h inside)) rest x w.2) in
    subst
    (λ (es : List EventValue). Brings (es ++ gain_events p (Holder h inside rest) x) (push p (Holder h inside rest) x))
    (sym (split rest)) brings
push-brings p (OpenPrimitive h c) x w = open_primitive-brings h c x
push-brings p (OpenHolder h inside) x w =
    settle-brings h (events inside) _ _ (push-brings (place_of_children p h) inside x w.1)
push-brings p (OpenBitString h) x w = open_bit_string-brings h x (lead-one h w.1)
push-brings p (OpenHeader o) x w = step-brings (push p (OpenHeader o) x)
push-brings p OpenEndOctets x w = end_octets-brings (fits p 2) (eqb x 0)
