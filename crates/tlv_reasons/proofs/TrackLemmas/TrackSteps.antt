-- What is kept after the events of one element more.
use Rattle.std.proofs.Common.{◌≡◌, ℕ, zero, suc, ◌+◌, ◌-◌, ◌<◌, ◌≤◌, Bool, true, false, eqb, if◌then◌else◌, List}
use Rattle.std.proofs.Common.{[], ◌∷◌, ◌++◌, length, map, take, refl, sym, ap, ap₂, ◌∙◌, arith, length-append}
use Rattle.std.specs.Prelude.{Option, Some, None, nat_lt, slice_get}
use Rattle.tlv_head.specs.declared.header.Size.{Size}
use Rattle.tlv_head.specs.declared.header.Size.TheVariants.{Definite, Indefinite}
use Rattle.tlv_head.specs.Header.{HeaderValue, IsHeader, octets_of}
use Rattle.tlv_head.specs.HeaderSoFar.{AllowsSize}
use Rattle.tlv_head.specs.UniversalTypes as universal
use Rattle.tlv_walk.specs.Events.{Begin, Bytes, Close, End, Enter, EventValue, Leave, Open, Pad, Unused, closing_event}
use Rattle.tlv_walk.specs.Events.{event_octets, opening_events}
use Rattle.tlv_walk.proofs.GrammarLemmas.Leads.{end_offset}
use Rattle.tlv_walk.specs.Forest.{end_octets_offset}
use Rattle.tlv_walk.specs.Forest.{Forest, end_octets, lead, opening, primitive_extent, spelling}
use Rattle.tlv_walk.proofs.GrammarLemmas.Leads.{lead_by}
use Rattle.tlv_reasons.specs.declared.element.Element.{Element}
use Rattle.tlv_reasons.specs.declared.tracker.Tracker.{Tracker}
use Rattle.tlv_reasons.specs.Elements.{element_of}
use Rattle.tlv_reasons.specs.Private.Tracking.{element_ended, holder_ended, holder_noted, innermost, track, track_all}
use Rattle.tlv_reasons.specs.Private.Tracking.{with_nearest}

-- what is kept between elements: none has begun
abbrev pub tracker_with : List Element → Option Element → ℕ → List ℕ → ℕ → Tracker
tracker_with holders before top nearest offset = record {
  holders = record { items = holders };
  current = None;
  entered = None;
  before = before;
  top = top;
  nearest = record { items = take 25 nearest };
  offset = offset;
}

-- the offset after the last of the outermost elements, if one ends here with these around it
abbrev pub top_with : List Element → ℕ → ℕ → ℕ
top_with holders top end = if eqb (length holders) 0 then end else top

-- a prefix of a longer prefix
take-shorter : (n m : ℕ) (xs : List ℕ) → n ≤ m → take n (take m xs) ≡ take n xs
take-shorter zero m xs h = refl
take-shorter (suc n) zero xs h = absurd (omega arith)
take-shorter (suc n) (suc m) [] h = refl
take-shorter (suc n) (suc m) (x ∷ xs) h = ap (λ (l : List ℕ). x ∷ l) (take-shorter n m xs (omega arith))

-- one more before the nearest ones
take-nearest : (x : ℕ) (xs : List ℕ) → take 25 (x ∷ take 25 xs) ≡ take 25 (x ∷ xs)
take-nearest x xs = ap (λ (l : List ℕ). x ∷ l) (take-shorter 24 25 xs (omega arith))

-- the last of a list that ends with it, and those before it
last-get : {A : Type 0} (xs : List A) (x : A) → slice_get (xs ++ x ∷ []) (length (xs ++ x ∷ []) - 1) ≡ Some x
last-get xs x =
    ap (slice_get (xs ++ x ∷ [])) (omega (arith, length-append xs (x ∷ []))) ∙ at-seam xs x
  where
    at-seam : {A : Type 0} (xs : List A) (x : A) → slice_get (xs ++ x ∷ []) (length xs) ≡ Some x
    at-seam [] x = refl
    at-seam (y ∷ xs) x = at-seam xs x

all-but_last : {A : Type 0} (xs : List A) (x : A) → take (length (xs ++ x ∷ []) - 1) (xs ++ x ∷ []) ≡ xs
all-but_last xs x =
    ap (λ (n : ℕ). take n (xs ++ x ∷ [])) (omega (arith, length-append xs (x ∷ []))) ∙ up-to xs x
  where
    up-to : {A : Type 0} (xs : List A) (x : A) → take (length xs) (xs ++ x ∷ []) ≡ xs
    up-to [] x = refl
    up-to (y ∷ xs) x = ap (λ l. y ∷ l) (up-to xs x)

-- ---- padding, and a primitive

pub padding-step : (holders : List Element) (before : Option Element) (top : ℕ) (nearest : List ℕ) (offset : ℕ)
    (es : List EventValue)
    → track_all (tracker_with holders before top nearest offset) (Pad (0 ∷ []) ∷ es)
    ≡ track_all (tracker_with holders before top nearest (offset + 1)) es
padding-step holders before top nearest offset es = refl

pub primitive-step : (holders : List Element) (before : Option Element) (top : ℕ) (nearest : List ℕ) (offset : ℕ)
    (h : HeaderValue) (c : List ℕ) (es : List EventValue)
    → track_all (tracker_with holders before top nearest offset) (Begin h ∷ Bytes c ∷ End ∷ es)
    ≡ track_all
    (tracker_with holders (Some (element_of h)) (top_with holders top (offset + primitive_extent h c))
    (h.offset ∷ nearest) (offset + primitive_extent h c))
    es
primitive-step holders before top nearest offset h c es =
    let end : offset + length (octets_of h) + length c + 0 ≡ offset + primitive_extent h c = omega arith in
    ap₂
    (λ (n : ℕ) (near : List ℕ).
    track_all
    (record {
      holders = record { items = holders };
      current = None;
      entered = None;
      before = Some (element_of h);
      top = top_with holders top n;
      nearest = record { items = near };
      offset = n;
    })
    es)
    end (take-nearest h.offset nearest)

-- ---- an element that holds others

-- it is noted
noted : (holders : List Element) (before : Option Element) (top : ℕ) (nearest : List ℕ) (m n : ℕ) (h : HeaderValue)
    (es : List EventValue) → length holders < 128 → m ≡ n
    → track_all (holder_noted (element_of h) (tracker_with holders before top nearest m)) es
    ≡ track_all (tracker_with (holders ++ element_of h ∷ []) None top (h.offset ∷ nearest) n) es
noted holders before top nearest m n h es room same =
    let here : Tracker = tracker_with holders before top nearest m in
    ap
    (λ (b : Bool).
    track_all
    (if b
    then record (with_nearest h.offset here) {
      holders = record { items = holders ++ element_of h ∷ [] };
      before = None;
    }
    else here)
    es)
    (is-room (length holders) room)
    ∙ ap₂
    (λ (near : List ℕ) (offset : ℕ).
    track_all
    (record {
      holders = record { items = holders ++ element_of h ∷ [] };
      current = None;
      entered = None;
      before = None;
      top = top;
      nearest = record { items = near };
      offset = offset;
    })
    es)
    (take-nearest h.offset nearest) same
  where
    is-room : (n : ℕ) → n < 128 → nat_lt n 128 ≡ true
    is-room n less = grind arith

-- it begins: it is constructed or not, and a BIT STRING or not
opens-by : (holders : List Element) (before : Option Element) (top : ℕ) (nearest : List ℕ) (offset : ℕ)
    (h : HeaderValue) (es : List EventValue) (c k : Bool) → length holders < 128
    → eqb h.number universal.bit_string ≡ k
    → track_all (tracker_with holders before top nearest offset)
    (((if c then Open h else Enter h) ∷ map (λ z. Unused) (lead_by c k)) ++ es)
    ≡ track_all
    (tracker_with (holders ++ element_of h ∷ []) None top (h.offset ∷ nearest)
    (offset + length (octets_of h ++ lead_by c k)))
    es
opens-by holders before top nearest offset h es true k room e =
    noted holders before top nearest (offset + length (octets_of h)) (offset + length (octets_of h ++ [])) h es room
    (omega (arith, length-append (octets_of h) []))
opens-by holders before top nearest offset h es false true room e =
    let here : Tracker = tracker_with holders before top nearest (offset + length (octets_of h)) in
    ap
    (λ (b : Bool).
    track_all
    (track
    (if b then record here { entered = Some (element_of h) } else holder_noted (element_of h) here)
    Unused)
    es)
    e
    ∙ noted holders before top nearest (offset + length (octets_of h) + 1)
    (offset + length (octets_of h ++ 0 ∷ [])) h es room
    (omega (arith, length-append (octets_of h) (0 ∷ [])))
opens-by holders before top nearest offset h es false false room e =
    let here : Tracker = tracker_with holders before top nearest (offset + length (octets_of h)) in
    ap
    (λ (b : Bool).
    track_all
    (if b then record here { entered = Some (element_of h) } else holder_noted (element_of h) here)
    es)
    e
    ∙ noted holders before top nearest (offset + length (octets_of h)) (offset + length (octets_of h ++ [])) h es room
    (omega (arith, length-append (octets_of h) []))

pub holder-opens : (holders : List Element) (before : Option Element) (top : ℕ) (nearest : List ℕ) (offset : ℕ)
    (h : HeaderValue) (es : List EventValue) → length holders < 128
    → track_all (tracker_with holders before top nearest offset) (opening_events h ++ es)
    ≡ track_all
    (tracker_with (holders ++ element_of h ∷ []) None top (h.offset ∷ nearest) (offset + length (opening h))) es
holder-opens holders before top nearest offset h es room =
    opens-by holders before top nearest offset h es h.constructed (eqb h.number universal.bit_string) room refl

-- 8.6.2.2: of a BIT STRING that is named and holds encodings, the header alone is there
pub bit_string-entered : (holders : List Element) (before : Option Element) (top : ℕ) (nearest : List ℕ) (offset : ℕ)
    (h : HeaderValue) → lead h ≡ 0 ∷ []
    → track_all (tracker_with holders before top nearest offset) (Enter h ∷ [])
    ≡ record (tracker_with holders before top nearest (offset + length (octets_of h))) {
      entered = Some (element_of h);
    }
bit_string-entered holders before top nearest offset h e =
    let here : Tracker = tracker_with holders before top nearest (offset + length (octets_of h)) in
    ap
    (λ (b : Bool). if b then record here { entered = Some (element_of h) } else holder_noted (element_of h) here)
    (by h.constructed (eqb h.number universal.bit_string) e)
  where
    by : (c k : Bool) → lead_by c k ≡ 0 ∷ [] → k ≡ true
    by true k e = absurd (cc (e))
    by false true e = refl
    by false false e = absurd (cc (e))

close-octets : (size : Size) (offset : ℕ) → event_octets (Close (end_offset size offset)) ≡ end_octets size
close-octets (Definite n) offset = refl
close-octets Indefinite offset = refl

-- 8.1.3.2 a): the length of a string that holds encodings is definite
no-end_octets : (size : Size) → AllowsSize false size → end_octets size ≡ []
no-end_octets (Definite n) a = refl
no-end_octets Indefinite a = absurd (cc (a))

closing-octets : (h : HeaderValue) (children : Forest) → IsHeader h
    → event_octets (closing_event h children) ≡ end_octets h.size
closing-octets h children v = by h.constructed v.allowed
  where
    by : (c : Bool) → AllowsSize c h.size
        → event_octets (if c then Close (end_octets_offset h children) else Leave) ≡ end_octets h.size
    by true a = close-octets h.size (h.offset + length (opening h) + length (spelling children))
    by false a = sym (no-end_octets h.size a)

-- it ends
closes : (t : Tracker) (h : HeaderValue) (children : Forest)
    → track t (closing_event h children)
    ≡ holder_ended (innermost t) (record t { offset = t.offset + length (event_octets (closing_event h children)) })
closes t h children = by h.constructed
  where
    by : (c : Bool)
        → track t (if c then Close (end_octets_offset h children) else Leave)
        ≡ holder_ended (innermost t) (record t {
          offset =
              t.offset + length (event_octets (if c then Close (end_octets_offset h children) else Leave));
        })
    by true = refl
    by false = refl

pub holder-closes : (holders : List Element) (e : Element) (before : Option Element) (top : ℕ) (nearest : List ℕ)
    (offset : ℕ) (h : HeaderValue) (children : Forest) (es : List EventValue) → IsHeader h
    → track_all (tracker_with (holders ++ e ∷ []) before top nearest offset) (closing_event h children ∷ es)
    ≡ track_all
    (tracker_with holders (Some e) (top_with holders top (offset + length (end_octets h.size))) nearest
    (offset + length (end_octets h.size)))
    es
holder-closes holders e before top nearest offset h children es v =
    ap (λ (t : Tracker). track_all t es)
    (closes (tracker_with (holders ++ e ∷ []) before top nearest offset) h children)
    ∙ ap
    (λ (o : List ℕ).
    track_all (holder_ended (slice_get (holders ++ e ∷ []) (length (holders ++ e ∷ []) - 1)) (at o)) es)
    (closing-octets h children v)
    ∙ ap (λ (found : Option Element). track_all (holder_ended found (at (end_octets h.size))) es) (last-get holders e)
    ∙ ap
    (λ (left : List Element).
    track_all (element_ended e (record (at (end_octets h.size)) { holders = record { items = left } })) es)
    (all-but_last holders e)
  where
    at : List ℕ → Tracker
    at o = record (tracker_with (holders ++ e ∷ []) before top nearest offset) { offset = offset + length o }
