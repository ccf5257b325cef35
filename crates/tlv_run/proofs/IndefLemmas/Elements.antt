-- What an `Indef` makes of the events of elements is what `indef` writes.
use Rattle.std.proofs.Common.{refl, sym, ap, ap₂, ◌∙◌, append-nil, flat_map}
use Rattle.std.specs.Prelude.{◌≡◌, ℕ, ◌+◌, Bool, true, false, eqb, if◌then◌else◌, List, [], ◌∷◌, ◌++◌, length}
use Rattle.std.specs.Prelude.{map, Option}
use Rattle.std.proofs.lemmas.Grind.{flat_map-append}
use Rattle.tlv_head.specs.Header.{HeaderValue, spell_indefinite, octets_of}
use Rattle.tlv_walk.specs.Events.{Close, Enter, EventValue, Leave, Open, Unused, closing_event, events}
use Rattle.tlv_walk.specs.Events.{opening_events}
use Rattle.tlv_walk.specs.Follow.{Effect, effect_of, effect_with}
use Rattle.tlv_walk.specs.Forest.{Forest, NoMore, PaddingOctet, Primitive, Holder, OpenPrimitive, OpenHolder}
use Rattle.tlv_walk.specs.Forest.{OpenBitString, OpenHeader, OpenEndOctets}
use Rattle.tlv_walk.specs.Forest.{end_octets_offset, holder_extent, opening}
use Rattle.tlv_walk.specs.Place.{ObeysGrammar, Place, place_after, place_of_children, top_place}
use Rattle.tlv_walk.proofs.GrammarLemmas.Leads.{lead_by}
use Rattle.tlv_run.specs.Indef.{indef_framing, indef_text, indefinite_header}
use Rattle.tlv_run.specs.IndefStep.{IndefState, indef_event_text, indef_step}
use Rattle.tlv_run.specs.CutLaws.{IndefMakesItsText}
use Rattle.tlv_run.proofs.IndefLemmas.Offsets.{constructed_at}

-- the octets that are put for events
abbrev pub events_text : List EventValue → List ℕ
events_text es = flat_map indef_event_text es

-- the state stays, and more is always wanted
pub followed-indef_step : (s : IndefState) (es : List EventValue)
    → effect_of indef_step s es ≡ effect_with s (events_text es)
followed-indef_step s [] = refl
followed-indef_step s (e ∷ es) =
    ap (λ (t : Effect IndefState). record { state = t.state; put = indef_event_text e ++ t.put; goes = t.goes })
    (followed-indef_step s es)

-- for some events and then others
pub events_text-append : (xs ys : List EventValue) → events_text (xs ++ ys) ≡ events_text xs ++ events_text ys
events_text-append xs ys = flat_map-append indef_event_text xs ys

-- what is put before the elements that an element holds, and after them
abbrev opening_by : Bool → HeaderValue → List ℕ
opening_by constructed h = if constructed then spell_indefinite h else opening h

abbrev end_by : Bool → List ℕ
end_by constructed = if constructed then 0 ∷ 0 ∷ [] else []

-- what is put as an element begins that holds others
opens_by : (constructed three : Bool) (h : HeaderValue) → constructed ≡ h.constructed
    → events_text ((if constructed then Open h else Enter h) ∷ map (λ z. Unused) (lead_by constructed three))
    ≡ (if constructed then spell_indefinite h else octets_of h ++ lead_by constructed three)
opens_by true three h e =
    append-nil (indef_event_text (Open h)) ∙ ap (λ (k : Bool). if k then spell_indefinite h else octets_of h) (sym e)
opens_by false true h e = refl
opens_by false false h e = refl

-- in a constructed element nothing is between the indefinite length and what it holds
no_lead : (h : HeaderValue) → h.constructed ≡ true → spell_indefinite h ≡ opening (indefinite_header h)
no_lead h e =
    sym (ap (λ (k : Bool). spell_indefinite h ++ lead_by k (eqb h.number 3)) e ∙ append-nil (spell_indefinite h))

opens_put : (h : HeaderValue) → h.constructed ≡ true → events_text (opening_events h) ≡ opening (indefinite_header h)
opens_put h e =
    opens_by h.constructed (eqb h.number 3) h refl ∙ ap (λ (k : Bool). opening_by k h) e ∙ no_lead h e

-- and as it ends
closes_by : (constructed : Bool) (offset : Option ℕ)
    → indef_event_text (if constructed then Close offset else Leave) ≡ end_by constructed
closes_by true offset = refl
closes_by false offset = refl

closes_put : (h : HeaderValue) (inside : Forest) → h.constructed ≡ true
    → indef_event_text (closing_event h inside) ≡ 0 ∷ 0 ∷ []
closes_put h inside e = closes_by h.constructed (end_octets_offset h inside) ∙ ap end_by e

-- what is put for the events of elements, where no string is named
pub events_text-events : (p : Place) (f : Forest) → p.inside ≡ [] → ObeysGrammar p f
    → events_text (events f) ≡ indef_text f
events_text-events p NoMore n v = refl
events_text-events p (PaddingOctet rest) n v =
    ap (λ (l : List ℕ). 0 ∷ l) (events_text-events (place_after p 1) rest n v.1)
events_text-events p (Primitive h c rest) n v =
    ap (λ (l : List ℕ). octets_of h ++ (c ++ l))
    (events_text-events (place_after p (length (octets_of h) + length c)) rest n v.1)
events_text-events p (Holder h inside rest) n v =
    let constructed = constructed_at p h n v.0.0.header v.0.0.holding in
    events_text-append (opening_events h) (events inside ++ closing_event h inside ∷ events rest)
    ∙ ap₂ (λ (k l : List ℕ). k ++ l) (opens_put h constructed)
    (events_text-append (events inside) (closing_event h inside ∷ events rest)
    ∙ ap₂ (λ (k l : List ℕ). k ++ l) (events_text-events (place_of_children p h) inside n v.1)
    (ap₂ (λ (k l : List ℕ). k ++ l) (closes_put h inside constructed)
    (events_text-events (place_after p (holder_extent h inside)) rest n v.2)))
events_text-events p (OpenPrimitive h c) n v = ap (λ (l : List ℕ). octets_of h ++ l) (append-nil c)
events_text-events p (OpenHolder h inside) n v =
    events_text-append (opening_events h) (events inside)
    ∙ ap₂ (λ (k l : List ℕ). k ++ l) (opens_put h (constructed_at p h n v.0.0.header v.0.0.holding))
    (events_text-events (place_of_children p h) inside n v.1)
events_text-events p (OpenBitString h) n v = append-nil (octets_of h)
events_text-events p (OpenHeader octets) n v = refl
events_text-events p OpenEndOctets n v = refl

-- what an `Indef` makes of the events of elements
pub followed-events : IndefMakesItsText
followed-events s padding f v =
    followed-indef_step s (events f)
    ∙ ap (effect_with s) (events_text-events (top_place (indef_framing padding)) f refl v)
