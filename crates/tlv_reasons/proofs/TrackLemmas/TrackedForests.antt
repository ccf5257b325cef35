-- What is kept of the events of a forest, by the forest.
use Rattle.std.proofs.Common.{◌≡◌, inl, inr, ℕ, ◌+◌, ◌<◌, Bool, true, false, eqb, if◌then◌else◌, List, [], ◌∷◌, ◌++◌}
use Rattle.std.proofs.Common.{length, take, refl, sym, ap, ap₂, ◌∙◌, subst, arith, append-nil, append_assoc}
use Rattle.std.proofs.Common.{length-append}
use Rattle.std.specs.Prelude.{Option, Some, None}
use Rattle.std.proofs.lemmas.Bool.{cases_Bool, true≢false}
use Rattle.tlv_walk.specs.Ending.{open_end}
use Rattle.tlv_walk.specs.Events.{EventValue, closing_event, events, opening_events}
use Rattle.tlv_walk.specs.Forest.{Forest, Holder, NoMore, OpenBitString, OpenEndOctets, OpenHeader, OpenHolder}
use Rattle.tlv_walk.specs.Forest.{OpenPrimitive, PaddingOctet, Primitive, end_octets, holder_extent, is_whole, opening}
use Rattle.tlv_walk.specs.Forest.{primitive_extent, spelling}
use Rattle.tlv_walk.specs.Place.{ObeysGrammar, Place, place_after, place_of_children}
use Rattle.tlv_walk.proofs.GrammarLemmas.Leads.{lead-one}
use Rattle.tlv_walk.proofs.GrammarLemmas.Spellings.{length-holder, length-primitive}
use Rattle.tlv_reasons.specs.declared.element.Element.{Element}
use Rattle.tlv_reasons.specs.declared.tracker.Tracker.{Tracker}
use Rattle.tlv_reasons.specs.Elements.{element_of}
use Rattle.tlv_reasons.specs.Facts.{last_whole, offsets_before, open_holders, whole_end}
use Rattle.tlv_reasons.specs.Private.Tracking.{track_all}
use Rattle.tlv_reasons.proofs.TrackLemmas.TrackSteps.{bit_string-entered, holder-closes, holder-opens, primitive-step}
use Rattle.tlv_reasons.proofs.TrackLemmas.TrackSteps.{top_with, tracker_with}

-- the offset after the last whole one of the outermost elements, after these that have others around them
abbrev pub top_after : List Element → ℕ → Forest → ℕ
top_after holders top f = if eqb (length holders) 0 then whole_end top f else top

-- an element that ends there, and others after it
top-more : (holders : List Element) (top end : ℕ) (rest f : Forest) → whole_end top f ≡ whole_end end rest
    → top_after holders (top_with holders top end) rest ≡ top_after holders top f
top-more holders top end rest f e = elim (cases_Bool (eqb (length holders) 0)) [
  | inl none ↦ rw none (sym e)
  | inr some ↦ rw some refl
]

-- what is inside others
top-inside : (holders : List Element) (e : Element) (top : ℕ) (f : Forest) → top_after (holders ++ e ∷ []) top f ≡ top
top-inside holders e top f = by (length (holders ++ e ∷ [])) (omega (arith, length-append holders (e ∷ [])))
  where
    by : (n : ℕ) → 0 < n → (if eqb n 0 then whole_end top f else top) ≡ top
    by n some = grind arith

-- the same, kept at an equal offset
tracked-at : (holders : List Element) (before : Option Element) (t u : ℕ) (nearest : List ℕ) (m n : ℕ)
    (es : List EventValue) → t ≡ u → m ≡ n
    → track_all (tracker_with holders before t nearest m) es ≡ track_all (tracker_with holders before u nearest n) es
tracked-at holders before t u nearest m n es e d =
    ap₂ (λ (t m : ℕ). track_all (tracker_with holders before t nearest m) es) e d

-- whole elements, and other events after them
pub whole-tracked : (p : Place) (f : Forest) (holders : List Element) (before : Option Element) (top : ℕ)
    (nearest : List ℕ) (es : List EventValue) → ObeysGrammar p f → is_whole f ≡ true
    → length holders ≡ p.depth
    → track_all (tracker_with holders before top nearest p.offset) (events f ++ es)
    ≡ track_all
    (tracker_with holders (last_whole before f) (top_after holders top f) (offsets_before nearest f)
    (p.offset + length (spelling f)))
    es
whole-tracked p NoMore holders before top nearest es o whole depth =
    tracked-at holders before top (top_after holders top NoMore) nearest p.offset (p.offset + 0) es
    (no-top (eqb (length holders) 0)) (omega arith)
  where
    no-top : (b : Bool) → top ≡ (if b then top else top)
    no-top true = refl
    no-top false = refl
whole-tracked p (PaddingOctet rest) holders before top nearest es o whole depth =
    whole-tracked (place_after p 1) rest holders before top nearest es o.1 whole depth
    ∙ tracked-at holders (last_whole before rest) (top_after holders top rest) (top_after holders top rest)
    (offsets_before nearest rest) (p.offset + 1 + length (spelling rest))
    (p.offset + length (spelling (PaddingOctet rest))) es refl (omega arith)
whole-tracked p (Primitive h c rest) holders before top nearest es o whole depth =
    let end : ℕ = p.offset + primitive_extent h c in
    let ends : whole_end top (Primitive h c rest) ≡ whole_end end rest =
    ap (λ (n : ℕ). whole_end (n + primitive_extent h c) rest) o.0.0.header.offset in
    primitive-step holders before top nearest p.offset h c (events rest ++ es)
    ∙ whole-tracked (place_after p (primitive_extent h c)) rest holders (Some (element_of h))
    (top_with holders top end) (h.offset ∷ nearest) es o.1 whole depth
    ∙ tracked-at holders (last_whole (Some (element_of h)) rest) (top_after holders (top_with holders top end) rest)
    (top_after holders top (Primitive h c rest)) (offsets_before (h.offset ∷ nearest) rest)
    (end + length (spelling rest)) (p.offset + length (spelling (Primitive h c rest))) es
    (top-more holders top end rest (Primitive h c rest) ends)
    (omega (arith, length-primitive h c rest))
whole-tracked p (Holder h children rest) holders before top nearest es o whole depth =
    let e : Element = element_of h in
    let end : ℕ = p.offset + length (opening h) + length (spelling children) + length (end_octets h.size) in
    let there : end ≡ p.offset + holder_extent h children = omega arith in
    let ends : whole_end top (Holder h children rest) ≡ whole_end end rest =
    ap (λ (n : ℕ). whole_end (n + holder_extent h children) rest) o.0.0.header.offset
    ∙ ap (λ (n : ℕ). whole_end n rest) (sym there) in
    ap (track_all (tracker_with holders before top nearest p.offset))
    (append_assoc (opening_events h) (events children ++ closing_event h children ∷ events rest) es
    ∙ ap (λ (l : List EventValue). opening_events h ++ l)
    (append_assoc (events children) (closing_event h children ∷ events rest) es))
    ∙ holder-opens holders before top nearest p.offset h
    (events children ++ closing_event h children ∷ (events rest ++ es)) (omega (arith, o.0.0.shallow, depth))
    ∙ whole-tracked (place_of_children p h) children (holders ++ e ∷ []) None top (h.offset ∷ nearest)
    (closing_event h children ∷ (events rest ++ es)) o.1 o.0.1
    (omega (arith, depth, length-append holders (e ∷ [])))
    ∙ tracked-at (holders ++ e ∷ []) (last_whole None children) (top_after (holders ++ e ∷ []) top children) top
    (offsets_before (h.offset ∷ nearest) children) (p.offset + length (opening h) + length (spelling children))
    (p.offset + length (opening h) + length (spelling children)) (closing_event h children ∷ (events rest ++ es))
    (top-inside holders e top children) refl
    ∙ holder-closes holders e (last_whole None children) top (offsets_before (h.offset ∷ nearest) children)
    (p.offset + length (opening h) + length (spelling children)) h children (events rest ++ es) o.0.0.header.valid
    ∙ tracked-at holders (Some e) (top_with holders top end) (top_with holders top end)
    (offsets_before (h.offset ∷ nearest) children) end (p.offset + holder_extent h children) (events rest ++ es) refl there
    ∙ whole-tracked (place_after p (holder_extent h children)) rest holders (Some e) (top_with holders top end)
    (offsets_before (h.offset ∷ nearest) children) es o.2 whole depth
    ∙ tracked-at holders (last_whole (Some e) rest) (top_after holders (top_with holders top end) rest)
    (top_after holders top (Holder h children rest))
    (offsets_before (offsets_before (h.offset ∷ nearest) children) rest)
    (p.offset + holder_extent h children + length (spelling rest)) (p.offset + length (spelling (Holder h children rest))) es
    (top-more holders top end rest (Holder h children rest) ends)
    (omega (arith, length-holder h children rest))
whole-tracked p (OpenPrimitive h c) holders before top nearest es o whole depth = absurd (true≢false (sym whole))
whole-tracked p (OpenHolder h children) holders before top nearest es o whole depth =
    absurd (true≢false (sym whole))
whole-tracked p (OpenBitString h) holders before top nearest es o whole depth = absurd (true≢false (sym whole))
whole-tracked p (OpenHeader octets) holders before top nearest es o whole depth = absurd (true≢false (sym whole))
whole-tracked p OpenEndOctets holders before top nearest es o whole depth = absurd (true≢false (sym whole))

-- ---- up to the open end

-- the primitive that has begun at an open end
abbrev pub begun_primitive : Forest → Option Element
begun_primitive (OpenPrimitive h c) = Some (element_of h)
begun_primitive end = None

-- the BIT STRING that holds encodings, and of which the header alone is there, at an open end
abbrev pub entered_bit_string : Forest → Option Element
entered_bit_string (OpenBitString h) = Some (element_of h)
entered_bit_string end = None

-- what is kept of the events of a forest, after what was kept before it
pub record IsTracked (p : Place) (f : Forest) (holders : List Element) (before : Option Element) (top : ℕ)
    (nearest : List ℕ) (t : Tracker)
    : Type 0 where
  pub holders_are : t.holders.items ≡ holders ++ open_holders f
  pub current : t.current ≡ begun_primitive (open_end p f).forest
  pub entered : t.entered ≡ entered_bit_string (open_end p f).forest
  pub before_is : t.before ≡ last_whole before f
  pub top_is : t.top ≡ top_after holders top f
  pub nearest_are : t.nearest.items ≡ take 25 (offsets_before nearest f)
  pub offset : t.current ≡ None → t.entered ≡ None → t.offset ≡ (open_end p f).place.offset

same-top : (holders : List Element) (top : ℕ) → top ≡ (if eqb (length holders) 0 then top else top)
same-top holders top = by (eqb (length holders) 0)
  where
    by : (b : Bool) → top ≡ (if b then top else top)
    by true = refl
    by false = refl

-- what follows an element is kept as what follows the forest does
tracked-later : (p q : Place) (f g : Forest) (holders : List Element) (before b : Option Element) (top u : ℕ)
    (nearest n : List ℕ) (t : Tracker) → open_holders g ≡ open_holders f → open_end q g ≡ open_end p f
    → last_whole b g ≡ last_whole before f → top_after holders u g ≡ top_after holders top f
    → offsets_before n g ≡ offsets_before nearest f → IsTracked q g holders b u n t
    → IsTracked p f holders before top nearest t
tracked-later p q f g holders before b top u nearest n t same end whole tops offsets i = record {
  holders_are = i.holders_are ∙ ap (λ (l : List Element). holders ++ l) same;
  current = i.current ∙ ap (λ e. begun_primitive e.forest) end;
  entered = i.entered ∙ ap (λ e. entered_bit_string e.forest) end;
  before_is = i.before_is ∙ whole;
  top_is = i.top_is ∙ tops;
  nearest_are = i.nearest_are ∙ ap (take 25) offsets;
  offset = λ none out. i.offset none out ∙ ap (λ e. e.place.offset) end;
}

-- events of an element that holds others are those of it by itself, and of what follows
holder-first : (xs ys zs : List EventValue) (e : EventValue) → xs ++ (ys ++ e ∷ zs) ≡ (xs ++ (ys ++ e ∷ [])) ++ zs
holder-first xs ys zs e =
    sym (append_assoc xs (ys ++ e ∷ []) zs ∙ ap (λ (l : List EventValue). xs ++ l) (append_assoc ys (e ∷ []) zs))

-- of a forest that may be open
pub forest-tracked : (p : Place) (f : Forest) (holders : List Element) (before : Option Element) (top : ℕ)
    (nearest : List ℕ) → ObeysGrammar p f → length holders ≡ p.depth
    → IsTracked p f holders before top nearest (track_all (tracker_with holders before top nearest p.offset) (events f))
forest-tracked p NoMore holders before top nearest o depth = record {
  holders_are = sym (append-nil holders);
  current = refl;
  entered = refl;
  before_is = refl;
  top_is = same-top holders top;
  nearest_are = refl;
  offset = λ _ z. refl;
}
forest-tracked p (PaddingOctet rest) holders before top nearest o depth =
    tracked-later p (place_after p 1) (PaddingOctet rest) rest holders before before top top nearest nearest
    (track_all (tracker_with holders before top nearest (p.offset + 1)) (events rest)) refl refl refl refl refl
    (forest-tracked (place_after p 1) rest holders before top nearest o.1 depth)
forest-tracked p (Primitive h c rest) holders before top nearest o depth =
    let end : ℕ = p.offset + primitive_extent h c in
    let ends : whole_end top (Primitive h c rest) ≡ whole_end end rest =
    ap (λ (n : ℕ). whole_end (n + primitive_extent h c) rest) o.0.0.header.offset in
    subst (λ (t : Tracker). IsTracked p (Primitive h c rest) holders before top nearest t)
    (sym (primitive-step holders before top nearest p.offset h c (events rest)))
    (tracked-later p (place_after p (primitive_extent h c)) (Primitive h c rest) rest holders before
    (Some (element_of h)) top (top_with holders top end) nearest (h.offset ∷ nearest)
    (track_all (tracker_with holders (Some (element_of h)) (top_with holders top end) (h.offset ∷ nearest) end)
    (events rest))
    refl refl refl (top-more holders top end rest (Primitive h c rest) ends) refl
    (forest-tracked (place_after p (primitive_extent h c)) rest holders (Some (element_of h))
    (top_with holders top end) (h.offset ∷ nearest) o.1 depth))
forest-tracked p (Holder h children rest) holders before top nearest o depth =
    let end : ℕ = h.offset + holder_extent h children in
    let next : Tracker =
    tracker_with holders (Some (element_of h)) (top_with holders top end)
    (offsets_before (h.offset ∷ nearest) children) (p.offset + holder_extent h children) in
    let same : track_all (tracker_with holders before top nearest p.offset) (events (Holder h children rest))
    ≡ track_all next (events rest) =
    ap (track_all (tracker_with holders before top nearest p.offset))
    (holder-first (opening_events h) (events children) (events rest) (closing_event h children))
    ∙ whole-tracked p (Holder h children NoMore) holders before top nearest (events rest) (o.0, o.1, tt) refl depth
    ∙ tracked-at holders (Some (element_of h)) (top_with holders top end) (top_with holders top end)
    (offsets_before (h.offset ∷ nearest) children) (p.offset + length (spelling (Holder h children NoMore)))
    (p.offset + holder_extent h children) (events rest) refl (omega (arith, length-holder h children NoMore)) in
    subst (λ (t : Tracker). IsTracked p (Holder h children rest) holders before top nearest t) (sym same)
    (tracked-later p (place_after p (holder_extent h children)) (Holder h children rest) rest holders before
    (Some (element_of h)) top (top_with holders top end) nearest (offsets_before (h.offset ∷ nearest) children)
    (track_all next (events rest)) refl refl refl (top-more holders top end rest (Holder h children rest) refl) refl
    (forest-tracked (place_after p (holder_extent h children)) rest holders (Some (element_of h))
    (top_with holders top end) (offsets_before (h.offset ∷ nearest) children) o.2 depth))
forest-tracked p (OpenPrimitive h c) holders before top nearest o depth = record {
  holders_are = sym (append-nil holders);
  current = refl;
  entered = refl;
  before_is = refl;
  top_is = same-top holders top;
  nearest_are = refl;
  offset = λ z _. absurd (cc (z));
}
forest-tracked p (OpenHolder h children) holders before top nearest o depth =
    let e : Element = element_of h in
    let next : Tracker =
    track_all (tracker_with (holders ++ e ∷ []) None top (h.offset ∷ nearest) (p.offset + length (opening h)))
    (events children) in
    let same : track_all (tracker_with holders before top nearest p.offset) (events (OpenHolder h children)) ≡ next =
    holder-opens holders before top nearest p.offset h (events children) (omega (arith, o.0.0.shallow, depth)) in
    let i : IsTracked (place_of_children p h) children (holders ++ e ∷ []) None top (h.offset ∷ nearest) next =
    forest-tracked (place_of_children p h) children (holders ++ e ∷ []) None top (h.offset ∷ nearest) o.1
    (omega (arith, depth, length-append holders (e ∷ []))) in
    subst (λ (t : Tracker). IsTracked p (OpenHolder h children) holders before top nearest t) (sym same)
    (record {
      holders_are = i.holders_are ∙ append_assoc holders (e ∷ []) (open_holders children);
      current = i.current;
      entered = i.entered;
      before_is = i.before_is;
      top_is = i.top_is ∙ top-inside holders e top children ∙ same-top holders top;
      nearest_are = i.nearest_are;
      offset = i.offset;
    })
forest-tracked p (OpenBitString h) holders before top nearest o depth =
    subst (λ (t : Tracker). IsTracked p (OpenBitString h) holders before top nearest t)
    (sym (bit_string-entered holders before top nearest p.offset h (lead-one h o.1)))
    (record {
      holders_are = sym (append-nil holders);
      current = refl;
      entered = refl;
      before_is = refl;
      top_is = same-top holders top;
      nearest_are = refl;
      offset = λ _ z. absurd (cc (z));
    })
forest-tracked p (OpenHeader octets) holders before top nearest o depth = record {
  holders_are = sym (append-nil holders);
  current = refl;
  entered = refl;
  before_is = refl;
  top_is = same-top holders top;
  nearest_are = refl;
  offset = λ _ z. refl;
}
forest-tracked p OpenEndOctets holders before top nearest o depth = record {
  holders_are = sym (append-nil holders);
  current = refl;
  entered = refl;
  before_is = refl;
  top_is = same-top holders top;
  nearest_are = refl;
  offset = λ _ z. refl;
}
