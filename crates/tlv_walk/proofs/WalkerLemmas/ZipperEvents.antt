-- The events and the wrappers of a forest that is taken apart along its open elements.
use Rattle.std.proofs.Common.{◌≡◌, inl, inr, ℕ, Bool, true, false, not, if◌then◌else◌, List, [], ◌∷◌, ◌++◌, length}
use Rattle.std.proofs.Common.{None, refl, sym, ap, ◌∙◌, append_assoc, append-nil}
use Rattle.std.proofs.lemmas.Bool.{cases_Bool, true≢false}
use Rattle.tlv_head.specs.declared.header.Size.{Size}
use Rattle.tlv_head.specs.declared.header.Size.TheVariants.{Definite, Indefinite}
use Rattle.tlv_head.specs.Header.{HeaderValue}
use Rattle.tlv_walk.specs.declared.framing.Framing.{Framing}
use Rattle.tlv_walk.specs.Events.{Begin, Bytes, Close, End, EventValue, Leave, Pad, closing_event, events}
use Rattle.tlv_walk.proofs.GrammarLemmas.Leads.{end_offset}
use Rattle.tlv_walk.specs.Events.{opening_events}
use Rattle.tlv_walk.specs.Forest.{Forest, Holder, NoMore, OpenBitString, OpenEndOctets, OpenHeader, OpenHolder}
use Rattle.tlv_walk.specs.Forest.{OpenPrimitive, PaddingOctet, Primitive, contents_length, end_octets, is_whole}
use Rattle.tlv_walk.specs.Forest.{spelling}
use Rattle.tlv_walk.specs.Walker.{filled_end_event, filled_end_events}
use Rattle.tlv_walk.specs.Private.Zipper.{AreLayers, AreWhole, Layer, events_of_layers, frame_at, frames_of, place_in}
use Rattle.tlv_walk.specs.Place.{Place, place_after}
use Rattle.tlv_walk.proofs.GrammarLemmas.Bounds.{IsDefiniteLength}
use Rattle.tlv_walk.proofs.GrammarLemmas.PushSteps.{is_filled_by}
use Rattle.tlv_walk.proofs.GrammarLemmas.ElementEnds.{IsEnded, end_in, end-filled, filled-ended, filled-full}
use Rattle.tlv_walk.proofs.WalkerLemmas.Zipper.{followed_by, settled_forest, forest_in_layers}

-- ---- whole elements, and then others

-- their events
pub events-followed_by : (f g : Forest) → is_whole f ≡ true → events (followed_by f g) ≡ events f ++ events g
events-followed_by NoMore g e = refl
events-followed_by (PaddingOctet rest) g e =
    ap (λ (t : List EventValue). Pad (0 ∷ []) ∷ t) (events-followed_by rest g e)
events-followed_by (Primitive h c rest) g e =
    ap (λ (t : List EventValue). Begin h ∷ Bytes c ∷ End ∷ t) (events-followed_by rest g e)
events-followed_by (Holder h inside rest) g e =
    ap (λ (t : List EventValue). opening_events h ++ (events inside ++ closing_event h inside ∷ t))
    (events-followed_by rest g e)
    ∙ ap (λ (t : List EventValue). opening_events h ++ t)
    (sym (append_assoc (events inside) (closing_event h inside ∷ events rest) (events g)))
    ∙ sym (append_assoc (opening_events h) (events inside ++ closing_event h inside ∷ events rest) (events g))
events-followed_by (OpenPrimitive h c) g e = absurd (true≢false (sym e))
events-followed_by (OpenHolder h inside) g e = absurd (true≢false (sym e))
events-followed_by (OpenBitString h) g e = absurd (true≢false (sym e))
events-followed_by (OpenHeader octets) g e = absurd (true≢false (sym e))
events-followed_by OpenEndOctets g e = absurd (true≢false (sym e))

-- ---- elements in the innermost open one

-- their events, after those of the layers
pub events-within : (w : Framing) (ls : List Layer) (f : Forest) → AreLayers w ls
    → events (forest_in_layers ls f) ≡ events_of_layers ls ++ events f
events-within w [] f a = refl
events-within w (l ∷ ls) f a =
    events-within w ls (followed_by l.before (OpenHolder l.header f)) a.0
    ∙ ap (λ (t : List EventValue). events_of_layers ls ++ t)
    (events-followed_by l.before (OpenHolder l.header f) a.1.whole
    ∙ sym (append_assoc (events l.before) (opening_events l.header) (events f)))
    ∙ sym (append_assoc (events_of_layers ls) (events l.before ++ opening_events l.header) (events f))

-- ---- whole elements in the innermost open one, where each element that is filled ends

-- `closes-filled`, by the fields
closes-definite : (constructed : Bool) (s : Size) (offset : ℕ) → end_octets s ≡ []
    → (if constructed then Close (end_offset s offset) else Leave) ≡ (if not constructed then Leave else Close None)
closes-definite true (Definite n) offset e = refl
closes-definite true Indefinite offset e = absurd (cc)
closes-definite false s offset e = refl

-- the end of an element that is filled is that of its frame
closes-filled : (p : Place) (h : HeaderValue) (f : Forest) → is_filled_by h f ≡ true
    → closing_event h f ≡ filled_end_event (frame_at p h)
closes-filled p h f e =
    let full : IsDefiniteLength h.size (contents_length h f) =
    filled-full h f e in closes-definite h.constructed h.size _ full.ends

-- events of layers, of whole elements in the innermost, and of its end
regroup-end : (around earlier start inside ends : List EventValue) (c d : EventValue) → c ≡ d
    → (around ++ (earlier ++ (start ++ (inside ++ c ∷ [])))) ++ ends
    ≡ ((around ++ (earlier ++ start)) ++ inside) ++ (d ∷ ends)
regroup-end around earlier start inside ends c d e = rw e (simp append_assoc)

-- their events, after those of the layers, and then the ends of the elements that are filled
pub events-settled : (w : Framing) (ls : List Layer) (f : Forest) → AreLayers w ls → AreWhole (place_in w ls) f
    → events (settled_forest ls f)
    ≡ (events_of_layers ls ++ events f) ++ filled_end_events (end_in w ls f) (frames_of w ls)
events-settled w [] f a i = sym (append-nil (events f))
events-settled w (l ∷ ls) f a i = elim (cases_Bool (is_filled_by l.header f)) [
  | inl e ↦
      let d : IsEnded w l ls f = filled-ended w l ls f a i e in
      let r : events (settled_forest ls (followed_by l.before (Holder l.header f NoMore)))
      ≡ (events_of_layers ls ++ events (followed_by l.before (Holder l.header f NoMore)))
      ++ filled_end_events (end_in w ls (followed_by l.before (Holder l.header f NoMore))) (frames_of w ls) =
      events-settled w ls (followed_by l.before (Holder l.header f NoMore)) a.0 d.are_whole in
      let s : (events_of_layers ls ++ events (followed_by l.before (Holder l.header f NoMore)))
      ++ filled_end_events (end_in w ls (followed_by l.before (Holder l.header f NoMore))) (frames_of w ls)
      ≡ (events_of_layers ls
      ++ (events l.before ++ (opening_events l.header ++ (events f ++ closing_event l.header f ∷ []))))
      ++ filled_end_events (end_in w (l ∷ ls) f) (frames_of w ls) =
      ap (λ (t : List EventValue). (events_of_layers ls ++ t)
      ++ filled_end_events (end_in w ls (followed_by l.before (Holder l.header f NoMore))) (frames_of w ls))
      (events-followed_by l.before (Holder l.header f NoMore) a.1.whole)
      ∙ ap (λ (n : ℕ).
      (events_of_layers ls
      ++ (events l.before ++ (opening_events l.header ++ (events f ++ closing_event l.header f ∷ []))))
      ++ filled_end_events n (frames_of w ls))
      d.same_end in
      rw (e, end-filled w l ls f i.whole ∙ e)
      (r ∙ s
      ∙ regroup-end (events_of_layers ls) (events l.before) (opening_events l.header) (events f)
      (filled_end_events (end_in w (l ∷ ls) f) (frames_of w ls))
      _ _ (closes-filled (place_after (place_in w ls) (length (spelling l.before))) l.header f e))
  | inr e ↦ rw (e, end-filled w l ls f i.whole ∙ e) (events-within w (l ∷ ls) f a ∙ sym (append-nil _))
]
