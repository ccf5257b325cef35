-- What is kept of the open SETs, and found by it, if their order is wanted.
use Rattle.std.proofs.Common.{◌≡◌, ℕ, ◌+◌, ◌<◌, ◌≤◌, ◌&&◌, Bool, true, false, if◌then◌else◌, List, [], ◌++◌, length}
use Rattle.std.proofs.Common.{refl, sym, subst, ap, ◌∙◌, arith}
use Rattle.std.proofs.lemmas.Bool.{true≢false}
use Rattle.std.proofs.lemmas.List.{length-map}
use Rattle.std.specs.Prelude.{Option, Some, None, slice_index}
use Rattle.std.specs.Option.{is_some}
use Rattle.tlv_head.specs.declared.header.Size.{Size}
use Rattle.tlv_head.specs.declared.header.Size.TheVariants.{Definite, Indefinite}
use Rattle.tlv_head.specs.Header.{HeaderValue, octets_of}
use Rattle.tlv_head.specs.HeaderSoFar.{AllowsSize}
use Rattle.tlv_walk.proofs.GrammarLemmas.Leads.{end_offset}
use Rattle.tlv_walk.specs.Forest.{end_octets_offset}
use Rattle.tlv_walk.specs.Forest.{Forest, end_octets, opening, spelling}
use Rattle.tlv_show.specs.declared.set_frame.SetFrame.{SetFrame}
use Rattle.tlv_show.specs.declared.wanted.Wanted.{Wanted}
use Rattle.tlv_show.specs.FinderState.{end_octets_if, is_order_found, order_if}
use Rattle.tlv_show.specs.SetOrder.{Element, holder_element, is_out_of_order_at, is_set, neighbour_of, offset_if}
use Rattle.tlv_show.specs.SetOrder.{primitive_element}
use Rattle.tlv_show.specs.SetOrderState.{SetOrderState, frame_after_octets, is_last_out_of_order, set_order_begin_step}
use Rattle.tlv_show.specs.SetOrderState.{set_order_close_step, set_order_end_step, set_order_octets_step}
use Rattle.tlv_show.specs.SetOrderState.{set_order_open_step}
use Rattle.tlv_show.specs.ShownFindings.{wants_order}
use Rattle.tlv_show.specs.Private.SetOrder.{IsUnchangedByPrimitives}
use Rattle.tlv_show.specs.Site.{Site, site_of_children, top_site}
use Rattle.tlv_show.proofs.FindingLemmas.SiteWords.{is_held_by, site_after_padding}
use Rattle.tlv_show.specs.SetOrderState.{new_set_order}
use Rattle.tlv_show.specs.SetOrderState.{is_direct}
use Rattle.tlv_show.proofs.SetOrderLemmas.Events.{IsAfter, closed-is, opened-knows}
use Rattle.tlv_show.proofs.SetOrderLemmas.Forests.{after-more, after-none}
use Rattle.tlv_show.proofs.SetOrderLemmas.OneElement.{Knows, element-taken, element_step, octets_step-append}

-- ---- an offset or none

same-test : (a b : Bool) (x y : ℕ) → offset_if a x ≡ offset_if b y → a ≡ b
same-test true true x y e = refl
same-test true false x y e = absurd (cc (e))
same-test false true x y e = absurd (cc (e))
same-test false false x y e = refl

same-offset : (a b : Bool) (x y : ℕ) → offset_if a x ≡ offset_if b y → a ≡ true → x ≡ y
same-offset true true x y e is = ap (λ (l : List ℕ). slice_index l 0) e
same-offset true false x y e is = absurd (cc (e))
same-offset false b x y e is = absurd (true≢false (sym is))

no-octets : (o : SetOrderState) → set_order_octets_step o [] ≡ o
no-octets o = ap (λ (l : List SetFrame). record { frame = o.frame; outer = l }) (sym (after-none o.outer))

module _ (wanted : Wanted) where
  -- ---- what is known of what is kept

  pub record KnowsOrder (s : Site) (o : SetOrderState) : Type 0 where
    pub knows : Knows o s.holder (neighbour_of s.previous)
    pub open_count : o.frame.open_count ≤ s.depth + 1
    pub few : length o.outer ≤ s.depth

  abbrev pub Ordered : Site → SetOrderState → Type 0
  Ordered s o = wants_order wanted ≡ true → KnowsOrder s o

  abbrev pub OrderedAfter : SetOrderState → List ℕ → SetOrderState → Type 0
  OrderedAfter o octets u = wants_order wanted ≡ true → IsAfter wanted.rules o octets u

  abbrev pub IsOrderTaken : SetOrderState → Element → SetOrderState → Type 0
  IsOrderTaken o e t = wants_order wanted ≡ true → t ≡ element_step wanted.rules o e

  wanted-is : (a b : SetOrderState) → wants_order wanted ≡ true → order_if wanted a b ≡ a
  wanted-is a b is = ap (λ (k : Bool). if k then a else b) is

  -- ---- an element

  pub taken-found : (s : Site) (o : SetOrderState) (e : Element) (t : SetOrderState) → Ordered s o → IsOrderTaken o e t
      → is_order_found wanted t ≡ (wants_order wanted && is_out_of_order_at wanted.rules s e)
  taken-found s o e t k taken = by (wants_order wanted) refl
    where
      by : (b : Bool) → wants_order wanted ≡ b
          → (b && is_last_out_of_order t.frame) ≡ (b && is_out_of_order_at wanted.rules s e)
      by true is =
          let a = element-taken wanted.rules o s.holder (neighbour_of s.previous) e (k is).knows in
          let u : SetOrderState = element_step wanted.rules o e in
          ap (λ (v : SetOrderState). is_last_out_of_order v.frame) (taken is)
          ∙ same-test (is_last_out_of_order u.frame) (is_out_of_order_at wanted.rules s e) u.frame.offset
          e.header.offset a.found
      by false is = refl

  pub taken-offset : (s : Site) (o : SetOrderState) (e : Element) (t : SetOrderState) → Ordered s o → IsOrderTaken o e t
      → is_order_found wanted t ≡ true → t.frame.offset ≡ e.header.offset
  taken-offset s o e t k taken = by (wants_order wanted) refl
    where
      by : (b : Bool) → wants_order wanted ≡ b → (b && is_last_out_of_order t.frame) ≡ true
          → t.frame.offset ≡ e.header.offset
      by true is found =
          let a = element-taken wanted.rules o s.holder (neighbour_of s.previous) e (k is).knows in
          let u : SetOrderState = element_step wanted.rules o e in
          let same : is_last_out_of_order u.frame ≡ true =
          ap (λ (v : SetOrderState). is_last_out_of_order v.frame) (sym (taken is)) ∙ found in
          ap (λ (v : SetOrderState). v.frame.offset) (taken is)
          ∙ same-offset (is_last_out_of_order u.frame) (is_out_of_order_at wanted.rules s e) u.frame.offset
          e.header.offset a.found same
      by false is found = absurd (true≢false (sym found))

  pub taken-ordered : (s t : Site) (o : SetOrderState) (e : Element) (u : SetOrderState) → Ordered s o → IsOrderTaken o e u
      → t.holder ≡ s.holder → t.depth ≡ s.depth → neighbour_of t.previous ≡ Some e → Ordered t u
  taken-ordered s t o e u k taken holder depth previous is =
      let a = element-taken wanted.rules o s.holder (neighbour_of s.previous) e (k is).knows in
      let v : SetOrderState = element_step wanted.rules o e in
      let count : length v.outer ≡ length o.outer =
      ap length a.outer ∙ length-map o.outer (λ (w : SetFrame). frame_after_octets w e.octets) in
      subst (KnowsOrder t) (sym (taken is))
      (record {
        knows =
            subst (λ (h : Option HeaderValue). Knows v h (neighbour_of t.previous)) (sym holder)
            (subst (Knows v s.holder) (sym previous) a.knows);
        open_count = omega (arith, a.open_count, (k is).open_count, depth);
        few = omega (arith, count, (k is).few, depth);
      })

  pub taken-after : (s : Site) (o : SetOrderState) (e : Element) (t : SetOrderState) (octets : List ℕ) (u : SetOrderState)
      → Ordered s o → IsOrderTaken o e t → OrderedAfter t octets u → OrderedAfter o (e.octets ++ octets) u
  taken-after s o e t octets u k taken after is =
      let v : SetOrderState = element_step wanted.rules o e in
      after-more wanted.rules o s.holder (neighbour_of s.previous) e v octets u
      (element-taken wanted.rules o s.holder (neighbour_of s.previous) e (k is).knows)
      (subst (λ (x : SetOrderState). IsAfter wanted.rules x octets u) (taken is) (after is))

  pub after-no-element : (o : SetOrderState) → OrderedAfter o [] o
  after-no-element o is = record { inside = λ outside. sym (no-octets o); directly = λ d. (d, after-none o.outer) }

  pub top-ordered : Ordered top_site new_set_order
  top-ordered is = record {
    knows = record { direct = refl; before = λ d. absurd (true≢false (sym d)) };
    open_count = omega arith;
    few = omega arith;
  }

  -- padding is at the top alone
  pub ordered-padding : (s : Site) (o : SetOrderState) → Ordered s o → s.holder ≡ None → Ordered (site_after_padding s) o
  ordered-padding s o k top is =
      let a = k is in
      let outside : is_direct o.frame ≡ false = a.knows.direct ∙ ap (is_held_by is_set) top in
      record {
        knows = record { direct = a.knows.direct; before = λ d. absurd (true≢false (sym d ∙ outside)) };
        open_count = a.open_count;
        few = a.few;
      }

  -- ---- a primitive

  abbrev pub order_begun : SetOrderState → HeaderValue → SetOrderState
  order_begun o h = order_if wanted (set_order_begin_step wanted.rules o h) o

  abbrev pub order_filled : SetOrderState → List ℕ → SetOrderState
  order_filled o c = order_if wanted (set_order_octets_step o c) o

  abbrev pub order_ended : SetOrderState → SetOrderState
  order_ended o = order_if wanted (set_order_end_step o) o

  abbrev pub order_whole : SetOrderState → HeaderValue → List ℕ → SetOrderState
  order_whole o h c = order_ended (order_filled (order_begun o h) c)

  pub filled-none : (o : SetOrderState) → order_filled o [] ≡ o
  filled-none o = by (wants_order wanted)
    where
      by : (k : Bool) → (if k then set_order_octets_step o [] else o) ≡ o
      by true = no-octets o
      by false = refl

  pub whole-taken : (o : SetOrderState) (h : HeaderValue) (c : List ℕ)
      → IsOrderTaken o (primitive_element h c) (order_whole o h c)
  whole-taken o h c is =
      let a : SetOrderState = order_begun o h in
      wanted-is (set_order_end_step (order_filled a c)) (order_filled a c) is
      ∙ ap set_order_end_step
      (wanted-is (set_order_octets_step a c) a is
      ∙ ap (λ (t : SetOrderState). set_order_octets_step t c)
      (wanted-is (set_order_begin_step wanted.rules o h) o is)
      ∙ sym (octets_step-append _ (octets_of h) c))

  -- a primitive that changes nothing, if it is none in a SET
  pub whole-passed : (o : SetOrderState) (h : HeaderValue) (c : List ℕ)
      → (wants_order wanted ≡ true → IsUnchangedByPrimitives o) → order_whole o h c ≡ o
  whole-passed o h c passed = by (wants_order wanted) passed
    where
      by : (k : Bool) → (k ≡ true → IsUnchangedByPrimitives o)
          → let a = if k then set_order_begin_step wanted.rules o h else o in
          let b = if k then set_order_octets_step a c else a in
          (if k then set_order_end_step b else b) ≡ o
      by true p = (p refl).1 wanted.rules h c
      by false p = refl

  pub none-passed : (o : SetOrderState) → (wants_order wanted ≡ true → IsUnchangedByPrimitives o)
      → is_order_found wanted o ≡ false
  none-passed o passed = by (wants_order wanted) passed
    where
      by : (k : Bool) → (k ≡ true → IsUnchangedByPrimitives o) → (k && is_last_out_of_order o.frame) ≡ false
      by true p = ap (λ (d : Bool). d && (o.frame.octets_decide && o.frame.is_smaller)) (p refl).0
      by false p = refl

  -- ---- an element that holds others

  abbrev pub order_opened : SetOrderState → HeaderValue → SetOrderState
  order_opened o h = order_if wanted (set_order_open_step wanted.rules o h) o

  pub opened-ordered : (s : Site) (o : SetOrderState) (h : HeaderValue) → Ordered s o → s.depth < 128
      → Ordered (site_of_children s h) (order_opened o h)
  opened-ordered s o h k low is =
      let a = opened-knows wanted.rules o h (omega (arith, (k is).few, low)) in
      subst (KnowsOrder (site_of_children s h)) (sym (wanted-is (set_order_open_step wanted.rules o h) o is))
      (record {
        knows = a.knows;
        open_count = omega (arith, a.open_count, (k is).open_count);
        few = omega (arith, a.few, (k is).few);
      })

  abbrev pub ends_with_octets : HeaderValue → Forest → Bool
  ends_with_octets h inside = h.constructed && is_some (end_octets_offset h inside)

  abbrev pub order_closed : SetOrderState → HeaderValue → Forest → SetOrderState
  order_closed o h inside = order_if wanted (set_order_close_step o (end_octets_if (ends_with_octets h inside))) o

  pub last-octets : (size : Size) (offset : ℕ) (k : Bool) → AllowsSize k size
      → end_octets_if (k && is_some (end_offset size offset)) ≡ end_octets size
  last-octets (Definite n) offset true allowed = refl
  last-octets (Definite n) offset false allowed = refl
  last-octets Indefinite offset true allowed = refl
  last-octets Indefinite offset false allowed = absurd (true≢false (sym allowed))

  pub closed-taken : (s : Site) (o : SetOrderState) (h : HeaderValue) (inside : Forest) (u : SetOrderState)
      → Ordered s o → s.depth < 128 → AllowsSize h.constructed h.size
      → OrderedAfter (order_opened o h) (spelling inside) u
      → IsOrderTaken o (holder_element h inside) (order_closed u h inside)
  closed-taken s o h inside u k low allowed after is =
      let opened : order_opened o h ≡ set_order_open_step wanted.rules o h =
      wanted-is (set_order_open_step wanted.rules o h) o is in
      wanted-is (set_order_close_step u (end_octets_if (ends_with_octets h inside))) u is
      ∙ ap (set_order_close_step u)
      (last-octets h.size (h.offset + length (opening h) + length (spelling inside)) h.constructed allowed)
      ∙ closed-is wanted.rules o h inside u (omega (arith, (k is).few, low)) (omega (arith, (k is).open_count, low))
      (subst (λ (x : SetOrderState). IsAfter wanted.rules x (spelling inside) u) opened (after is))
