-- What has been seen of the open SETs and strings, and what is found by it, if it is wanted.
use Rattle.std.proofs.Common.{◌≡◌, ℕ, ◌+◌, ◌<◌, ◌≤◌, ◌&&◌, Bool, true, false, if◌then◌else◌, List, [], ◌++◌, length}
use Rattle.std.proofs.Common.{refl, sym, subst, ap, ap₂, ◌∙◌, arith, append_assoc}
use Rattle.std.specs.Prelude.{Some, None}
use Rattle.std.specs.Option.{is_some}
use Rattle.tlv_head.specs.Header.{HeaderValue, octets_of}
use Rattle.tlv_head.specs.HeaderSoFar.{AllowsSize}
use Rattle.tlv_value.specs.Types.{has_primitive_form}
use Rattle.tlv_walk.specs.Forest.{Forest, Holder, NoMore, Primitive, end_octets, lead, opening, spelling}
use Rattle.tlv_walk.proofs.GrammarLemmas.Spellings.{append_assoc-3}
use Rattle.tlv_show.specs.declared.segment_frame.SegmentFrame.{SegmentFrame}
use Rattle.tlv_show.specs.declared.wanted.Wanted.{Wanted}
use Rattle.tlv_show.specs.FinderState.{SeenState, end_octets_if, is_misplaced, new_seen, seen_begun, seen_closed}
use Rattle.tlv_show.specs.FinderState.{seen_ended, seen_filled, seen_opened, string_found, strings_if}
use Rattle.tlv_show.specs.Private.SegmentCharacters.{StayAtPrimitives}
use Rattle.tlv_show.specs.Private.SetOrder.{IsUnchangedByPrimitives}
use Rattle.tlv_show.specs.SegmentCharacters.{has_wrong_characters, has_wrong_octet, has_wrong_segment, held_contents}
use Rattle.tlv_show.specs.SegmentCharactersState.{at_innermost, closing_string, segment_ended, segments_after_octets}
use Rattle.tlv_show.specs.SegmentCharactersState.{segments_begun, segments_closed, segments_opened}
use Rattle.tlv_show.specs.SetOrder.{Element, holder_element, is_out_of_order_at, neighbour_of, primitive_element}
use Rattle.tlv_show.specs.SetOrderState.{SetOrderState}
use Rattle.tlv_show.specs.ShownFindings.{wants_characters, wants_order}
use Rattle.tlv_show.specs.Site.{Site, site_of_children, top_site}
use Rattle.tlv_show.proofs.FindingLemmas.SiteWords.{site_after_padding}
use Rattle.tlv_show.proofs.SegmentLemmas.Events.{closing-string, held_passed, holder-passed, opened-between, opened-few}
use Rattle.tlv_show.proofs.SegmentLemmas.Events.{opened-length, primitive-passed}
use Rattle.tlv_show.proofs.SegmentLemmas.Forests.{few-more}
use Rattle.tlv_show.proofs.SegmentLemmas.Frames.{AreBetweenSegments, AreFewOpen, all-after-none, passed, passed-between}
use Rattle.tlv_show.proofs.SegmentLemmas.Frames.{passed-few, passed-length, passed-more, passed-none}
use Rattle.tlv_show.proofs.SetOrderLemmas.WantedOrder as order

module _ (wanted : Wanted) where
  -- ---- what is known of what has been seen

  pub record KnowsStrings (s : Site) (l : List SegmentFrame) : Type 0 where
    pub between : AreBetweenSegments l
    pub few : AreFewOpen s.depth l
    pub short : length l ≤ s.depth
    pub top : s.holder ≡ None → l ≡ []

  pub record HasSeen (s : Site) (o : SeenState) : Type 0 where
    pub order : order.Ordered wanted s o.order
    pub strings : wants_characters wanted ≡ true → KnowsStrings s o.strings

  -- after whole elements
  pub record HasSeenAll (o : SeenState) (f : Forest) (u : SeenState) : Type 0 where
    pub order : order.OrderedAfter wanted o.order (spelling f) u.order
    pub strings : wants_characters wanted ≡ true → u.strings ≡ held_passed f o.strings

  -- after one element, which has a wrong octet for some types of string
  pub record HasPassed (o : SeenState) (e : Element) (wrong : ℕ → Bool) (t : SeenState) : Type 0 where
    pub order : order.IsOrderTaken wanted o.order e t.order
    pub strings : wants_characters wanted ≡ true → t.strings ≡ passed e.octets wrong o.strings

  wanted-is : (a b : List SegmentFrame) → wants_characters wanted ≡ true → strings_if wanted a b ≡ a
  wanted-is a b is = ap (λ (k : Bool). if k then a else b) is

  pub top-seen : HasSeen top_site new_seen
  top-seen = record {
    order = order.top-ordered wanted;
    strings = λ is. record { between = tt; few = tt; short = omega arith; top = λ e. refl };
  }

  pub nothing-seen : (o : SeenState) → HasSeenAll o NoMore o
  nothing-seen o = record { order = order.after-no-element wanted o.order; strings = λ is. passed-none o.strings }

  -- padding is at the top alone
  pub seen-padding : (s : Site) (o : SeenState) → HasSeen s o → s.holder ≡ None → HasSeen (site_after_padding s) o
  seen-padding s o k top = record {
    order = order.ordered-padding wanted s o.order k.order top;
    strings = λ is.
        let a = k.strings is in
        record { between = a.between; few = a.few; short = a.short; top = a.top };
  }

  -- ---- an element

  pub passed-found : (s : Site) (o : SeenState) (e : Element) (wrong : ℕ → Bool) (t : SeenState) → HasSeen s o
      → HasPassed o e wrong t
      → is_misplaced wanted t ≡ (wants_order wanted && is_out_of_order_at wanted.rules s e)
  passed-found s o e wrong t k p = order.taken-found wanted s o.order e t.order k.order p.order

  pub passed-offset : (s : Site) (o : SeenState) (e : Element) (wrong : ℕ → Bool) (t : SeenState) → HasSeen s o
      → HasPassed o e wrong t
      → is_misplaced wanted t ≡ true → t.order.frame.offset ≡ e.header.offset
  passed-offset s o e wrong t k p = order.taken-offset wanted s o.order e t.order k.order p.order

  pub passed-seen : (s t : Site) (o : SeenState) (e : Element) (wrong : ℕ → Bool) (u : SeenState) → HasSeen s o
      → HasPassed o e wrong u → t.holder ≡ s.holder → t.depth ≡ s.depth → neighbour_of t.previous ≡ Some e
      → HasSeen t u
  passed-seen s t o e wrong u k p holder depth previous = record {
    order = order.taken-ordered wanted s t o.order e u.order k.order p.order holder depth previous;
    strings = λ is.
        let a = k.strings is in
        let same = passed-length e.octets wrong o.strings in
        subst (KnowsStrings t) (sym (p.strings is))
        (record {
          between = passed-between e.octets wrong o.strings a.between;
          few =
              passed-few e.octets wrong t.depth o.strings
              (subst (λ (n : ℕ). AreFewOpen n o.strings) (sym depth) a.few);
          short = omega (arith, same, a.short, depth);
          top = λ none. ap (passed e.octets wrong) (a.top (sym holder ∙ none));
        });
  }

  -- ---- a primitive

  abbrev pub seen_whole : SeenState → HeaderValue → List ℕ → SeenState
  seen_whole o h c = seen_ended wanted (seen_filled wanted (seen_begun wanted o h) c)

  pub filled-none : (o : SeenState) → seen_filled wanted o [] ≡ o
  filled-none o =
      ap₂ (λ (a : SetOrderState) (l : List SegmentFrame). record { order = a; strings = l })
      (order.filled-none wanted o.order) (by (wants_characters wanted))
    where
      by : (k : Bool) → (if k then segments_after_octets [] o.strings else o.strings) ≡ o.strings
      by true = all-after-none o.strings
      by false = refl

  pub primitive-seen : (s : Site) (o : SeenState) (h : HeaderValue) (c : List ℕ) → HasSeen s o → h.constructed ≡ false
      → HasPassed o (primitive_element h c) (λ n. has_wrong_octet n c) (seen_whole o h c)
  primitive-seen s o h c k primitive = record {
    order = order.whole-taken wanted o.order h c;
    strings = λ is.
        let a : SeenState = seen_begun wanted o h in
        let b : SeenState = seen_filled wanted a c in
        wanted-is (at_innermost segment_ended b.strings) b.strings is
        ∙ ap (at_innermost segment_ended)
        (wanted-is (segments_after_octets c a.strings) a.strings is
        ∙ ap (segments_after_octets c) (wanted-is (segments_begun o.strings h) o.strings is))
        ∙ primitive-passed o.strings h c primitive (k.strings is).between;
  }

  pub after-primitive : (s : Site) (o : SeenState) (h : HeaderValue) (c : List ℕ) (rest : Forest) (t u : SeenState)
      → HasSeen s o → HasPassed o (primitive_element h c) (λ n. has_wrong_octet n c) t → HasSeenAll t rest u
      → HasSeenAll o (Primitive h c rest) u
  after-primitive s o h c rest t u k p r = record {
    order =
        subst (λ (l : List ℕ). order.OrderedAfter wanted o.order l u.order)
        (append_assoc (octets_of h) c (spelling rest))
        (order.taken-after wanted s o.order (primitive_element h c) t.order (spelling rest) u.order k.order p.order
        r.order);
    strings = λ is.
        r.strings is
        ∙ ap (held_passed rest) (p.strings is)
        ∙ passed-more (octets_of h ++ c) (spelling rest) (λ n. has_wrong_octet n c) (λ n. has_wrong_segment n rest)
        o.strings
        ∙ ap (λ (l : List ℕ). passed l (λ n. has_wrong_segment n (Primitive h c rest)) o.strings)
        (append_assoc (octets_of h) c (spelling rest));
  }

  -- a primitive that changes nothing
  pub whole-same : (o : SeenState) (h : HeaderValue) (c : List ℕ)
      → (wants_order wanted ≡ true → IsUnchangedByPrimitives o.order)
      → (wants_characters wanted ≡ true → StayAtPrimitives o.strings) → seen_whole o h c ≡ o
  whole-same o h c in_order in_strings =
      ap₂ (λ (a : SetOrderState) (l : List SegmentFrame). record { order = a; strings = l })
      (order.whole-passed wanted o.order h c in_order) (by (wants_characters wanted) in_strings)
    where
      by : (k : Bool) → (k ≡ true → StayAtPrimitives o.strings)
          → let a = if k then segments_begun o.strings h else o.strings in
          let b = if k then segments_after_octets c a else a in
          (if k then at_innermost segment_ended b else b) ≡ o.strings
      by true p = p refl h c
      by false p = refl

  -- ---- an element that holds others

  pub opened-seen : (s : Site) (o : SeenState) (h : HeaderValue) → HasSeen s o → s.depth < 128
      → HasSeen (site_of_children s h) (seen_opened wanted o h)
  opened-seen s o h k low = record {
    order = order.opened-ordered wanted s o.order h k.order low;
    strings = λ is.
        let a = k.strings is in
        let room : length o.strings < 128 = omega (arith, a.short, low) in
        let longer = opened-length o.strings h room in
        subst (KnowsStrings (site_of_children s h)) (sym (wanted-is (segments_opened o.strings h) o.strings is))
        (record {
          between = opened-between o.strings h room;
          few = opened-few o.strings h s.depth room a.few;
          short = omega (arith, longer, a.short);
          top = λ none. absurd (cc (none));
        });
  }

  abbrev pub seen_held : SeenState → HeaderValue → Forest → SeenState
  seen_held o h inside = seen_closed wanted o (order.ends_with_octets wanted h inside)

  abbrev pub is_wrong_held : HeaderValue → Forest → ℕ → Bool
  is_wrong_held h inside n = has_primitive_form h && has_wrong_octet n (held_contents h inside)

  pub holder-seen : (s : Site) (o : SeenState) (h : HeaderValue) (inside : Forest) (u : SeenState) → HasSeen s o
      → s.depth < 128 → AllowsSize h.constructed h.size → HasSeenAll (seen_opened wanted o h) inside u
      → HasPassed o (holder_element h inside) (is_wrong_held h inside) (seen_held u h inside)
  holder-seen s o h inside u k low allowed after = record {
    order = order.closed-taken wanted s o.order h inside u.order k.order low allowed after.order;
    strings = λ is.
        let a = k.strings is in
        let end : List ℕ = end_octets_if (order.ends_with_octets wanted h inside) in
        let octets : List ℕ = spelling inside ++ end_octets h.size in
        wanted-is (segments_closed u.strings end) u.strings is
        ∙ ap₂ segments_closed
        (after.strings is ∙ ap (held_passed inside) (wanted-is (segments_opened o.strings h) o.strings is))
        (order.last-octets wanted h.size (h.offset + length (opening h) + length (spelling inside)) h.constructed
        allowed)
        ∙ holder-passed o.strings h inside (omega (arith, a.short, low)) a.between
        (few-more s.depth 254 o.strings (omega (arith, low)) a.few) allowed
        ∙ ap (λ (l : List ℕ). passed l (is_wrong_held h inside) o.strings)
        (sym (append_assoc (octets_of h) (lead h) octets));
  }

  pub after-holder : (s : Site) (o : SeenState) (h : HeaderValue) (inside rest : Forest) (t u : SeenState)
      → HasSeen s o → HasPassed o (holder_element h inside) (is_wrong_held h inside) t → HasSeenAll t rest u
      → HasSeenAll o (Holder h inside rest) u
  after-holder s o h inside rest t u k p r =
      let joined = append_assoc-3 (opening h) (spelling inside) (end_octets h.size) (spelling rest) in
      record {
        order =
            subst (λ (l : List ℕ). order.OrderedAfter wanted o.order l u.order) joined
            (order.taken-after wanted s o.order (holder_element h inside) t.order (spelling rest) u.order k.order
            p.order r.order);
        strings = λ is.
            r.strings is
            ∙ ap (held_passed rest) (p.strings is)
            ∙ passed-more (holder_element h inside).octets (spelling rest) (is_wrong_held h inside)
            (λ n. has_wrong_segment n rest) o.strings
            ∙ ap (λ (l : List ℕ). passed l (λ n. has_wrong_segment n (Holder h inside rest)) o.strings) joined;
      }

  -- ---- what is found of a string

  abbrev pub has_wrong_string : HeaderValue → Forest → Bool
  has_wrong_string h inside = wants_characters wanted && has_wrong_characters h inside

  pub string-seen : (s : Site) (o : SeenState) (h : HeaderValue) (inside : Forest) (u : SeenState) → HasSeen s o
      → s.depth < 128 → HasSeenAll (seen_opened wanted o h) inside u
      → string_found wanted u.strings ≡ (if has_wrong_string h inside then Some h.offset else None)
  string-seen s o h inside u k low after = by (wants_characters wanted) refl
    where
      by : (b : Bool) → wants_characters wanted ≡ b
          → (if b then closing_string u.strings else None)
          ≡ (if b && has_wrong_characters h inside then Some h.offset else None)
      by false is = refl
      by true is =
          ap closing_string
          (after.strings is ∙ ap (held_passed inside) (wanted-is (segments_opened o.strings h) o.strings is))
          ∙ closing-string o.strings h inside (omega (arith, (k.strings is).short, low))

  pub some-string : (k : Bool) (offset : ℕ) → is_some (if k then Some offset else None) ≡ k
  some-string true offset = refl
  some-string false offset = refl
