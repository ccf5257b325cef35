-- What is found under BER is found under other rules too, and what is listed is among all that is found.
use Rattle.std.proofs.Common.{◌≡◌, ℕ, Bool, true, false, if◌then◌else◌, List, [], ◌∷◌, ◌++◌, refl, sym, ap, ap₂, ◌∙◌}
use Rattle.std.proofs.lemmas.List.Elements.{filter-append}
use Rattle.std.specs.List.{filter}
use Rattle.std.specs.Prelude.{◌||◌, ◌&&◌, flat_map}
use Rattle.tlv_value.specs.declared.finding.Finding.{Finding}
use Rattle.tlv_value.specs.Checks.{findings_by}
use Rattle.tlv_value.specs.AllChecks.{all_contents_findings}
use Rattle.tlv_walk.specs.Forest.{end_octets_offset}
use Rattle.tlv_walk.specs.Forest.{Forest, NoMore, PaddingOctet, Primitive, Holder, OpenPrimitive, OpenHolder}
use Rattle.tlv_walk.specs.Forest.{OpenBitString, OpenHeader, OpenEndOctets}
use Rattle.tlv_show.specs.SetOrder.{Element, holder_element, is_out_of_order_at, primitive_element}
use Rattle.tlv_value.specs.declared.finding.Finding.TheVariants.{B28}
use Rattle.tlv_show.specs.SegmentCharacters.{has_wrong_characters}
use Rattle.tlv_show.specs.ShownFindings.{all_by, is_listed, is_shown, is_within, last_findings, listed_by}
use Rattle.tlv_show.specs.ShownFindings.{wanted_findings, wants_characters, wants_order, with_characters_if}
use Rattle.tlv_show.proofs.FindingLemmas.OrderFindings.{none-listed, without-order_if}
use Rattle.tlv_show.specs.declared.rules.Rules.{Rules}
use Rattle.tlv_show.specs.declared.scope.Scope.{Scope}
use Rattle.tlv_show.specs.declared.wanted.Wanted.{Wanted}
use Rattle.tlv_show.specs.declared.rules.Rules.TheVariants.{Ber, Der, Cer}
use Rattle.tlv_show.specs.AllConditions.{end_conditions, header_conditions}
use Rattle.tlv_show.specs.ListedFindings.{ElementFindings, rules_have, listed_findings}
use Rattle.tlv_show.specs.Items.{ClosingLine, FindingAt, Item, OpenPrimitiveLines, OpeningLine, PaddingLine}
use Rattle.tlv_show.specs.Items.{PrimitiveLines, finding_items, items}
use Rattle.tlv_show.proofs.FindingLemmas.SiteWords.{contents_items, end_items, site_after_holder, site_after_padding}
use Rattle.tlv_show.proofs.FindingLemmas.SiteWords.{site_after_primitive}
use Rattle.tlv_show.specs.Conditions.{headers}
use Rattle.tlv_show.specs.Laws.{BasicFindingsStay, ListedItemsStay, is_basic, is_listed_item}
use Rattle.tlv_show.specs.Site.{Site, is_padding, site_of_children, top_site}
use Rattle.tlv_show.specs.Texts.{check_line}
use Rattle.tlv_show.proofs.FindingLemmas.CheckFolds.{only-written}
use Rattle.tlv_show.proofs.FindingLemmas.FinderItems.{only, only-finding_items}
use Rattle.tlv_show.proofs.FindingLemmas.ListedTables.{listed-same}

-- each letter of BER is one of the other rules
among-more : (k others : Bool) → (k || false) ≡ true → (k || others) ≡ true
among-more true others e = refl
among-more false others e = absurd (cc (e))

-- what BER has, the others have too
pub still-by : (rules : Rules) (f : Finding) → rules_have Ber f ≡ true → rules_have rules f ≡ true
still-by Ber f e = e
still-by Der f e = among-more _ _ e
still-by Cer f e = among-more _ _ e

-- ---- findings of which only some are wanted

module _ (fewer more : Wanted) (kept : Finding → Bool) (test : Item → Bool)
    (by-finding : (level offset : ℕ) (x : Finding) → test (FindingAt level offset x) ≡ kept x)
    (some : (x : Finding) → is_shown fewer x ≡ (is_shown more x && kept x)) where
  -- findings, and then other items
  pub some-found : (level offset : ℕ) (fs : List Finding) (rest : List Item)
      → filter test (finding_items level offset (filter (is_shown more) fs) ++ rest)
      ≡ finding_items level offset (filter (is_shown fewer) fs) ++ filter test rest
  some-found level offset [] rest = refl
  some-found level offset (x ∷ fs) rest =
      by-tests (is_shown more x) (kept x) refl refl (some-found level offset fs rest)
    where
      by-tests : (m k : Bool) → is_shown more x ≡ m → kept x ≡ k
          → filter test (finding_items level offset (filter (is_shown more) fs) ++ rest)
          ≡ finding_items level offset (filter (is_shown fewer) fs) ++ filter test rest
          → filter test (finding_items level offset (filter (is_shown more) (x ∷ fs)) ++ rest)
          ≡ finding_items level offset (filter (is_shown fewer) (x ∷ fs)) ++ filter test rest
      by-tests true true e f h =
          let both : is_shown fewer x ≡ true = some x ∙ ap₂ (λ (a b : Bool). a && b) e f in
          let keeps : test (FindingAt level offset x) ≡ true = by-finding level offset x ∙ f in
          rw (e, both, keeps) (ap (λ (l : List Item). FindingAt level offset x ∷ l) h)
      by-tests true false e f h =
          let none : is_shown fewer x ≡ false = some x ∙ ap₂ (λ (a b : Bool). a && b) e f in
          let drops : test (FindingAt level offset x) ≡ false = by-finding level offset x ∙ f in
          rw (e, none, drops) h
      by-tests false k e f h =
          let none : is_shown fewer x ≡ false = some x ∙ ap (λ (a : Bool). a && kept x) e in
          rw (e, none) h

-- B28 is shown if it is wanted
characters-shown : (wanted : Wanted) (wrong : Bool) (fs : List Finding)
    → with_characters_if (wants_characters wanted && wrong) (filter (is_shown wanted) fs)
    ≡ filter (is_shown wanted) (with_characters_if wrong fs)
characters-shown wanted wrong fs = by (wants_characters wanted) wrong refl
  where
    by : (k w : Bool) → is_shown wanted B28 ≡ k
        → with_characters_if (k && w) (filter (is_shown wanted) fs) ≡ filter (is_shown wanted) (with_characters_if w fs)
    by true true e = rw e refl
    by false true e = rw e refl
    by true false e = refl
    by false false e = refl

-- ---- the findings of BER

module _ (scope : Scope) (rules : Rules) where
  abbrev few : Wanted
  few = record { rules = Ber; scope = scope }

  abbrev many : Wanted
  many = record { rules = rules; scope = scope }

  abbrev basic : List Item → List Item
  basic l = filter is_basic l

  both-tests : (b r k : Bool) → (b ≡ true → r ≡ true) → (b && k) ≡ ((r && k) && b)
  both-tests true true true e = refl
  both-tests true true false e = refl
  both-tests true false k e = absurd (cc (e refl))
  both-tests false true true e = refl
  both-tests false true false e = refl
  both-tests false false k e = refl

  same-found : (level offset : ℕ) (fs : List Finding) (xs ys : List Item) → only xs ≡ basic ys
      → only (finding_items level offset (filter (is_shown few) fs) ++ xs)
      ≡ basic (finding_items level offset (filter (is_shown many) fs) ++ ys)
  same-found level offset fs xs ys e =
      only-finding_items level offset (filter (is_shown few) fs) xs
      ∙ ap (λ (l : List Item). finding_items level offset (filter (is_shown few) fs) ++ l) e
      ∙ sym (some-found few many (rules_have Ber) is_basic (λ level offset x. refl)
      (λ x. both-tests (rules_have Ber x) (rules_have rules x) (is_within scope x) (still-by rules x)) level offset fs ys)

  -- the same with the order of a SET, which BER does not have
  same-last : (level offset : ℕ) (s : Site) (e : Element) (fs : List Finding) (xs ys : List Item) → only xs ≡ basic ys
      → only (finding_items level offset (last_findings few s e (filter (is_shown few) fs)) ++ xs)
      ≡ basic (finding_items level offset (last_findings many s e (filter (is_shown many) fs)) ++ ys)
  same-last level offset s e fs xs ys same =
      same-found level offset fs xs ys same
      ∙ sym (without-order_if is_basic (λ level offset. refl) level offset
      (wants_order many && is_out_of_order_at rules s e) (filter (is_shown many) fs) ys)

  -- the same with the characters of segments
  same-held : (level offset : ℕ) (s : Site) (e : Element) (wrong : Bool) (fs : List Finding) (xs ys : List Item)
      → only xs ≡ basic ys
      → only (finding_items level offset
      (last_findings few s e (with_characters_if (wants_characters few && wrong) (filter (is_shown few) fs))) ++ xs)
      ≡ basic (finding_items level offset
      (last_findings many s e (with_characters_if (wants_characters many && wrong) (filter (is_shown many) fs))) ++ ys)
  same-held level offset s e wrong fs xs ys same =
      ap (λ (gs : List Finding). only (finding_items level offset (last_findings few s e gs) ++ xs))
      (characters-shown few wrong fs)
      ∙ same-last level offset s e (with_characters_if wrong fs) xs ys same
      ∙ sym (ap (λ (gs : List Finding). basic (finding_items level offset (last_findings many s e gs) ++ ys))
      (characters-shown many wrong fs))

  same-pads : (k : Bool) (level offset : ℕ) (xs ys : List Item) → only xs ≡ basic ys
      → only ((if k then [] else PaddingLine level offset ∷ []) ++ xs)
      ≡ basic ((if k then [] else PaddingLine level offset ∷ []) ++ ys)
  same-pads true level offset xs ys e = e
  same-pads false level offset xs ys e = e

  basic_items-same : (s : Site) (f : Forest) → only (items (wanted_findings few) s f) ≡ basic (items (wanted_findings many) s f)
  basic_items-same s NoMore = refl
  basic_items-same s (PaddingOctet rest) = same-pads (is_padding s.previous) s.depth s.offset _ _
      (basic_items-same (site_after_padding s) rest)
  basic_items-same s (Primitive h c rest) =
      same-found s.depth h.offset (findings_by (header_conditions s h))
      (PrimitiveLines s.depth h c
      ∷ (contents_items (wanted_findings few) s h c ++ items (wanted_findings few) (site_after_primitive s h c) rest))
      (PrimitiveLines s.depth h c
      ∷ (contents_items (wanted_findings many) s h c ++ items (wanted_findings many) (site_after_primitive s h c) rest))
      (same-last s.depth h.offset s (primitive_element h c) (all_contents_findings h c) _ _ (basic_items-same (site_after_primitive s h c) rest))
  basic_items-same s (Holder h inside rest) =
      let last : Wanted
      → List Item =
      λ r. ClosingLine s.depth (end_octets_offset h inside)
      ∷ (end_items (wanted_findings r) s h inside ++ items (wanted_findings r) (site_after_holder s h inside) rest) in
      same-found s.depth h.offset (findings_by (header_conditions s h))
      (OpeningLine s.depth h ∷ (items (wanted_findings few) (site_of_children s h) inside ++ last few))
      (OpeningLine s.depth h ∷ (items (wanted_findings many) (site_of_children s h) inside ++ last many))
      (filter-append _ (items (wanted_findings few) (site_of_children s h) inside) (last few)
      ∙ ap₂ (λ (a b : List Item). a ++ b) (basic_items-same (site_of_children s h) inside)
      (same-held s.depth h.offset s (holder_element h inside) (has_wrong_characters h inside) (findings_by (end_conditions h (headers inside)))
      _ _ (basic_items-same (site_after_holder s h inside) rest))
      ∙ sym (filter-append is_basic (items (wanted_findings many) (site_of_children s h) inside) (last many)))
  basic_items-same s (OpenPrimitive h c) =
      same-found s.depth h.offset (findings_by (header_conditions s h))
      (OpenPrimitiveLines s.depth h c ∷ []) (OpenPrimitiveLines s.depth h c ∷ []) refl
  basic_items-same s (OpenHolder h inside) =
      same-found s.depth h.offset (findings_by (header_conditions s h))
      (OpeningLine s.depth h ∷ items (wanted_findings few) (site_of_children s h) inside)
      (OpeningLine s.depth h ∷ items (wanted_findings many) (site_of_children s h) inside)
      (basic_items-same (site_of_children s h) inside)
  basic_items-same s (OpenBitString h) =
      same-found s.depth h.offset (findings_by (header_conditions s h)) (OpeningLine s.depth h ∷ [])
      (OpeningLine s.depth h ∷ []) refl
  basic_items-same s (OpenHeader octets) = refl
  basic_items-same s OpenEndOctets = refl

pub basic_stay : BasicFindingsStay
basic_stay scope rules framing f =
    sym (only-written (items (wanted_findings (record { rules = Ber; scope = scope })) top_site f))
    ∙ ap (flat_map check_line) (basic_items-same scope rules top_site f)

-- ---- the listed findings

module _ (rules : Rules) where
  abbrev listed : List Item → List Item
  listed l = filter is_listed_item l

  and-one : (a b : Bool) → (a && b) ≡ ((a && true) && b)
  and-one true b = refl
  and-one false b = refl

  listed-then : (level offset : ℕ) (fs : List Finding) (xs ys : List Item) → xs ≡ listed ys
      → finding_items level offset (filter (is_shown (listed_by rules)) fs) ++ xs
      ≡ listed (finding_items level offset (filter (is_shown (all_by rules)) fs) ++ ys)
  listed-then level offset fs xs ys e =
      ap (λ (l : List Item). finding_items level offset (filter (is_shown (listed_by rules)) fs) ++ l) e
      ∙ sym (some-found (listed_by rules) (all_by rules) is_listed is_listed_item (λ level offset x. refl)
      (λ x. and-one (rules_have rules x) (is_listed x)) level offset fs ys)

  -- the same with the order of a SET, which is not listed
  listed-last : (level offset : ℕ) (s : Site) (e : Element) (fs : List Finding) (xs ys : List Item) → xs ≡ listed ys
      → finding_items level offset (last_findings (listed_by rules) s e (filter (is_shown (listed_by rules)) fs)) ++ xs
      ≡ listed
      (finding_items level offset (last_findings (all_by rules) s e (filter (is_shown (all_by rules)) fs)) ++ ys)
  listed-last level offset s e fs xs ys same =
      ap (λ (gs : List Finding). finding_items level offset gs ++ xs)
      (none-listed rules s e (filter (is_shown (listed_by rules)) fs))
      ∙ listed-then level offset fs xs ys same
      ∙ sym (without-order_if is_listed_item (λ level offset. refl) level offset
      (wants_order (all_by rules) && is_out_of_order_at rules s e) (filter (is_shown (all_by rules)) fs) ys)

  -- the same with the characters of segments
  listed-held : (level offset : ℕ) (s : Site) (e : Element) (wrong : Bool) (fs : List Finding) (xs ys : List Item)
      → xs ≡ listed ys
      → finding_items level offset
      (last_findings (listed_by rules) s e
      (with_characters_if (wants_characters (listed_by rules) && wrong) (filter (is_shown (listed_by rules)) fs))) ++ xs
      ≡ listed
      (finding_items level offset
      (last_findings (all_by rules) s e
      (with_characters_if (wants_characters (all_by rules) && wrong) (filter (is_shown (all_by rules)) fs))) ++ ys)
  listed-held level offset s e wrong fs xs ys same =
      ap (λ (gs : List Finding). finding_items level offset (last_findings (listed_by rules) s e gs) ++ xs)
      (characters-shown (listed_by rules) wrong fs)
      ∙ listed-last level offset s e (with_characters_if wrong fs) xs ys same
      ∙ sym (ap (λ (gs : List Finding). listed (finding_items level offset (last_findings (all_by rules) s e gs) ++ ys))
      (characters-shown (all_by rules) wrong fs))

  listed-pads : (k : Bool) (level offset : ℕ) (xs ys : List Item) → xs ≡ listed ys
      → (if k then [] else PaddingLine level offset ∷ []) ++ xs
      ≡ listed ((if k then [] else PaddingLine level offset ∷ []) ++ ys)
  listed-pads true level offset xs ys e = e
  listed-pads false level offset xs ys e = ap (λ (l : List Item). PaddingLine level offset ∷ l) e

  listed_items-same : (s : Site) (f : Forest)
      → items (wanted_findings (listed_by rules)) s f ≡ listed (items (wanted_findings (all_by rules)) s f)
  listed_items-same s NoMore = refl
  listed_items-same s (PaddingOctet rest) = listed-pads (is_padding s.previous) s.depth s.offset _ _
      (listed_items-same (site_after_padding s) rest)
  listed_items-same s (Primitive h c rest) =
      listed-then s.depth h.offset (findings_by (header_conditions s h)) _ _
      (ap (λ (l : List Item). PrimitiveLines s.depth h c ∷ l)
      (listed-last s.depth h.offset s (primitive_element h c) (all_contents_findings h c) _ _
      (listed_items-same (site_after_primitive s h c) rest)))
  listed_items-same s (Holder h inside rest) =
      let last : Wanted → List Item = λ r. ClosingLine s.depth (end_octets_offset h inside)
      ∷ (end_items (wanted_findings r) s h inside ++ items (wanted_findings r) (site_after_holder s h inside) rest) in
      let held : Wanted → List Item = λ r. items (wanted_findings r) (site_of_children s h) inside in
      let ends : last (listed_by rules) ≡ listed (last (all_by rules)) =
      ap (λ (l : List Item). ClosingLine s.depth (end_octets_offset h inside) ∷ l)
      (listed-held s.depth h.offset s (holder_element h inside) (has_wrong_characters h inside) (findings_by (end_conditions h (headers inside)))
      _ _ (listed_items-same (site_after_holder s h inside) rest)) in
      listed-then s.depth h.offset (findings_by (header_conditions s h)) _ _
      (ap (λ (l : List Item). OpeningLine s.depth h ∷ l)
      (ap₂ (λ (a b : List Item). a ++ b) (listed_items-same (site_of_children s h) inside) ends
      ∙ sym (filter-append is_listed_item (held (all_by rules)) (last (all_by rules)))))
  listed_items-same s (OpenPrimitive h c) =
      listed-then s.depth h.offset (findings_by (header_conditions s h))
      (OpenPrimitiveLines s.depth h c ∷ []) (OpenPrimitiveLines s.depth h c ∷ []) refl
  listed_items-same s (OpenHolder h inside) =
      listed-then s.depth h.offset (findings_by (header_conditions s h)) _ _
      (ap (λ (l : List Item). OpeningLine s.depth h ∷ l) (listed_items-same (site_of_children s h) inside))
  listed_items-same s (OpenBitString h) =
      listed-then s.depth h.offset (findings_by (header_conditions s h)) (OpeningLine s.depth h ∷ [])
      (OpeningLine s.depth h ∷ []) refl
  listed_items-same s (OpenHeader octets) = refl
  listed_items-same s OpenEndOctets = refl

pub listed_stay : ListedItemsStay
listed_stay rules s f =
    let same : items (wanted_findings (listed_by rules)) s f ≡ items (listed_findings rules) s f =
    ap (λ (found : ElementFindings). items found s f) (listed-same rules) in
    (sym same ∙ listed_items-same rules s f, same)
