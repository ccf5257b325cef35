-- Sound elements with headers as short as they can be, and lengths of one form, have no findings on their spelling;
-- so each sound input has a spelling without them.
use Rattle.std.proofs.Common.{◌≡◌, ◌≢◌, inl, inr, ◌&&◌, ◌||◌, not, eqb, ℕ, ◌+◌, ◌^◌, ◌<◌, ◌≤◌, Bool, true}
use Rattle.std.proofs.Common.{false, List, [], ◌∷◌, ◌++◌, length, refl, sym, ap, ◌∙◌, arith, subst, length-append}
use Rattle.std.proofs.Common.{ne_eqb}
use Rattle.std.proofs.lemmas.Bool.{or_from, true≢false}
use Rattle.std.proofs.lemmas.Bool.Decides.{eqb_tells}
use Rattle.std.proofs.lemmas.List.Folds.{list_any-append}
use Rattle.std.specs.List.{list_any}
use Rattle.std.specs.Prelude.{if◌then◌else◌}
use Rattle.tlv_head.specs.Header.{HeaderValue, is_universal, octets_of}
use Rattle.tlv_value.specs.Checks.{listed_contents_conditions, listed_type_conditions}
use Rattle.tlv_walk.specs.declared.framing.Framing.{Framing}
use Rattle.tlv_walk.specs.AlikeElements.{AreAlike, holders, nothing, padding, primitives}
use Rattle.tlv_walk.specs.Forest.{end_octets_offset}
use Rattle.tlv_walk.specs.Forest.{Forest, NoMore, PaddingOctet, Primitive, Holder, OpenPrimitive, OpenHolder}
use Rattle.tlv_walk.specs.Forest.{OpenBitString, OpenHeader, OpenEndOctets, holder_extent, has_element, spelling}
use Rattle.tlv_walk.specs.Inside.{are_rising}
use Rattle.tlv_head.specs.Lists.{is_among}
use Rattle.tlv_walk.proofs.EventLemmas.NamedOffsets.{AreRising, rising-from, rising-to}
use Rattle.tlv_walk.specs.Place.{ObeysGrammar, Place, is_indefinite, place_after, place_of_children, top_place}
use Rattle.tlv_walk.specs.Reading.{IsReading, IsSound, IsSoundList}
use Rattle.tlv_walk.specs.Wrappers.{wrapper_offset, wrapper_offsets}
use Rattle.tlv_walk.proofs.GrammarLemmas.AlikeSpellings.{AreRegular, IsRegular}
use Rattle.tlv_walk.proofs.GrammarLemmas.Endings.{done-sound, sound-done, sound-reading}
use Rattle.tlv_walk.proofs.GrammarLemmas.Readings.{reading-unique}
use Rattle.tlv_walk.proofs.GrammarLemmas.PlacedSpelling.{SpelledAt, Spelling}
use Rattle.tlv_walk.proofs.GrammarLemmas.RespelledElements.{sound-spelling}
use Rattle.tlv_walk.proofs.EventLemmas.Wrappers.{AreNamed, Rise, wrapper_offsets-named, wrapper_offsets-rise}
use Rattle.tlv_show.specs.Items.{ClosingLine, Item, OpeningLine, PaddingLine, PrimitiveLines, items}
use Rattle.tlv_show.proofs.FindingLemmas.SiteWords.{contents_items, end_items, header_items, site_after_holder}
use Rattle.tlv_show.proofs.FindingLemmas.SiteWords.{site_after_padding, site_after_primitive}
use Rattle.tlv_show.specs.declared.rules.Rules.{Rules}
use Rattle.tlv_show.specs.declared.rules.Rules.TheVariants.{Ber, Der, Cer}
use Rattle.tlv_show.specs.KeptConditions.{begins_with_zero_bits, is_high_form_needless, is_length_padded}
use Rattle.tlv_show.specs.Conditions.{headers, listed_end_conditions, listed_header_conditions}
use Rattle.tlv_show.specs.ListedFindings.{ElementFindings, listed_findings}
use Rattle.tlv_show.specs.Site.{Site, is_padding, site_of_children, top_site}
use Rattle.tlv_show.specs.Spellings.{SomeSpelling, is_item_on_spelling, is_on_spelling}
use Rattle.tlv_show.proofs.FindingLemmas.LongerHeaders.{longer_identifier-absent, length-not_padded}
use Rattle.tlv_show.proofs.FindingLemmas.Spellings.{IsSoundReading, form_by, items-found, sound-reading_of}
use Rattle.tlv_show.proofs.FindingLemmas.FindingsOfHeaders.{all-found, any_of, found-with_header}

-- ---- what is not reported

four-absent : (a b c d : Bool) → (a || b) ≡ false → c ≡ false → d ≡ false → (a || (b || (c || (d || false)))) ≡ false
four-absent false false false false e f g = refl
four-absent true b c d e f g = absurd (cc (e))
four-absent false true c d e f g = absurd (cc (e))
four-absent false false true d e f g = absurd (cc (f))
four-absent false false false true e f g = absurd (cc (g))

constructed-absent : (constructed indefinite : Bool) → indefinite ≡ constructed
    → (constructed && not indefinite) ≡ false
constructed-absent true true e = refl
constructed-absent true false e = absurd (cc (e))
constructed-absent false indefinite e = refl

header-absent : (rules : Rules) (s : Site) (h : HeaderValue) → rules ≢ Ber → IsRegular (form_by rules) h
    → any_of is_on_spelling rules (listed_header_conditions s h) ≡ false
header-absent Ber s h strict r = absurd (strict refl)
header-absent Der s h strict r =
    four-absent (is_high_form_needless h) (begins_with_zero_bits h) (is_length_padded h)
    (is_indefinite h.size)
    (longer_identifier-absent h r.shortest.identifier) (length-not_padded h r.shortest.lengths) r.by_form
header-absent Cer s h strict r =
    four-absent (is_high_form_needless h) (begins_with_zero_bits h) (is_length_padded h)
    (h.constructed && not (is_indefinite h.size)) (longer_identifier-absent h r.shortest.identifier)
    (length-not_padded h r.shortest.lengths)
    (constructed-absent h.constructed (is_indefinite h.size) r.by_form)

absent-by : (rules : Rules) (universal : Bool) (n : ℕ) (c : List ℕ)
    → any_of is_on_spelling rules (if universal then listed_type_conditions n c else []) ≡ false
absent-by Ber true n c = refl
absent-by Der true n c = refl
absent-by Cer true n c = refl
absent-by rules false n c = refl

contents-absent : (rules : Rules) (h : HeaderValue) (c : List ℕ)
    → any_of is_on_spelling rules (listed_contents_conditions h c) ≡ false
contents-absent rules h c = absent-by rules (is_universal h.class) h.number c

end-absent : (rules : Rules) (h : HeaderValue) (children : List HeaderValue)
    → any_of is_on_spelling rules (listed_end_conditions h children) ≡ false
end-absent Ber h children = refl
end-absent Der h children = refl
end-absent Cer h children = refl

-- ---- items

both-none : (xs ys : List Item) → list_any is_item_on_spelling xs ≡ false → list_any is_item_on_spelling ys ≡ false
    → list_any is_item_on_spelling (xs ++ ys) ≡ false
both-none xs ys e f = list_any-append is_item_on_spelling xs ys ∙ or_from _ _ e f

padding-none : (k : Bool) (level offset : ℕ)
    → list_any is_item_on_spelling (if k then [] else PaddingLine level offset ∷ []) ≡ false
padding-none true level offset = refl
padding-none false level offset = refl

module _ (rules : Rules) (strict : rules ≢ Ber) where
  abbrev found : ElementFindings
  found = listed_findings rules

  header-none : (s : Site) (h : HeaderValue) → IsRegular (form_by rules) h
      → list_any is_item_on_spelling (header_items found s h) ≡ false
  header-none s h r =
      items-found s.depth h.offset (found.of_header s h) ∙ found-with_header is_on_spelling rules s h ∙ header-absent rules s h strict r

  contents-none : (s : Site) (h : HeaderValue) (c : List ℕ)
      → list_any is_item_on_spelling (contents_items found s h c) ≡ false
  contents-none s h c =
      items-found s.depth h.offset (found.of_primitive s h c)
      ∙ all-found is_on_spelling rules (listed_contents_conditions h c)
      ∙ contents-absent rules h c

  end-none : (s : Site) (h : HeaderValue) (inside : Forest)
      → list_any is_item_on_spelling (end_items found s h inside) ≡ false
  end-none s h inside =
      items-found s.depth h.offset (found.of_holder s h inside)
      ∙ all-found is_on_spelling rules (listed_end_conditions h (headers inside))
      ∙ end-absent rules h (headers inside)

  none-found : (p : Place) (s : Site) (f : Forest) → IsSound p f → AreRegular (form_by rules) f
      → list_any is_item_on_spelling (items found s f) ≡ false
  none-found p s NoMore u r = refl
  none-found p s (PaddingOctet rest) u r =
      both-none (if is_padding s.previous then [] else PaddingLine s.depth s.offset ∷ [])
      (items found (site_after_padding s) rest)
      (padding-none (is_padding s.previous) s.depth s.offset)
      (none-found (place_after p 1) (site_after_padding s) rest u.1 r)
  none-found p s (Primitive h c rest) u r =
      both-none (header_items found s h)
      (PrimitiveLines s.depth h c ∷ (contents_items found s h c ++ items found (site_after_primitive s h c) rest))
      (header-none s h r.0)
      (both-none (contents_items found s h c) (items found (site_after_primitive s h c) rest) (contents-none s h c)
      (none-found (place_after p (length (octets_of h) + length c)) (site_after_primitive s h c) rest u.1 r.1))
  none-found p s (Holder h inside rest) u r =
      let last : List Item = end_items found s h inside ++ items found (site_after_holder s h inside) rest in
      let held : List Item = items found (site_of_children s h) inside in
      both-none (header_items found s h)
      (OpeningLine s.depth h
      ∷ (held ++ ClosingLine s.depth (end_octets_offset h inside) ∷ last))
      (header-none s h r.0)
      (both-none held (ClosingLine s.depth (end_octets_offset h inside) ∷ last)
      (none-found (place_of_children p h) (site_of_children s h) inside u.1 r.1)
      (both-none (end_items found s h inside) (items found (site_after_holder s h inside) rest) (end-none s h inside)
      (none-found (place_after p (holder_extent h inside)) (site_after_holder s h inside) rest u.2 r.2)))
  none-found p s (OpenPrimitive h c) u r = absurd u
  none-found p s (OpenHolder h inside) u r = absurd u
  none-found p s (OpenBitString h) u r = absurd u
  none-found p s (OpenHeader octets) u r = absurd u
  none-found p s OpenEndOctets u r = absurd u

-- ---- what may be named

rise-le : (least end : ℕ) (ns : List ℕ) → Rise least end ns → least ≤ end
rise-le least end [] r = r
rise-le least end (n ∷ ns) r = omega (arith, r.0, rise-le (n + 1) end ns r.1)

rising-of : (least end : ℕ) (ns : List ℕ) → end ≤ 2 ^ 40 → Rise least end ns → AreRising least ns
rising-of least end [] few r = tt
rising-of least end (n ∷ ns) few r =
    (r.0, omega (arith, few, rise-le (n + 1) end ns r.1), rising-of (n + 1) end ns few r.1)

-- an offset that is not the first is among the others
among-others : (n x : ℕ) (ns : List ℕ) → eqb x n ≡ false → is_among x (n ∷ ns) ≡ true → is_among x ns ≡ true
among-others n x ns apart e = sym (ap (λ (k : Bool). k || is_among x ns) apart) ∙ e

-- what is after the first offset is among the others
among-later : (n least end : ℕ) (ns xs : List ℕ) → n < least → Rise least end xs → AreNamed (n ∷ ns) xs → AreNamed ns xs
among-later n least end ns [] below r named = tt
among-later n least end ns (x ∷ xs) below r named = (
  among-others n x ns (ne_eqb x n (λ e. omega (arith, below, r.0, e))) named.0,
  among-later n (x + 1) end ns xs (omega (arith, below, r.0)) r.1 named.1,
)

among-least : (least x : ℕ) (ns : List ℕ) → AreRising least ns → is_among x ns ≡ true → least ≤ x
among-least least x [] rising e = absurd (true≢false (sym e))
among-least least x (n ∷ ns) rising e = elim (eqb_tells x n) [
  | inl same ↦ omega (arith, same.1, rising.0)
  | inr apart ↦ omega (arith, rising.0, among-least (n + 1) x ns rising.2 (among-others n x ns apart.0 e))
]

-- offsets that rise, each among others that rise, are no more than those
named-no_more : (inside xs : List ℕ) (low least end : ℕ) → AreRising low inside → Rise least end xs → AreNamed inside xs
    → length xs ≤ length inside
named-no_more [] [] low least end rising r named = omega arith
named-no_more (n ∷ ns) [] low least end rising r named = omega arith
named-no_more [] (x ∷ xs) low least end rising r named = absurd (true≢false (sym named.0))
named-no_more (n ∷ ns) (x ∷ xs) low least end rising r named = elim (eqb_tells x n) [
  | inl same ↦
      omega (
        arith,
        named-no_more ns xs (n + 1) (x + 1) end rising.2 r.1
            (among-later n (x + 1) end ns xs (omega (arith, same.1)) r.1 named.1),
      )
  | inr apart ↦
      let here : is_among x ns ≡ true = among-others n x ns apart.0 named.0 in
      let above : n + 1 ≤ x = among-least (n + 1) x ns rising.2 here in
      omega (
        arith,
        named-no_more ns (x ∷ xs) (n + 1) least end rising.2 r
            (here, among-later n (x + 1) end ns xs (omega (arith, above)) r.1 named.1),
      )
]

one-name : (a b : Bool) (m n : ℕ) → a ≡ b
    → length {A = ℕ} (if a then [] else m ∷ []) ≡ length {A = ℕ} (if b then [] else n ∷ [])
one-name true true m n e = refl
one-name false false m n e = refl
one-name true false m n e = absurd (cc (e))
one-name false true m n e = absurd (cc (e))

as-many : (f g : Forest) → AreAlike f g → length (wrapper_offsets f) ≡ length (wrapper_offsets g)
as-many f g nothing = refl
as-many f g (padding a b rest) = as-many a b rest
as-many f g (primitives h k c a b tag rest) = as-many a b rest
as-many f g (holders h k inside within a b tag held rest) =
    omega (
      arith,
      one-name h.constructed k.constructed h.offset k.offset tag.constructed,
      as-many inside within held,
      as-many a b rest,
      length-append (wrapper_offset h) (wrapper_offsets inside ++ wrapper_offsets a),
      length-append (wrapper_offsets inside) (wrapper_offsets a),
      length-append (wrapper_offset k) (wrapper_offsets within ++ wrapper_offsets b),
      length-append (wrapper_offsets within) (wrapper_offsets b),
    )

wrappers-rise : (framing : Framing) (g : Forest) → ObeysGrammar (top_place framing) g → length (spelling g) ≤ 2 ^ 40
    → are_rising 0 (wrapper_offsets g) ≡ true
wrappers-rise framing g v few =
    rising-from 0 (wrapper_offsets g)
    (rising-of 0 (0 + length (spelling g)) (wrapper_offsets g) (omega (arith, few))
    (wrapper_offsets-rise (top_place framing) g v))

no-more : (framing : Framing) (f g : Forest) → ObeysGrammar (top_place framing) f → AreAlike f g
    → are_rising 0 framing.inside ≡ true → length (wrapper_offsets g) ≤ length framing.inside
no-more framing f g u alike rise =
    omega (
      arith,
      as-many f g alike,
      named-no_more framing.inside (wrapper_offsets f) 0 0 (0 + length (spelling f))
          (rising-to 0 framing.inside rise) (wrapper_offsets-rise (top_place framing) f u)
          (wrapper_offsets-named (top_place framing) f u),
    )

-- ---- the law

alike-element : (f g : Forest) → AreAlike f g → has_element f ≡ has_element g
alike-element f g nothing = refl
alike-element f g (padding a b rest) = alike-element a b rest
alike-element f g (primitives h k c a b tag rest) = refl
alike-element f g (holders h k inside within a b tag held rest) = refl

by-definite : (rules : Rules) → form_by rules false ≡ false
by-definite Ber = refl
by-definite Der = refl
by-definite Cer = refl

pub some-spelling : SomeSpelling
some-spelling rules framing b f strict few ending reading low =
    let it : IsSoundReading framing b f = sound-reading_of framing b f ending reading in
    let elements : IsSoundList framing b = done-sound framing b ending in
    let same : elements.forest ≡ f =
    reading-unique framing b elements.forest f (sound-reading framing b elements) reading in
    let chosen : Spelling (form_by rules) (top_place framing) f =
    sound-spelling (form_by rules) (by-definite rules) (top_place framing) f (omega (arith, few, ap length it.spelled))
    it.sound low in
    let by_names : Framing = record { inside = chosen.names 0; padding = framing.padding } in
    let at_top : SpelledAt (form_by rules) (top_place by_names) f chosen.octets (chosen.names 0) =
    chosen.there (top_place by_names) (record { padding = refl; depth = refl }) (λ i least most. refl) in
    let other : Framing = record { inside = wrapper_offsets at_top.forest; padding = framing.padding } in
    let named : by_names ≡ other =
    ap (λ (names : List ℕ). record { inside = names; padding = framing.padding }) (sym at_top.names_are) in
    let sound : IsSound (top_place other) at_top.forest =
    subst (λ (k : Framing). IsSound (top_place k) at_top.forest) named at_top.sound in
    let list : IsSoundList other chosen.octets = record {
      forest = at_top.forest;
      sound = sound;
      some = sym (alike-element f at_top.forest at_top.alike) ∙ ap has_element (sym same) ∙ elements.some;
      spelled = at_top.spelled;
    } in
    let there : IsReading other chosen.octets at_top.forest = sound-reading other chosen.octets list in
    let small : length (spelling at_top.forest) ≤ 2 ^ 40 =
    omega (arith, ap length at_top.spelled, chosen.short, few, ap length it.spelled) in (
      chosen.octets,
      at_top.forest,
      record {
        is_done = sound-done other chosen.octets list;
        is_reading = there;
        none = none-found rules strict (top_place other) top_site at_top.forest sound at_top.regular;
      },
      at_top.alike,
      wrappers-rise other at_top.forest there.obeys_grammar small,
      no-more framing f at_top.forest reading.obeys_grammar at_top.alike,
    )
