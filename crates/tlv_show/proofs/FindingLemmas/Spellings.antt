-- Elements without findings on their spelling have headers as short as they can be, and lengths of one form.
use Rattle.std.proofs.Common.{◌≡◌, ◌≢◌, ℕ, ◌+◌, ◌%◌, ◌==◌, ◌<◌, ◌≤◌, ◌&&◌, ◌||◌, not, nat_lt, Bool, true, false, List}
use Rattle.std.proofs.Common.{[], ◌∷◌, ◌++◌, length, refl, sym, ap, subst, ◌∙◌, arith}
use Rattle.std.proofs.lemmas.Bool.{or_parts}
use Rattle.std.proofs.lemmas.Bool.Decides.{nat_tests}
use Rattle.std.proofs.lemmas.List.Folds.{list_any-append}
use Rattle.std.specs.List.{list_any}
use Rattle.std.specs.Prelude.{if◌then◌else◌, slice_index}
use Rattle.tlv_head.specs.declared.header.Size.{Size}
use Rattle.tlv_head.specs.declared.header.Size.TheVariants.{Definite, Indefinite}
use Rattle.tlv_head.specs.Header.{HeaderValue, IsHeader, announced_length, octets_of}
use Rattle.tlv_head.specs.HeaderSoFar.{AllowsSize}
use Rattle.tlv_head.specs.ShortestHeaders.{IsShortest}
use Rattle.tlv_head.proofs.ShortestLemmas.OneShortest.{identifier-from, lengths-from}
use Rattle.tlv_value.specs.declared.finding.Finding.{Finding}
use Rattle.tlv_walk.specs.declared.ending.Ending.TheVariants.{Done}
use Rattle.tlv_walk.specs.declared.framing.Framing.{Framing}
use Rattle.tlv_walk.specs.Ending.{IsEnding}
use Rattle.tlv_walk.specs.Forest.{end_octets_offset}
use Rattle.tlv_walk.specs.Forest.{Forest, NoMore, PaddingOctet, Primitive, Holder, OpenPrimitive, OpenHolder}
use Rattle.tlv_walk.specs.Forest.{OpenBitString, OpenHeader, OpenEndOctets, holder_extent, spelling}
use Rattle.tlv_walk.specs.Place.{Place, is_indefinite, place_after, place_of_children, top_place}
use Rattle.tlv_walk.specs.Reading.{IsReading, IsSound, IsSoundList}
use Rattle.tlv_walk.proofs.GrammarLemmas.AlikeSpellings.{AreRegular, IsRegular, one_spelling}
use Rattle.tlv_walk.proofs.GrammarLemmas.Endings.{done-sound, sound-reading}
use Rattle.tlv_walk.proofs.GrammarLemmas.Readings.{reading-unique}
use Rattle.tlv_show.specs.declared.rules.Rules.{Rules}
use Rattle.tlv_show.specs.declared.rules.Rules.TheVariants.{Ber, Der, Cer}
use Rattle.tlv_show.specs.KeptConditions.{begins_with_zero_bits, is_high_form_needless, is_length_padded}
use Rattle.tlv_show.specs.Conditions.{listed_header_conditions}
use Rattle.tlv_show.specs.Items.{ClosingLine, Item, OpeningLine, PaddingLine, PrimitiveLines, finding_items, items}
use Rattle.tlv_show.proofs.FindingLemmas.SiteWords.{contents_items, end_items, header_items, site_after_holder}
use Rattle.tlv_show.proofs.FindingLemmas.SiteWords.{site_after_padding, site_after_primitive}
use Rattle.tlv_show.specs.ListedFindings.{ElementFindings, listed_findings}
use Rattle.tlv_show.specs.Site.{Site, is_padding, site_of_children, top_site}
use Rattle.tlv_show.specs.Spellings.{OneSpelling, is_item_on_spelling, is_on_spelling}
use Rattle.tlv_show.proofs.FindingLemmas.FindingsOfHeaders.{any_of, found-with_header}

-- ---- conditions whose findings are not reported

pub items-found : (level offset : ℕ) (fs : List Finding)
    → list_any is_item_on_spelling (finding_items level offset fs) ≡ list_any is_on_spelling fs
items-found level offset [] = refl
items-found level offset (f ∷ fs) = ap (λ (b : Bool). is_on_spelling f || b) (items-found level offset fs)

none-by_conditions : (rules : Rules) (s : Site) (h : HeaderValue)
    → list_any is_item_on_spelling (header_items (listed_findings rules) s h) ≡ false
    → any_of is_on_spelling rules (listed_header_conditions s h) ≡ false
none-by_conditions rules s h e =
    sym (found-with_header is_on_spelling rules s h)
    ∙ sym (items-found s.depth h.offset ((listed_findings rules).of_header s h)) ∙ e

-- of four tests none holds
none-of_four : (a b c d : Bool) → (a || (b || (c || (d || false)))) ≡ false
    → (a ≡ false) × (b ≡ false) × (c ≡ false) × (d ≡ false)
none-of_four false false false false e = (refl, refl, refl, refl)
none-of_four true b c d e = absurd (cc (e))
none-of_four false true c d e = absurd (cc (e))
none-of_four false false true d e = absurd (cc (e))
none-of_four false false false true e = absurd (cc (e))

-- ---- what they say of a header

pub high-form : (h : HeaderValue) → is_high_form_needless h ≡ false
    → begins_with_zero_bits h ≡ false
    → 1 < length h.identifier_octets → (31 ≤ h.number) × (slice_index h.identifier_octets 1 % 128 ≢ 0)
high-form h a b more =
    let high : nat_lt 1 (length h.identifier_octets) ≡ true = grind (arith, nat_tests) in
    let large : nat_lt h.number 31 ≡ false = rw high at a in
    let nonzero : (slice_index h.identifier_octets 1 % 128 == 0) ≡ false = rw high at b in
    (grind (arith, nat_tests), grind (arith, nat_tests))

pub long-form : (h : HeaderValue)
    → is_length_padded h ≡ false
    → 1 < length h.length_octets → (128 ≤ announced_length h.size) × (slice_index h.length_octets 1 ≢ 0)
long-form h a more =
    let long : nat_lt 1 (length h.length_octets) ≡ true = grind (arith, nat_tests) in
    let neither : (nat_lt (announced_length h.size) 128 || slice_index h.length_octets 1 == 0) ≡ false = rw long at a in
    let both : (nat_lt (announced_length h.size) 128 ≡ false) × ((slice_index h.length_octets 1 == 0) ≡ false) =
    or_parts _ _ neither in
    let large : nat_lt (announced_length h.size) 128 ≡ false = both.0 in
    let nonzero : (slice_index h.length_octets 1 == 0) ≡ false = both.1 in
    (grind (arith, nat_tests), grind (arith, nat_tests))

shortest : (h : HeaderValue) → IsHeader h → is_high_form_needless h ≡ false
    → begins_with_zero_bits h ≡ false
    → is_length_padded h ≡ false → IsShortest h
shortest h valid a b c = record {
  identifier = identifier-from h valid (high-form h a b);
  lengths = lengths-from h valid (long-form h c);
}

-- whether the length of an element of that form is indefinite: by DER never, by CER if it is constructed
abbrev pub form_by : Rules → Bool → Bool
form_by Ber constructed = false
form_by Der constructed = false
form_by Cer constructed = constructed

-- 8.1.3.2 a)
by-form : (constructed : Bool) (size : Size) → AllowsSize constructed size
    → (constructed && not (is_indefinite size)) ≡ false
    → is_indefinite size ≡ constructed
by-form true (Definite n) a e = absurd (cc (e))
by-form true Indefinite a e = refl
by-form false (Definite n) a e = refl
by-form false Indefinite a e = absurd (cc (a))

no_findings-regular : (rules : Rules) (s : Site) (h : HeaderValue) → rules ≢ Ber → IsHeader h
    → list_any is_item_on_spelling (header_items (listed_findings rules) s h) ≡ false
    → IsRegular (form_by rules) h
no_findings-regular Ber s h strict valid e = absurd (strict refl)
no_findings-regular Der s h strict valid e =
    let none = none-of_four (is_high_form_needless h) (begins_with_zero_bits h)
    (is_length_padded h) (is_indefinite h.size)
    (none-by_conditions Der s h e) in
    record { shortest = shortest h valid none.0 none.1 none.2; by_form = none.3 }
no_findings-regular Cer s h strict valid e =
    let none = none-of_four (is_high_form_needless h) (begins_with_zero_bits h)
    (is_length_padded h)
    (h.constructed && not (is_indefinite h.size)) (none-by_conditions Cer s h e) in
    record {
      shortest = shortest h valid none.0 none.1 none.2;
      by_form = by-form h.constructed h.size valid.allowed none.3;
    }

-- ---- elements

none-in : (xs ys : List Item) → list_any is_item_on_spelling (xs ++ ys) ≡ false
    → (list_any is_item_on_spelling xs ≡ false) × (list_any is_item_on_spelling ys ≡ false)
none-in xs ys e = or_parts _ _ (sym (list_any-append is_item_on_spelling xs ys) ∙ e)

module _ (rules : Rules) (strict : rules ≢ Ber) where
  abbrev found : ElementFindings
  found = listed_findings rules

  all-regular : (p : Place) (s : Site) (f : Forest) → IsSound p f
      → list_any is_item_on_spelling (items found s f) ≡ false → AreRegular (form_by rules) f
  all-regular p s NoMore u e = tt
  all-regular p s (PaddingOctet rest) u e =
      all-regular (place_after p 1) (site_after_padding s) rest u.1
      (none-in (if is_padding s.previous then [] else PaddingLine s.depth s.offset ∷ [])
      (items found (site_after_padding s) rest) e).1
  all-regular p s (Primitive h c rest) u e =
      let header =
      none-in (header_items found s h)
      (PrimitiveLines s.depth h c ∷ (contents_items found s h c ++ items found (site_after_primitive s h c) rest)) e in
      let others = none-in (contents_items found s h c) (items found (site_after_primitive s h c) rest) header.1 in (
        no_findings-regular rules s h strict u.0.0.valid header.0,
        all-regular (place_after p (length (octets_of h) + length c)) (site_after_primitive s h c) rest u.1 others.1,
      )
  all-regular p s (Holder h inside rest) u e =
      let last : List Item = end_items found s h inside ++ items found (site_after_holder s h inside) rest in
      let held_and_last : List Item =
      items found (site_of_children s h) inside
      ++ ClosingLine s.depth (end_octets_offset h inside) ∷ last in
      let header = none-in (header_items found s h) (OpeningLine s.depth h ∷ held_and_last) e in
      let held =
      none-in (items found (site_of_children s h) inside)
      (ClosingLine s.depth (end_octets_offset h inside) ∷ last) header.1 in
      let others = none-in (end_items found s h inside) (items found (site_after_holder s h inside) rest) held.1 in (
        no_findings-regular rules s h strict u.0.0.valid header.0,
        all-regular (place_of_children p h) (site_of_children s h) inside u.1 held.0,
        all-regular (place_after p (holder_extent h inside)) (site_after_holder s h inside) rest u.2 others.1,
      )
  all-regular p s (OpenPrimitive h c) u e = absurd u
  all-regular p s (OpenHolder h inside) u e = absurd u
  all-regular p s (OpenBitString h) u e = absurd u
  all-regular p s (OpenHeader octets) u e = absurd u
  all-regular p s OpenEndOctets u e = absurd u

-- ---- the law

-- the reading of a sound input, whole
pub record IsSoundReading (framing : Framing) (b : List ℕ) (f : Forest) : Type 0 where
  pub sound : IsSound (top_place framing) f
  pub spelled : spelling f ≡ b

pub sound-reading_of : (framing : Framing) (b : List ℕ) (f : Forest) → IsEnding framing b Done → IsReading framing b f
    → IsSoundReading framing b f
sound-reading_of framing b f ending reading =
    let elements : IsSoundList framing b = done-sound framing b ending in
    let same : elements.forest ≡ f =
    reading-unique framing b elements.forest f (sound-reading framing b elements) reading in
    record {
      sound = subst (IsSound (top_place framing)) same elements.sound;
      spelled = ap spelling (sym same) ∙ elements.spelled;
    }

pub spelled-alike : OneSpelling
spelled-alike rules framing other b c f g strict r t alike =
    let left : IsSoundReading framing b f = sound-reading_of framing b f r.is_done r.is_reading in
    let right : IsSoundReading other c g = sound-reading_of other c g t.is_done t.is_reading in
    sym left.spelled
    ∙ one_spelling (form_by rules) (top_place framing) (top_place other) f g alike left.sound right.sound
    (all-regular rules strict (top_place framing) top_site f left.sound r.none)
    (all-regular rules strict (top_place other) top_site g right.sound t.none)
    ∙ right.spelled
