-- The frame after all elements, and what is found by it with the end of what holds them.
use Rattle.std.proofs.Common.{◌≡◌, ℕ, ◌+◌, ◌-◌, ◌&&◌, ◌||◌, ◌==◌, not, Bool, true, false, min, if◌then◌else◌, List, []}
use Rattle.std.proofs.Common.{suc, ◌∷◌, length, refl, sym, ap, ap₂, ◌∙◌, arith, nat_le}
use Rattle.std.proofs.Math.Bool.{and_assoc}
use Rattle.std.proofs.lemmas.Bool.{true≢false}
use Rattle.std.proofs.lemmas.Bool.Decides.{nat_tests}
use Rattle.std.specs.List.{fold, list_all}
use Rattle.tlv_head.specs.Header.{HeaderValue, announced_length, octets_of, wraps}
use Rattle.tlv_value.specs.declared.finding.Finding.{Finding}
use Rattle.tlv_value.specs.ValueCheckState.{has_unused_bits, value_check_for}
use Rattle.tlv_head.specs.UniversalTypes.{bit_string}
use Rattle.tlv_value.specs.Types.{has_segments, is_a, has_primitive_form}
use Rattle.tlv_walk.specs.Forest.{Forest, NoMore, PaddingOctet, Primitive, Holder, OpenPrimitive, OpenHolder}
use Rattle.tlv_walk.specs.Forest.{OpenBitString, OpenHeader, OpenEndOctets, holder_extent, is_whole}
use Rattle.tlv_walk.specs.Place.{ObeysGrammar, Place, place_after}
use Rattle.tlv_show.specs.declared.holder_frame.HolderFrame.{HolderFrame}
use Rattle.tlv_show.specs.declared.wanted.Wanted.{Wanted}
use Rattle.tlv_show.specs.NestingState.{bits_octet_count, frame_after, frame_after_segment, frame_of, frame_under}
use Rattle.tlv_show.specs.NestingState.{segments_in, top_frame, with_element}
use Rattle.tlv_show.specs.Conditions.{ends_empty, headers, length_as_primitive}
use Rattle.tlv_show.specs.AllConditions.{has_components}
use Rattle.tlv_show.proofs.FindingLemmas.HeaderFindings.{end-by, ends_by}
use Rattle.tlv_show.specs.KeptConditions.{end_findings_in}
use Rattle.tlv_show.specs.ShownFindings.{end_findings}
use Rattle.tlv_show.proofs.FindingLemmas.FramesAfter.{in-string, outside}

-- a frame after elements of which none is open
abbrev pub frame_after_elements : HolderFrame → Forest → HolderFrame
frame_after_elements w NoMore = w
frame_after_elements w (PaddingOctet rest) = frame_after_elements w rest
frame_after_elements w (Primitive h c rest) =
    frame_after_elements
    (frame_after (with_element w) true (announced_length h.size) (has_unused_bits (value_check_for h c)))
    rest
frame_after_elements w (Holder h inside rest) =
    frame_after_elements (frame_after (with_element w) (has_primitive_form h) (announced_length h.size) false) rest
frame_after_elements w (OpenPrimitive h c) = w
frame_after_elements w (OpenHolder h inside) = w
frame_after_elements w (OpenBitString h) = w
frame_after_elements w (OpenHeader octets) = w
frame_after_elements w OpenEndOctets = w

-- the same of the segments of a string
abbrev frame_after_segments : HolderFrame → Forest → HolderFrame
frame_after_segments w NoMore = w
frame_after_segments w (PaddingOctet rest) = frame_after_segments w rest
frame_after_segments w (Primitive h c rest) =
    frame_after_segments
    (frame_after_segment (with_element w) true (announced_length h.size)
    (has_unused_bits (value_check_for h c)))
    rest
frame_after_segments w (Holder h inside rest) =
    frame_after_segments (frame_after_segment (with_element w) (has_primitive_form h) (announced_length h.size) false) rest
frame_after_segments w (OpenPrimitive h c) = w
frame_after_segments w (OpenHolder h inside) = w
frame_after_segments w (OpenBitString h) = w
frame_after_segments w (OpenHeader octets) = w
frame_after_segments w OpenEndOctets = w

all-in-string : (w : HolderFrame) (f : Forest) → w.has_segments ≡ true
    → frame_after_elements w f ≡ frame_after_segments w f
all-in-string w NoMore e = refl
all-in-string w (PaddingOctet rest) e = all-in-string w rest e
all-in-string w (Primitive h c rest) e =
    let u : Bool = has_unused_bits (value_check_for h c) in
    ap (λ (t : HolderFrame). frame_after_elements t rest) (in-string (with_element w) true (announced_length h.size) u e)
    ∙ all-in-string (frame_after_segment (with_element w) true (announced_length h.size) u) rest e
all-in-string w (Holder h inside rest) e =
    ap (λ (t : HolderFrame). frame_after_elements t rest)
    (in-string (with_element w) (has_primitive_form h) (announced_length h.size) false e)
    ∙ all-in-string (frame_after_segment (with_element w) (has_primitive_form h) (announced_length h.size) false) rest e
all-in-string w (OpenPrimitive h c) e = refl
all-in-string w (OpenHolder h inside) e = refl
all-in-string w (OpenBitString h) e = refl
all-in-string w (OpenHeader octets) e = refl
all-in-string w OpenEndOctets e = refl

-- what a frame says of the holder
pub record SameHolder (w t : HolderFrame) : Type 0 where
  pub offset : t.offset ≡ w.offset
  pub announced_length : t.announced_length ≡ w.announced_length
  pub primitive : t.is_primitive ≡ w.is_primitive
  pub segments : t.has_segments ≡ w.has_segments

stays-after : (w : HolderFrame) (primitive : Bool) (size : ℕ) (unused_bits : Bool)
    → SameHolder w (frame_after (with_element w) primitive size unused_bits)
stays-after w primitive size unused_bits = by w.has_segments refl
  where
    by : (k : Bool) → w.has_segments ≡ k
        → SameHolder w
        (if k then frame_after_segment (with_element w) primitive size unused_bits else with_element w)
    by true e = record { offset = refl; announced_length = refl; primitive = refl; segments = refl }
    by false e = record { offset = refl; announced_length = refl; primitive = refl; segments = refl }

stays-then : {u w t : HolderFrame} → SameHolder u w → SameHolder w t → SameHolder u t
stays-then a b = record {
  offset = b.offset ∙ a.offset;
  announced_length = b.announced_length ∙ a.announced_length;
  primitive = b.primitive ∙ a.primitive;
  segments = b.segments ∙ a.segments;
}

frame-stays : (w : HolderFrame) (f : Forest) → SameHolder w (frame_after_elements w f)
frame-stays w NoMore = record { offset = refl; announced_length = refl; primitive = refl; segments = refl }
frame-stays w (PaddingOctet rest) = frame-stays w rest
frame-stays w (Primitive h c rest) =
    stays-then
    (stays-after w true (announced_length h.size) (has_unused_bits (value_check_for h c)))
    (frame-stays
    (frame_after (with_element w) true (announced_length h.size) (has_unused_bits (value_check_for h c)))
    rest)
frame-stays w (Holder h inside rest) =
    stays-then (stays-after w (has_primitive_form h) (announced_length h.size) false)
    (frame-stays (frame_after (with_element w) (has_primitive_form h) (announced_length h.size) false) rest)
frame-stays w (OpenPrimitive h c) = record { offset = refl; announced_length = refl; primitive = refl; segments = refl }
frame-stays w (OpenHolder h inside) = record { offset = refl; announced_length = refl; primitive = refl; segments = refl }
frame-stays w (OpenBitString h) = record { offset = refl; announced_length = refl; primitive = refl; segments = refl }
frame-stays w (OpenHeader octets) = record { offset = refl; announced_length = refl; primitive = refl; segments = refl }
frame-stays w OpenEndOctets = record { offset = refl; announced_length = refl; primitive = refl; segments = refl }

-- an element in it has begun, and no later element changes this
with-it : (w : HolderFrame) (primitive : Bool) (size : ℕ) (unused_bits : Bool)
    → (frame_after (with_element w) primitive size unused_bits).lacks_components ≡ false
with-it w primitive size unused_bits = by w.has_segments
  where
    by : (k : Bool)
        → (if k then frame_after_segment (with_element w) primitive size unused_bits
        else with_element w).lacks_components ≡ false
    by true = refl
    by false = refl

none-lacking : (a : Bool) (n : ℕ) → false ≡ (a && suc n == 0)
none-lacking a n =
    let more : (suc n == 0) ≡ false = grind (arith, nat_tests) in
    sym (ap (λ (k : Bool). a && k) more ∙ and-nothing a)
  where
    and-nothing : (b : Bool) → (b && false) ≡ false
    and-nothing true = refl
    and-nothing false = refl

and-true : (a : Bool) → a ≡ (a && true)
and-true true = refl
and-true false = refl

-- whether components are lacking after elements
lacks-after : (w : HolderFrame) (f : Forest)
    → (frame_after_elements w f).lacks_components ≡ (w.lacks_components && length (headers f) == 0)
lacks-after w NoMore = and-true w.lacks_components
lacks-after w (PaddingOctet rest) = lacks-after w rest
lacks-after w (Primitive h c rest) =
    let u : Bool = has_unused_bits (value_check_for h c) in
    lacks-after (frame_after (with_element w) true (announced_length h.size) u) rest
    ∙ ap (λ (k : Bool). k && length (headers rest) == 0) (with-it w true (announced_length h.size) u)
    ∙ none-lacking w.lacks_components (length (headers rest))
lacks-after w (Holder h inside rest) =
    lacks-after (frame_after (with_element w) (has_primitive_form h) (announced_length h.size) false) rest
    ∙ ap (λ (k : Bool). k && length (headers rest) == 0) (with-it w (has_primitive_form h) (announced_length h.size) false)
    ∙ none-lacking w.lacks_components (length (headers rest))
lacks-after w (OpenPrimitive h c) = and-true w.lacks_components
lacks-after w (OpenHolder h inside) = and-true w.lacks_components
lacks-after w (OpenBitString h) = and-true w.lacks_components
lacks-after w (OpenHeader octets) = and-true w.lacks_components
lacks-after w OpenEndOctets = and-true w.lacks_components

-- a primitive that holds nothing is not constructed
pub not-constructed : (k wraps : Bool) → (k || wraps) ≡ false → k ≡ false
not-constructed true wraps e = absurd (true≢false e)
not-constructed false wraps e = refl

abbrev value_length_after : ℕ → ℕ → List HeaderValue → ℕ
value_length_after bits n hs = fold (λ (m : ℕ) (g : HeaderValue). m + (announced_length g.size - bits)) n hs

-- whether the last of the elements is a primitive without contents octets; `empty` says so of the element before them
abbrev ends_empty_after : Bool → List HeaderValue → Bool
ends_empty_after empty [] = empty
ends_empty_after empty (h ∷ hs) = ends_empty_after (has_primitive_form h && announced_length h.size == 0) hs

last-empty : (empty : Bool) (h : HeaderValue) (hs : List HeaderValue)
    → ends_empty_after empty (h ∷ hs) ≡ ends_empty (h ∷ hs)
last-empty empty h [] = refl
last-empty empty h (g ∷ hs) = last-empty (has_primitive_form h && announced_length h.size == 0) g hs

all-empty : (hs : List HeaderValue) → ends_empty_after false hs ≡ ends_empty hs
all-empty [] = refl
all-empty (h ∷ hs) = last-empty false h hs

record SumsUp (w : HolderFrame) (n : ℕ) (f : Forest) : Type 0 where
  pub segments : (frame_after_segments w f).has_segments ≡ w.has_segments
  pub bits : (frame_after_segments w f).is_bit_string ≡ w.is_bit_string
  pub all : (frame_after_segments w f).all_primitive ≡ (w.all_primitive && list_all has_primitive_form (headers f))
  pub value_length : (frame_after_segments w f).value_length
      ≡ min (value_length_after (bits_octet_count w.is_bit_string) n (headers f)) 1001
  pub empty : (frame_after_segments w f).ends_empty ≡ ends_empty_after w.ends_empty (headers f)

more-length : (w n d : ℕ) → w ≡ min n 1001 → min (w + d) 1001 ≡ min (n + d) 1001
more-length w n d e = omega (arith, e)

sums-up : (p : Place) (w : HolderFrame) (n : ℕ) (f : Forest) → ObeysGrammar p f → is_whole f ≡ true
    → w.value_length ≡ min n 1001
    → SumsUp w n f
sums-up p w n NoMore v e o =
    record { segments = refl; bits = refl; all = and-true w.all_primitive; value_length = o; empty = refl }
sums-up p w n (PaddingOctet rest) v e o =
    let r = sums-up (place_after p 1) w n rest v.1 e o in
    record { segments = r.segments; bits = r.bits; all = r.all; value_length = r.value_length; empty = r.empty }
sums-up p w n (Primitive h c rest) v e o =
    let d : ℕ = announced_length h.size - bits_octet_count w.is_bit_string in
    let k : has_primitive_form h ≡ true = ap not (not-constructed h.constructed (wraps h) v.0.0.holding) in
    let u : Bool = has_unused_bits (value_check_for h c) in
    let r =
    sums-up (place_after p (length (octets_of h) + length c))
    (frame_after_segment (with_element w) true (announced_length h.size) u) (n + d) rest v.1 e
    (more-length w.value_length n d o) in
    record {
      segments = r.segments;
      bits = r.bits;
      all =
          r.all ∙ and_assoc w.all_primitive true (list_all has_primitive_form (headers rest))
          ∙ ap (λ (b : Bool). w.all_primitive && (b && list_all has_primitive_form (headers rest))) (sym k);
      value_length = r.value_length;
      empty =
          r.empty ∙ ap (λ (b : Bool). ends_empty_after (b && announced_length h.size == 0) (headers rest)) (sym k);
    }
sums-up p w n (Holder h inside rest) v e o =
    let d : ℕ = announced_length h.size - bits_octet_count w.is_bit_string in
    let r =
    sums-up (place_after p (holder_extent h inside))
    (frame_after_segment (with_element w) (has_primitive_form h) (announced_length h.size) false) (n + d) rest v.2 e
    (more-length w.value_length n d o) in
    record {
      segments = r.segments;
      bits = r.bits;
      all = r.all ∙ and_assoc w.all_primitive (has_primitive_form h) (list_all has_primitive_form (headers rest));
      value_length = r.value_length;
      empty = r.empty;
    }
sums-up p w n (OpenPrimitive h c) v e o = absurd (cc (e))
sums-up p w n (OpenHolder h inside) v e o = absurd (cc (e))
sums-up p w n (OpenBitString h) v e o = absurd (cc (e))
sums-up p w n (OpenHeader octets) v e o = absurd (cc (e))
sums-up p w n OpenEndOctets v e o = absurd (cc (e))

-- what is found with an end, by what is asked of the holder and of what it held
abbrev ended_by : Wanted → HeaderValue → List HeaderValue → Bool → List Finding
ended_by wanted h hs lacks =
    ends_by wanted lacks (has_segments h) (list_all has_primitive_form hs) (nat_le (length_as_primitive h hs) 1000)
    (ends_empty hs)

segments-summed : (wanted : Wanted) (p : Place) (h : HeaderValue) (inside : Forest) → ObeysGrammar p inside
    → is_whole inside ≡ true
    → end_findings_in wanted (segments_in (frame_after_segments (frame_of h) inside))
    ≡ ended_by wanted h (headers inside) (frame_after_segments (frame_of h) inside).lacks_components
segments-summed wanted p h inside v e =
    let r = sums-up p (frame_of h) 0 inside v e refl in
    let w : HolderFrame = frame_after_segments (frame_of h) inside in
    let lacks : Bool = w.lacks_components in
    let k : Bool = has_segments h in
    let b : Bool = is_a bit_string h in
    let all : Bool = list_all has_primitive_form (headers inside) in
    let few : Bool → ℕ → Bool = λ bits octets. nat_le (bits_octet_count bits + octets) 1000 in
    ap₂ (λ (x y : Bool). ends_by wanted lacks x w.all_primitive (few y w.value_length) w.ends_empty) r.segments r.bits
    ∙ ap₂ (λ (x y : Bool). ends_by wanted lacks k x (few (k && b) w.value_length) y) r.all
    (r.empty ∙ all-empty (headers inside))
    ∙ ap (λ (n : ℕ). ends_by wanted lacks k all (few (k && b) n) (ends_empty (headers inside))) r.value_length
    ∙ end-by wanted lacks k b all (ends_empty (headers inside))
    (λ (n : ℕ). value_length_after n 0 (headers inside))

-- outside of strings only components may be lacking at an end
ends-outside : (wanted : Wanted) (w : HolderFrame) → w.has_segments ≡ false
    → end_findings_in wanted (segments_in w) ≡ ends_by wanted w.lacks_components false false false false
ends-outside wanted w e =
    ap (λ (k : Bool). ends_by wanted w.lacks_components k w.all_primitive
    (nat_le (bits_octet_count w.is_bit_string + w.value_length) 1000) w.ends_empty)
    e

asked-outside : (wanted : Wanted) (h : HeaderValue) (hs : List HeaderValue) (lacks : Bool) → has_segments h ≡ false
    → ended_by wanted h hs lacks ≡ ends_by wanted lacks false false false false
asked-outside wanted h hs lacks e =
    ap (λ (k : Bool). ends_by wanted lacks k (list_all has_primitive_form hs) (nat_le (length_as_primitive h hs) 1000)
    (ends_empty hs))
    e

-- what is found with an end, by the frame of what was held
end_findings-by_frame : (wanted : Wanted) (p : Place) (h : HeaderValue) (inside : Forest) → ObeysGrammar p inside
    → is_whole inside ≡ true
    → end_findings_in wanted (segments_in (frame_after_elements (frame_of h) inside))
    ≡ end_findings wanted h (headers inside)
end_findings-by_frame wanted p h inside v e = by-segments (has_segments h) refl
  where
    w : HolderFrame
    w = frame_after_elements (frame_of h) inside

    lacks : w.lacks_components ≡ (has_components h && length (headers inside) == 0)
    lacks = lacks-after (frame_of h) inside

    by-segments : (k : Bool) → has_segments h ≡ k
        → end_findings_in wanted (segments_in w) ≡ end_findings wanted h (headers inside)
    by-segments true c =
        let same = all-in-string (frame_of h) inside c in
        ap (λ (t : HolderFrame). end_findings_in wanted (segments_in t)) same
        ∙ segments-summed wanted p h inside v e
        ∙ ap (ended_by wanted h (headers inside)) (ap (λ (t : HolderFrame). t.lacks_components) (sym same) ∙ lacks)
    by-segments false c =
        ends-outside wanted w ((frame-stays (frame_of h) inside).segments ∙ c)
        ∙ sym (asked-outside wanted h (headers inside) w.lacks_components c)
        ∙ ap (ended_by wanted h (headers inside)) lacks

-- ---- the same if nothing is to be known of what was held

module _ (wanted : Wanted) (p : Place) (w : HolderFrame) (h : HeaderValue) (inside : Forest) (v : ObeysGrammar p inside)
    (whole : is_whole inside ≡ true) where
  -- an element that is no string, and has no components: nothing is found with its end
  nothing-ends : has_segments h ≡ false → has_components h ≡ false → end_findings wanted h (headers inside) ≡ []
  nothing-ends e f =
      asked-outside wanted h (headers inside) (has_components h && length (headers inside) == 0) e
      ∙ ap (λ (k : Bool). ends_by wanted (k && length (headers inside) == 0) false false false false) f

  nothing-at_top : end_findings_in wanted (segments_in (frame_after_elements top_frame inside)) ≡ []
  nothing-at_top =
      ends-outside wanted (frame_after_elements top_frame inside) (frame-stays top_frame inside).segments
      ∙ ap (λ (k : Bool). ends_by wanted k false false false false) (lacks-after top_frame inside)

  pub summed-under : end_findings_in wanted (segments_in (frame_after_elements (frame_under w h) inside))
      ≡ end_findings wanted h (headers inside)
  summed-under = by (w.has_segments || w.has_components) (has_segments h) (has_components h) refl refl
    where
      by : (outside string components : Bool) → has_segments h ≡ string → has_components h ≡ components
          → end_findings_in wanted
          (segments_in
          (frame_after_elements (if outside || string || components then frame_of h else top_frame) inside))
          ≡ end_findings wanted h (headers inside)
      by true string components e f = end_findings-by_frame wanted p h inside v whole
      by false true components e f = end_findings-by_frame wanted p h inside v whole
      by false false true e f = end_findings-by_frame wanted p h inside v whole
      by false false false e f = nothing-at_top ∙ sym (nothing-ends e f)

  -- where it begins does not matter if nothing is found
  pub offset-under : {T : Type 0} (put : ℕ → List Finding → List T) → ((offset : ℕ) → put offset [] ≡ [])
      → put (frame_after_elements (frame_under w h) inside).offset (end_findings wanted h (headers inside))
      ≡ put h.offset (end_findings wanted h (headers inside))
  offset-under put none = by (w.has_segments || w.has_components) (has_segments h) (has_components h) refl refl
    where
      kept : put (frame_after_elements (frame_of h) inside).offset (end_findings wanted h (headers inside))
          ≡ put h.offset (end_findings wanted h (headers inside))
      kept =
          ap (λ (offset : ℕ). put offset (end_findings wanted h (headers inside)))
          (frame-stays (frame_of h) inside).offset

      by : (outside string components : Bool) → has_segments h ≡ string → has_components h ≡ components
          → put (frame_after_elements (if outside || string || components then frame_of h else top_frame) inside).offset
          (end_findings wanted h (headers inside))
          ≡ put h.offset (end_findings wanted h (headers inside))
      by true string components e f = kept
      by false true components e f = kept
      by false false true e f = kept
      by false false false e f =
          let offset : ℕ = (frame_after_elements top_frame inside).offset in
          ap (put offset) (nothing-ends e f) ∙ none offset
          ∙ sym (ap (put h.offset) (nothing-ends e f) ∙ none h.offset)

-- the holder of an element asks for its form and size only if it is a string
pub after-under : (w : HolderFrame) (h : HeaderValue) (inside : Forest)
    → frame_after w (frame_after_elements (frame_under w h) inside).is_primitive
    (frame_after_elements (frame_under w h) inside).announced_length false
    ≡ frame_after w (has_primitive_form h) (announced_length h.size) false
after-under w h inside = by w.has_segments refl
  where
    by : (k : Bool) → w.has_segments ≡ k
        → frame_after w
        (frame_after_elements
        (if k || w.has_components || has_segments h || has_components h then frame_of h else top_frame)
        inside).is_primitive
        (frame_after_elements
        (if k || w.has_components || has_segments h || has_components h then frame_of h else top_frame)
        inside).announced_length false
        ≡ frame_after w (has_primitive_form h) (announced_length h.size) false
    by true e =
        let r =
        frame-stays (frame_of h) inside in ap₂ (λ (b : Bool) (size : ℕ). frame_after w b size false) r.primitive
        r.announced_length
    by false e =
        let f : HolderFrame =
        frame_after_elements
        (if w.has_components || has_segments h || has_components h then frame_of h else top_frame)
        inside in
        outside w f.is_primitive f.announced_length false e
        ∙ sym (outside w (has_primitive_form h) (announced_length h.size) false e)
