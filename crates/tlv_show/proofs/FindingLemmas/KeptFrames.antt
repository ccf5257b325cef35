-- The frames that are kept represent all frames.
use Rattle.std.proofs.Common.{zero, suc, ◌≡◌, ℕ, ◌+◌, ◌-◌, ◌<◌, ◌≤◌, ◌||◌, Bool, true, false, nat_lt, if◌then◌else◌}
use Rattle.std.proofs.Common.{List, [], ◌∷◌, length, None, refl, sym, ap, ap₂, subst, ◌∙◌, arith, ◌&&◌}
use Rattle.std.proofs.lemmas.Bool.Decides.{nat_tests}
use Rattle.tlv_head.specs.Header.{HeaderValue}
use Rattle.tlv_value.specs.Types.{has_segments}
use Rattle.tlv_show.specs.declared.holder_frame.HolderFrame.{HolderFrame}
use Rattle.tlv_show.specs.declared.holder_frame.KeptFrame.{KeptFrame}
use Rattle.tlv_show.specs.NestingState.{NestingState, depth_in, frame_after, frame_of, frame_under}
use Rattle.tlv_show.specs.NestingState.{nesting_around, nesting_close_step, nesting_open_step, surroundings_in}
use Rattle.tlv_show.specs.NestingState.{has_frame, nesting_primitive_step, top_frame, with_element}
use Rattle.tlv_show.specs.AllConditions.{has_components}
use Rattle.tlv_show.specs.Private.Nesting.{SaysTheSame, HaveRisingFloors, TakesBack, all_frames, frames_with}
use Rattle.tlv_show.specs.Private.Nesting.{innermost_frame, nesting_with_element}
use Rattle.tlv_show.specs.Private.Nesting.{outer_frames, closed_frame_inside, closed_frame}
use Rattle.tlv_show.proofs.FindingLemmas.FramesAfter.{outside}

-- ---- how many there are

length-all : (w : HolderFrame) (n : ℕ) (outer : List HolderFrame)
    → length (frames_with w n outer) ≡ n + length outer + 1
length-all w zero outer = omega arith
length-all w (suc n) outer = let e = length-all w n outer in omega (arith, e)

pub length-outside : (w : HolderFrame) (n : ℕ) (outer : List HolderFrame)
    → length (outer_frames w n outer) ≡ n + length outer
length-outside w zero outer = omega arith
length-outside w (suc n) outer = let e = length-all w n outer in omega (arith, e)

length-others : (floor : ℕ) (outer : List KeptFrame) → HaveRisingFloors floor outer
    → length (all_frames floor outer) ≡ floor
length-others floor [] none = sym none
length-others floor (k ∷ outer) (above, kept, others) =
    let e = length-all k.frame (floor - 1 - k.floor) (all_frames k.floor outer) in
    let r = length-others k.floor outer others in
    omega (arith, e, r, above)

-- the depth is their number
pub one_each : (w : HolderFrame) (floor depth : ℕ) (outer : List KeptFrame) → floor ≤ depth
    → HaveRisingFloors floor outer
    → length (outer_frames w (depth - floor) (all_frames floor outer)) ≡ depth
one_each w floor depth outer inside others =
    let e = length-outside w (depth - floor) (all_frames floor outer) in
    let r = length-others floor outer others in
    omega (arith, e, r, inside)

-- past the limit nothing more is kept
pub open-full : (n : NestingState) (h : HeaderValue) → 128 ≤ depth_in n → n ≡ nesting_open_step n h
open-full n h full =
    let no_room : nat_lt (depth_in n) 128 ≡ false = grind arith in
    rw no_room refl

pub fewer-kept : (floor : ℕ) (outer : List KeptFrame) → HaveRisingFloors floor outer → length outer ≤ floor
fewer-kept floor [] none = omega arith
fewer-kept floor (k ∷ outer) (above, kept, others) = let r = fewer-kept k.floor outer others in omega (arith, r, above)

-- ---- what contracts see of those that are kept

abbrev nest : HolderFrame → ℕ → List HolderFrame → NestingState
nest w n outer = record { frame = innermost_frame w n; outer = outer_frames w n outer }

abbrev nesting_of : HolderFrame → ℕ → ℕ → List KeptFrame → NestingState
nesting_of w floor depth outer = nest w (depth - floor) (all_frames floor outer)

frames_with-split : (w : HolderFrame) (n : ℕ) (outer : List HolderFrame)
    → frames_with w n outer ≡ innermost_frame w n ∷ outer_frames w n outer
frames_with-split w zero outer = refl
frames_with-split w (suc n) outer = refl

-- all frames outside of strings say the same of what is around an element
pub around-same : (w : HolderFrame) (n : ℕ) → SaysTheSame w n
    → surroundings_in w ≡ surroundings_in (innermost_frame w n)
around-same w zero kept = refl
around-same w (suc n) kept =
    ap (λ (k : Bool). record {
      in_string = k;
      in_bit_string = k && w.is_bit_string;
      after_unused_bits = k && w.is_bit_string && w.last_has_unused_bits;
      after_not_full = k && w.last_is_not_full;
      in_components = w.has_components;
      in_external = w.has_components && w.is_external;
    }) (sym kept.0)
    ∙ ap (λ (k : Bool). record {
      in_string = false;
      in_bit_string = false;
      after_unused_bits = false;
      after_not_full = false;
      in_components = k;
      in_external = k && w.is_external;
    }) (sym kept.2)

-- ---- an element begins

opened-is : (w : HolderFrame) (n : ℕ) (outer : List HolderFrame) (h : HeaderValue)
    → length (outer_frames w n outer) < 128
    → nesting_open_step (nest w n outer) h
    ≡ record {
      frame = frame_under (innermost_frame w n) h;
      outer = with_element (innermost_frame w n) ∷ outer_frames w n outer;
    }
opened-is w n outer h few =
    let yes : nat_lt (length (outer_frames w n outer)) 128 ≡ true = grind (arith, nat_tests) in
    rw yes refl

-- an element has begun in the innermost one: if it has no frame, this changes none
noted : (w : HolderFrame) → w.lacks_components ≡ false → with_element w ≡ w
noted w e = ap (λ (k : Bool). record w { lacks_components = k }) (sym e)

pub still-same : (w : HolderFrame) (n : ℕ) → SaysTheSame w n → SaysTheSame (with_element w) n
still-same w zero kept = (refl, refl, refl)
still-same w (suc n) kept = (kept.0, refl, kept.2)

pub innermost-noted : (w : HolderFrame) (n : ℕ) → innermost_frame (with_element w) n ≡ with_element (innermost_frame w n)
innermost-noted w zero = refl
innermost-noted w (suc n) = refl

pub outer-noted : (w : HolderFrame) (n : ℕ) (outer : List HolderFrame) → SaysTheSame w n
    → outer_frames (with_element w) n outer ≡ outer_frames w n outer
outer-noted w zero outer kept = refl
outer-noted w (suc n) outer kept = ap (λ (v : HolderFrame). frames_with v n outer) (noted w (sym kept.1))

all-noted : (w : HolderFrame) (n : ℕ) (outer : List HolderFrame) → SaysTheSame w n
    → frames_with (with_element w) n outer ≡ with_element (innermost_frame w n) ∷ outer_frames w n outer
all-noted w n outer kept =
    frames_with-split (with_element w) n outer
    ∙ ap₂ (λ (v : HolderFrame) (l : List HolderFrame). v ∷ l) (innermost-noted w n) (outer-noted w n outer kept)

or-false_parts : (a b : Bool) → (a || b) ≡ false → (a ≡ false) × (b ≡ false)
or-false_parts true b e = absurd (cc (e))
or-false_parts false b e = (refl, e)

opened-without_frame : (w : HolderFrame) (n : ℕ) (outer : List HolderFrame) (h : HeaderValue)
    → length (outer_frames w n outer) < 128
    → SaysTheSame w n → has_frame (innermost_frame w n) h ≡ false
    → nest (with_element w) (suc n) outer ≡ nesting_open_step (nest w n outer) h
opened-without_frame w n outer h few kept none =
    ap₂ (λ (b : Bool) (l : List HolderFrame). record { frame = if b then frame_of h else top_frame; outer = l })
    (sym none) (all-noted w n outer kept)
    ∙ sym (opened-is w n outer h few)

opened-frame : (w : HolderFrame) (n : ℕ) (outer : List HolderFrame) (h : HeaderValue)
    → length (outer_frames w n outer) < 128
    → SaysTheSame w n → has_frame (innermost_frame w n) h ≡ true
    → nest (frame_of h) 0 (frames_with (with_element w) n outer) ≡ nesting_open_step (nest w n outer) h
opened-frame w n outer h few kept one =
    ap₂ (λ (b : Bool) (l : List HolderFrame). record { frame = if b then frame_of h else top_frame; outer = l })
    (sym one) (all-noted w n outer kept)
    ∙ sym (opened-is w n outer h few)

-- whether an element needs a frame
pub frame-same : (w : HolderFrame) (n : ℕ) (h : HeaderValue) → SaysTheSame w n
    → has_frame (innermost_frame w n) h ≡ has_frame w h
frame-same w n h kept =
    ap₂ (λ (a b : Bool). a || b || has_segments h || has_components h) kept.0 kept.2

module _
    (w : HolderFrame) (floor depth : ℕ) (outer : List KeptFrame)
    (inside : floor ≤ depth) (kept : SaysTheSame w (depth - floor)) (others : HaveRisingFloors floor outer)
    (h : HeaderValue) (few : depth < 128)
  where
    few-outside : length (outer_frames w (depth - floor) (all_frames floor outer)) < 128
    few-outside = let e = one_each w floor depth outer inside others in omega (arith, e)

    pub opens-without_frame : has_frame w h ≡ false
        → nesting_of (with_element w) floor (depth + 1) outer ≡ nesting_open_step (nesting_of w floor depth outer) h
    opens-without_frame none =
        let one_more : depth + 1 - floor ≡ suc (depth - floor) = omega arith in
        rw one_more (opened-without_frame w (depth - floor) (all_frames floor outer) h few-outside kept
        (frame-same w (depth - floor) h kept ∙ none))

    pub opens-frame : has_frame w h ≡ true
        → nesting_of (frame_of h) (depth + 1) (depth + 1) (record { frame = with_element w; floor = floor } ∷ outer)
        ≡ nesting_open_step (nesting_of w floor depth outer) h
    opens-frame one =
        let none_inside : depth + 1 - (depth + 1) ≡ 0 = omega arith in
        let as_before : depth + 1 - 1 ≡ depth = omega arith in
        rw (none_inside, as_before) (opened-frame w (depth - floor) (all_frames floor outer) h few-outside kept
        (frame-same w (depth - floor) h kept ∙ one))

-- what is kept then stays as it has to be
pub without-frame : (w : HolderFrame) (floor depth : ℕ) (h : HeaderValue) → floor ≤ depth → has_frame w h ≡ false
    → SaysTheSame (with_element w) (depth + 1 - floor)
without-frame w floor depth h inside none =
    let one_more : depth + 1 - floor ≡ suc (depth - floor) = omega (arith, inside) in
    let outside : (w.has_segments ≡ false) × (w.has_components ≡ false) =
    or-false_parts w.has_segments w.has_components
    (or-false_parts (w.has_segments || w.has_components) (has_segments h)
    (or-false_parts (w.has_segments || w.has_components || has_segments h) (has_components h) none).0).0 in
    rw one_more (sym outside.0, refl, sym outside.1)

pub at-floor : (w : HolderFrame) (depth : ℕ) → SaysTheSame w (depth - depth)
at-floor w depth = let none_inside : depth - depth ≡ 0 = omega arith in rw none_inside (refl, refl, refl)

pub rises : (w : HolderFrame) (floor depth : ℕ) (outer : List KeptFrame) → floor ≤ depth
    → SaysTheSame w (depth - floor) → HaveRisingFloors floor outer
    → HaveRisingFloors (depth + 1) (record { frame = with_element w; floor = floor } ∷ outer)
rises w floor depth outer inside kept others =
    let as_before : depth + 1 - 1 - floor ≡ depth - floor = omega arith in
    (omega (arith, inside), rw as_before (still-same w (depth - floor) kept), others)

-- ---- an element is noted, and a primitive ends

pub notes-element : (w : HolderFrame) (n : ℕ) (outer : List HolderFrame) → SaysTheSame w n
    → nest (with_element w) n outer ≡ nesting_with_element (nest w n outer)
notes-element w n outer kept =
    ap₂ (λ (v : HolderFrame) (l : List HolderFrame). record { frame = v; outer = l })
    (innermost-noted w n) (outer-noted w n outer kept)

pub ends-primitive : (w : HolderFrame) (n : ℕ) (outer : List HolderFrame) (announced : ℕ) (unused_bits : Bool)
    → SaysTheSame w n
    → nest (frame_after (with_element w) true announced unused_bits) n outer
    ≡ nesting_primitive_step (nest w n outer) announced unused_bits
ends-primitive w zero outer announced unused_bits kept = refl
ends-primitive w (suc n) outer announced unused_bits kept =
    ap (λ (v : HolderFrame). record { frame = top_frame; outer = frames_with v n outer })
    (outside (with_element w) true announced unused_bits (sym kept.0) ∙ noted w (sym kept.1))

pub same-after : (w : HolderFrame) (n : ℕ) (announced : ℕ) (unused_bits : Bool) → SaysTheSame w n
    → SaysTheSame (frame_after (with_element w) true announced unused_bits) n
same-after w zero announced unused_bits kept = (refl, refl, refl)
same-after w (suc n) announced unused_bits kept =
    let e = outside (with_element w) true announced unused_bits (sym kept.0) in (
      kept.0 ∙ ap (λ (v : HolderFrame). v.has_segments) (sym e),
      ap (λ (v : HolderFrame). v.lacks_components) (sym e),
      kept.2 ∙ ap (λ (v : HolderFrame). v.has_components) (sym e),
    )

-- ---- an element ends

one-less : (w : HolderFrame) (n : ℕ) → SaysTheSame w (suc n) → (innermost_frame w n).has_segments ≡ false
one-less w zero kept = sym kept.0
one-less w (suc n) kept = refl

closed-without_frame : (w : HolderFrame) (n : ℕ) (outer : List HolderFrame) → SaysTheSame w (suc n)
    → nest w n outer ≡ nesting_close_step (nest w (suc n) outer)
closed-without_frame w n outer kept =
    ap (λ (v : HolderFrame). record { frame = v; outer = outer_frames w n outer })
    (sym (outside (innermost_frame w n) false 0 false (one-less w n kept)))
    ∙ ap (nesting_around top_frame) (sym (frames_with-split w n outer))

closed-frame : (closed w : HolderFrame) (n : ℕ) (outer : List HolderFrame) → SaysTheSame w n
    → nest (frame_after w closed.is_primitive closed.announced_length false) n outer
    ≡ nesting_around closed (frames_with w n outer)
closed-frame closed w zero outer kept = refl
closed-frame closed w (suc n) outer kept =
    ap (λ (v : HolderFrame). record { frame = top_frame; outer = frames_with v n outer })
    (outside w closed.is_primitive closed.announced_length false (sym kept.0))

closed-top : (w : HolderFrame) (outer : List HolderFrame) → length outer ≡ 0
    → (record { frame = w; outer = outer } ≡ nesting_around w outer) × (None ≡ closed_frame_inside w outer)
closed-top w [] none = (refl, refl)
closed-top w (v ∷ outer) none = absurd (omega arith)

module _ (w : HolderFrame) (floor depth : ℕ) (outer : List KeptFrame) where
  pub closes-without_frame : SaysTheSame w (depth - floor) → floor < depth
      → nesting_of w floor (depth - 1) outer ≡ nesting_close_step (nesting_of w floor depth outer)
  closes-without_frame kept above =
      let one_more : depth - floor ≡ suc (depth - 1 - floor) = omega arith in
      let same : SaysTheSame w (suc (depth - 1 - floor)) = subst (SaysTheSame w) one_more kept in
      rw one_more (closed-without_frame w (depth - 1 - floor) (all_frames floor outer) same)

  pub closes-top : floor ≤ depth → HaveRisingFloors floor outer → depth ≡ 0
      → (nesting_of w floor depth outer ≡ nesting_close_step (nesting_of w floor depth outer))
      × (None ≡ closed_frame (nesting_of w floor depth outer))
  closes-top inside others top =
      closed-top (innermost_frame w (depth - floor)) (outer_frames w (depth - floor) (all_frames floor outer))
      (one_each w floor depth outer inside others ∙ top)

pub closes-frame : (w : HolderFrame) (floor depth : ℕ) (outer : List KeptFrame) → HaveRisingFloors floor outer
    → floor ≡ depth → 0 < depth
    → (v : HolderFrame) (lower : ℕ) (rest : List KeptFrame) → TakesBack w outer v lower rest
    → nesting_of v lower (depth - 1) rest ≡ nesting_close_step (nesting_of w floor depth outer)
closes-frame w floor depth [] none at_floor any v lower rest back = absurd (omega arith)
closes-frame w floor depth (k ∷ outer) (above, kept, others) at_floor any v lower rest back =
    let none_inside : depth - depth ≡ 0 = omega arith in
    let same : SaysTheSame k.frame (depth - 1 - k.floor) =
    subst (λ (n : ℕ). SaysTheSame k.frame (n - 1 - k.floor)) at_floor kept in
    rw (back.frame, back.same_floor, back.rest_is, at_floor, none_inside)
    (closed-frame w k.frame (depth - 1 - k.floor) (all_frames k.floor outer) same)
