-- The frames of the open strings as an array, outermost first.
use Rattle.std.specs.Prelude.{◌≡◌, ℕ, zero, suc, Bool, true, ◌||◌, not, ⊤, List, [], ◌∷◌, ◌++◌, drop, if◌then◌else◌}
use Rattle.std.specs.Prelude.{reverse, take}
use Rattle.tlv_head.specs.Header.{HeaderValue}
use Rattle.tlv_show.specs.declared.segment_frame.SegmentFrame.{SegmentFrame}
use Rattle.tlv_show.specs.SegmentCharactersState.{at_innermost, segment_ended, segments_after_octets, segments_begun}

-- the frame of the innermost string, if one is open, and those outside of it
abbrev pub kept_frames : Bool → SegmentFrame → List SegmentFrame → List SegmentFrame
kept_frames is_open frame outer = if is_open then frame ∷ reverse outer else []

-- no octets are looked at for this string
abbrev pub is_done : SegmentFrame → Bool
is_done w = not w.in_contents || w.has_wrong

-- there are this number of frames, and for the first ones no octets are looked at
abbrev pub AreDone : ℕ → List SegmentFrame → Type 0
AreDone zero outer = ⊤
AreDone (suc n) [] = ⊥
AreDone (suc n) (w ∷ outer) = (is_done w ≡ true) × AreDone n outer

-- the frames from this one on take octets
abbrev pub segments_after_octets_from : ℕ → List ℕ → List SegmentFrame → List SegmentFrame
segments_after_octets_from n octets outer = take n outer ++ segments_after_octets octets (drop n outer)

-- a primitive that ends changes nothing
abbrev pub StayAtPrimitives : List SegmentFrame → Type 0
StayAtPrimitives frames =
    (h : HeaderValue) (c : List ℕ)
    → at_innermost segment_ended (segments_after_octets c (segments_begun frames h)) ≡ frames
