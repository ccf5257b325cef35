-- What is kept of events is the same however contents and padding are cut into pieces.
use Rattle.std.proofs.Common.{◌≡◌, ℕ, ◌+◌, List, [], ◌∷◌, ◌++◌, length, map, refl, sym, ap, ◌∙◌, arith}
use Rattle.tlv_walk.specs.Events.{AreEqualJoined, Begin, Bytes, Close, End, Enter, EventValue, Leave, Open, Pad, Unused}
use Rattle.tlv_walk.specs.Events.{single_octets}
use Rattle.tlv_walk.proofs.EventLemmas.JoinedEvents.{apart-from_joined}
use Rattle.tlv_reasons.specs.declared.tracker.Tracker.{Tracker}
use Rattle.tlv_reasons.specs.Private.Tracking.{track, track_all}

-- so many octets on
abbrev pub tracker_after : Tracker → ℕ → Tracker
tracker_after t n = record t { offset = t.offset + n }

-- of events, and then of others
pub track_all-append : (t : Tracker) (xs ys : List EventValue) → track_all t (xs ++ ys) ≡ track_all (track_all t xs) ys
track_all-append t [] ys = refl
track_all-append t (x ∷ xs) ys = track_all-append (track t x) xs ys

-- no octet on
tracker_after-zero : (t : Tracker) → tracker_after t 0 ≡ t
tracker_after-zero t = ap (λ (n : ℕ). record t { offset = n }) (omega arith)

-- an octet on, and then others
tracker_after-more : (t : Tracker) (x : ℕ) (c : List ℕ)
    → tracker_after (tracker_after t 1) (length c) ≡ tracker_after t (length (x ∷ c))
tracker_after-more t x c = ap (λ (n : ℕ). record t { offset = n }) (omega arith)

-- contents, octet by octet
tracked-bytes : (t : Tracker) (c : List ℕ) (es : List EventValue)
    → track_all t (map (λ x. Bytes (x ∷ [])) c ++ es) ≡ track_all (tracker_after t (length c)) es
tracked-bytes t [] es = ap (λ (u : Tracker). track_all u es) (sym (tracker_after-zero t))
tracked-bytes t (x ∷ c) es =
    tracked-bytes (tracker_after t 1) c es ∙ ap (λ (u : Tracker). track_all u es) (tracker_after-more t x c)

-- padding, octet by octet
tracked-pads : (t : Tracker) (c : List ℕ) (es : List EventValue)
    → track_all t (map (λ x. Pad (x ∷ [])) c ++ es) ≡ track_all (tracker_after t (length c)) es
tracked-pads t [] es = ap (λ (u : Tracker). track_all u es) (sym (tracker_after-zero t))
tracked-pads t (x ∷ c) es =
    tracked-pads (tracker_after t 1) c es ∙ ap (λ (u : Tracker). track_all u es) (tracker_after-more t x c)

tracked-apart : (t : Tracker) (es : List EventValue) → track_all t (single_octets es) ≡ track_all t es
tracked-apart t [] = refl
tracked-apart t (Open h ∷ es) = tracked-apart (track t (Open h)) es
tracked-apart t (Begin h ∷ es) = tracked-apart (track t (Begin h)) es
tracked-apart t (Bytes c ∷ es) =
    tracked-bytes t c (single_octets es) ∙ tracked-apart (tracker_after t (length c)) es
tracked-apart t (End ∷ es) = tracked-apart (track t End) es
tracked-apart t (Close o ∷ es) = tracked-apart (track t (Close o)) es
tracked-apart t (Enter h ∷ es) = tracked-apart (track t (Enter h)) es
tracked-apart t (Unused ∷ es) = tracked-apart (track t Unused) es
tracked-apart t (Leave ∷ es) = tracked-apart (track t Leave) es
tracked-apart t (Pad c ∷ es) = tracked-pads t c (single_octets es) ∙ tracked-apart (tracker_after t (length c)) es

-- of events that are equal joined the same is kept
pub tracked-joined : (t : Tracker) (xs ys : List EventValue) → AreEqualJoined xs ys → track_all t xs ≡ track_all t ys
tracked-joined t xs ys e =
    sym (tracked-apart t xs) ∙ ap (track_all t) (apart-from_joined xs ys e) ∙ tracked-apart t ys
