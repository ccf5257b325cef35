-- The strings that are named if one is explained: their offsets rise.
use Rattle.std.proofs.Common.{◌≡◌, ◌+◌, ◌^◌, ◌<◌, ◌≤◌, ℕ, Bool, true, false, List, [], ◌∷◌, ◌++◌, arith, refl}
use Rattle.std.specs.Prelude.{length, nat_lt}
use Rattle.std.specs.List.{filter}
use Rattle.std.proofs.lemmas.Bool.{ltb-true}
use Rattle.tlv_head.specs.Limits.{input_limit}
use Rattle.tlv_walk.specs.Inside.{are_rising}
use Rattle.tlv_walk.specs.Reading.{AreOctets}
use Rattle.tlv_walk.proofs.EventLemmas.NamedOffsets.{AreRising, rising-from, rising-to}
use Rattle.tlv_walk.proofs.GrammarLemmas.Readings.{is-reading, reading}
use Rattle.tlv_open.specs.Laws.{OpeningIsSafe, opened_framing}
use Rattle.tlv_open.specs.Opens.{AreOpened, closed_framing}
use Rattle.tlv_view_program.specs.WritesReasons.{offsets_up_to}

-- numbers that rise do so from a smaller one on
rise-below : (a b : ℕ) (ns : List ℕ) → a ≤ b → AreRising b ns → AreRising a ns
rise-below a b [] h r = tt
rise-below a b (n ∷ ns) h r = (omega (arith, r.0), r.1, r.2)

-- one more of those below an offset, by whether it is
kept-one : (b : Bool) (least offset n : ℕ) (ns : List ℕ) → nat_lt n offset ≡ b → (least ≤ n) × (n ≤ 2 ^ 40)
    → (n < offset → AreRising (n + 1) (filter (λ o. nat_lt o offset) ns ++ offset ∷ []))
    → AreRising least (filter (λ o. nat_lt o offset) ns ++ offset ∷ [])
    → AreRising least (filter (λ o. nat_lt o offset) (n ∷ ns) ++ offset ∷ [])
kept-one true least offset n ns e h kept left = rw e (h.0, h.1, kept (ltb-true n offset e))
kept-one false least offset n ns e h kept left = rw e left

-- those below an offset, and it
kept-rise : (least offset : ℕ) (ns : List ℕ) → least ≤ offset → offset ≤ 2 ^ 40 → AreRising least ns
    → AreRising least (filter (λ o. nat_lt o offset) ns ++ offset ∷ [])
kept-rise least offset [] h k r = (h, k, tt)
kept-rise least offset (n ∷ ns) h k r =
    kept-one (nat_lt n offset) least offset n ns refl (r.0, r.1)
    (λ below. kept-rise (n + 1) offset ns (omega (arith, below)) k r.2)
    (kept-rise least offset ns h k (rise-below least (n + 1) ns (omega (arith, r.0)) r.2))

pub named-rise : (offset : ℕ) (opened : List ℕ) → offset ≤ input_limit → are_rising 0 opened ≡ true
    → are_rising 0 (offsets_up_to offset opened) ≡ true
named-rise offset opened h r =
    rising-from 0 (offsets_up_to offset opened) (kept-rise 0 offset opened (omega arith) h (rising-to 0 opened r))

-- the offsets of the strings that are opened rise
pub opened-rise : OpeningIsSafe → (padding : Bool) (octets offsets : List ℕ) → AreOctets octets
    → length octets ≤ input_limit → AreOpened padding octets offsets → are_rising 0 offsets ≡ true
opened-rise safe padding octets offsets each short opens =
    (safe padding octets offsets (reading (closed_framing padding) octets)
    (reading (opened_framing padding offsets) octets) each short opens
    (is-reading (closed_framing padding) octets each) (is-reading (opened_framing padding offsets) octets each)).0
