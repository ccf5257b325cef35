-- Laws of the strings that are opened, and of the strings that break.
use Rattle.std.specs.Prelude.{◌≡◌, ◌≤◌, Bool, List, ℕ, length, true}
use Rattle.tlv_head.specs.Limits.{input_limit}
use Rattle.tlv_walk.specs.declared.ending.Ending.{Ending}
use Rattle.tlv_walk.specs.declared.framing.Framing.{Framing}
use Rattle.tlv_walk.specs.Ending.{IsEnding}
use Rattle.tlv_walk.specs.Forest.{Forest, spelling}
use Rattle.tlv_walk.specs.Inside.{are_rising}
use Rattle.tlv_walk.specs.Reading.{AreOctets, IsReading}
use Rattle.tlv_walk.specs.Wrappers.{wrapper_offsets}
use Rattle.tlv_open.specs.declared.strings.BrokenString.{BrokenString}
use Rattle.tlv_open.specs.Breaks.{AreBroken}
use Rattle.tlv_open.specs.Opens.{AreOpened, closed_framing}

-- an input has exactly one list of opened strings
abbrev pub InputsHaveOneList : Type 0
InputsHaveOneList = (padding : Bool) (octets : List ℕ) → AreOctets octets
    → (xs : List ℕ) × AreOpened padding octets xs × ((ys : List ℕ) → AreOpened padding octets ys → ys ≡ xs)

-- an input has exactly one list of broken strings
abbrev pub InputsHaveOneBrokenList : Type 0
InputsHaveOneBrokenList = (padding : Bool) (octets : List ℕ) → AreOctets octets
    → (xs : List BrokenString) × AreBroken padding octets xs
    × ((ys : List BrokenString) → AreBroken padding octets ys → ys ≡ xs)

-- the framing in which the strings at these offsets are named
abbrev pub opened_framing : Bool → List ℕ → Framing
opened_framing padding offsets = record { inside = offsets; padding = padding }

-- the result of naming the opened strings: `opened` is the reading with them named, `closed` the reading with none
-- named
pub record OpensWell (padding : Bool) (octets offsets : List ℕ) (closed opened : Forest) : Type 0 where
  -- in the reading, each of them holds encodings, and no other string does: none is named without effect
  pub wrappers : wrapper_offsets opened ≡ offsets
  -- both readings spell the same octets
  pub spelled : spelling opened ≡ spelling closed
  -- the ending is the same as with no string named: opening makes no fault and hides none
  pub ending : (e : Ending) → IsEnding (closed_framing padding) octets e
      → IsEnding (opened_framing padding offsets) octets e

-- the opened strings can be named, with the result above
abbrev pub OpeningIsSafe : Type 0
OpeningIsSafe = (padding : Bool) (octets offsets : List ℕ) (closed opened : Forest) → AreOctets octets
    → length octets ≤ input_limit → AreOpened padding octets offsets
    → IsReading (closed_framing padding) octets closed → IsReading (opened_framing padding offsets) octets opened
    → (are_rising 0 offsets ≡ true) × OpensWell padding octets offsets closed opened
