-- Other lengths in a window of an input that is too long to be searched as a whole: X.690 8.1.3.
use Rattle.std.specs.Prelude.{◌≡◌, ◌&&◌, ℕ, Bool, false, true, if◌then◌else◌, List, [], drop, length, map, nat_le}
use Rattle.std.specs.Prelude.{None, Option, Some, nat_lt, take}
use Rattle.tlv_head.specs.declared.fault.FaultCode.TheVariants.{Short}
use Rattle.tlv_head.specs.declared.header.Size.TheVariants.{Indefinite}
use Rattle.tlv_head.specs.Header.{HeaderValue}
use Rattle.tlv_head.specs.Refusal.{BeginsWith}
use Rattle.tlv_walk.specs.declared.framing.Framing.{Framing}
use Rattle.tlv_walk.specs.Ending.{IsEnding, fault_ending}
use Rattle.tlv_walk.specs.Reading.{IsSoundList}
use Rattle.tlv_open.specs.Opens.{closed_framing}
use Rattle.tlv_reasons.specs.declared.facts.Facts.{Facts}
use Rattle.tlv_reasons.specs.declared.lengths.WrongLength.{WrongLength}
use Rattle.tlv_reasons.specs.declared.bounds.Bounds.{Bounds}
use Rattle.tlv_reasons.specs.Elements.{offset_sum}
use Rattle.tlv_reasons.specs.Facts.{AreFacts, fault_offset}
use Rattle.tlv_reasons.specs.Mended.{wide_limit}
use Rattle.tlv_reasons.specs.Sizes.{says_sizes}
use Rattle.tlv_reasons.specs.Spacing.{EndsAsStated, are_alike}
use Rattle.tlv_reasons.specs.Suspects.{suspect_offsets}
use Rattle.tlv_reasons.specs.WrongLength.{NamesLengths, search_limit}

-- the octets from the top end on, as many as are searched at most
abbrev pub window : List ℕ → ℕ → List ℕ
window octets top = take search_limit (drop top octets)

-- more octets follow the window
abbrev pub is_cut : List ℕ → ℕ → Bool
is_cut octets top = nat_lt search_limit (length (drop top octets))

-- where the window ends, if more octets follow
abbrev pub window_end : List ℕ → ℕ → Option ℕ
window_end octets top = if is_cut octets top then Some (offset_sum top search_limit) else None

-- the bounds of the search of a window with these facts. All lengths are tried if its fault is in so many octets from
-- its start: a limit of our own
abbrev pub window_bounds : Bool → Facts → Bounds
window_bounds cut facts = record { cut = cut; wide = nat_le (fault_offset facts) wide_limit }

-- the same header and lengths, but so many octets stand in front
abbrev pub behind : ℕ → WrongLength → WrongLength
behind front w = record w { offset = offset_sum w.offset front }

-- nothing is wrong with these octets, with which a window ends, but that they are cut off
pub data ParsesOn (framing : Framing) (cut : Bool) (octets : List ℕ) : Type 0 where
  whole_list : IsSoundList framing octets → ParsesOn framing cut octets
  cut_short : (count : ℕ) → cut ≡ true → IsEnding framing octets (fault_ending Short count)
      → ParsesOn framing cut octets

-- the octets begin with an element of indefinite length
pub record BeginsIndefinite (octets : List ℕ) : Type 0 where
  pub header : HeaderValue
  pub begins : BeginsWith octets 0 false header
  pub size_is : header.size ≡ Indefinite

-- what follows the damaged element, with which a window begins, speaks for the length that it states: nothing follows,
-- or a record that begins as it does, and nothing is wrong from there on. Otherwise octets are missing in the damaged
-- element, or too many. An indefinite length states nothing
pub data IsFollowed (framing : Framing) (cut : Bool) (octets : List ℕ) : Type 0 where
  by_nothing : (end : ℕ) → EndsAsStated octets 0 end → end ≡ length octets → IsFollowed framing cut octets
  by_a_record : (end : ℕ) → EndsAsStated octets 0 end → are_alike octets 0 end ≡ true
      → ParsesOn framing cut (drop end octets) → IsFollowed framing cut octets
  without_length : BeginsIndefinite octets → IsFollowed framing cut octets

-- the fault of the input is behind a window with these facts: nothing is wrong in it but that it is cut off
abbrev pub is_fault_behind : Bool → Facts → Bool
is_fault_behind cut facts = cut && says_sizes facts.fault

-- the other lengths that are named in the window, which is searched as an input of its own. None if what follows the
-- damaged element speaks against the length that it states, or if the fault is behind the window
pub data AreLengthsInWindow (padding : Bool) (octets : List ℕ) (top : ℕ) : List WrongLength → Type 0 where
  unfollowed : (IsFollowed (closed_framing padding) (is_cut octets top) (window octets top) → ⊥)
      → AreLengthsInWindow padding octets top []
  fault_behind : {facts : Facts} → AreFacts (closed_framing padding) (window octets top) facts
      → is_fault_behind (is_cut octets top) facts ≡ true → AreLengthsInWindow padding octets top []
  fault_inside : {facts : Facts} {found : List WrongLength}
      → IsFollowed (closed_framing padding) (is_cut octets top) (window octets top)
      → AreFacts (closed_framing padding) (window octets top) facts
      → is_fault_behind (is_cut octets top) facts ≡ false
      → NamesLengths (closed_framing padding) (window_bounds (is_cut octets top) facts) (window octets top)
      facts.holders.items (suspect_offsets facts) found
      → AreLengthsInWindow padding octets top (map (behind top) found)
