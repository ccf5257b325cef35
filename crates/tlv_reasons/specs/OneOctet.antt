-- Which single octet, missing from the contents of an element or put into them, would make an input sound: X.690 8.1.4.
use Rattle.std.specs.Prelude.{ℕ, ◌+◌, ◌-◌, ◌<◌, ◌≤◌, false, List, [], ◌∷◌, ◌++◌, length, take, drop, Option, Some, None}
use Rattle.tlv_head.specs.Header.{HeaderValue, announced_length}
use Rattle.tlv_head.specs.Refusal.{BeginsWith}
use Rattle.tlv_walk.specs.declared.framing.Framing.{Framing}
use Rattle.tlv_walk.specs.Reading.{IsSoundList}
use Rattle.tlv_reasons.specs.declared.lengths.WrongLength.{WrongLength}
use Rattle.tlv_reasons.specs.declared.octet_changes.OctetChange.{OctetChange}
use Rattle.tlv_reasons.specs.declared.octet_changes.OctetChange.TheVariants.{Missing, PutIn}
use Rattle.tlv_reasons.specs.WrongLength.{contents_start, search_limit}

-- the input with an octet more, after so many octets. It is 00, since contents may have any octet
abbrev pub with_octet_at : ℕ → List ℕ → List ℕ
with_octet_at place octets = take place octets ++ 0 ∷ drop place octets

-- the input without the octet that comes after so many octets
abbrev pub without_octet_at : ℕ → List ℕ → List ℕ
without_octet_at place octets = take place octets ++ drop (place + 1) octets

-- the header announces contents, and with an octet more at their start the input would be sound
abbrev pub WouldBeSoundWithOctet : Framing → List ℕ → HeaderValue → Type 0
WouldBeSoundWithOctet framing octets h =
    (0 < announced_length h.size) × IsSoundList framing (with_octet_at (contents_start h) octets)

-- without the first octet after this header the input would be sound
abbrev pub WouldBeSoundWithoutOctet : Framing → List ℕ → HeaderValue → Type 0
WouldBeSoundWithoutOctet framing octets h = IsSoundList framing (without_octet_at (contents_start h) octets)

-- which of the two would make the input sound, at the header with this offset: a missing octet is looked for first
pub data IsChangeAt (framing : Framing) (octets : List ℕ) (offset : ℕ) : Option OctetChange → Type 0 where
  missing : (h : HeaderValue) → BeginsWith (drop offset octets) offset false h
      → WouldBeSoundWithOctet framing octets h → IsChangeAt framing octets offset (Some (Missing offset))
  put_in : (h : HeaderValue) → BeginsWith (drop offset octets) offset false h
      → (WouldBeSoundWithOctet framing octets h → ⊥) → WouldBeSoundWithoutOctet framing octets h
      → IsChangeAt framing octets offset (Some (PutIn offset))
  -- there is no header, or neither would
  neither : ((h : HeaderValue) → BeginsWith (drop offset octets) offset false h
      → (WouldBeSoundWithOctet framing octets h → ⊥) × (WouldBeSoundWithoutOctet framing octets h → ⊥))
      → IsChangeAt framing octets offset None

-- the first of these offsets with a header where one of the two would make the input sound
pub data IsFirstChange (framing : Framing) (octets : List ℕ) : List ℕ → Option OctetChange → Type 0 where
  no_more : IsFirstChange framing octets [] None
  here : {offset : ℕ} {more : List ℕ} {change : OctetChange} → IsChangeAt framing octets offset (Some change)
      → IsFirstChange framing octets (offset ∷ more) (Some change)
  later : {offset : ℕ} {more : List ℕ} {found : Option OctetChange} → IsChangeAt framing octets offset None
      → IsFirstChange framing octets more found → IsFirstChange framing octets (offset ∷ more) found

-- without its last octet the input is sound, so this octet is left over
abbrev pub IsSoundWithoutLast : Framing → List ℕ → Type 0
IsSoundWithoutLast framing octets = IsSoundList framing (take (length octets - 1) octets)

-- which single octet is missing or was put in, after one of the headers at these offsets. None is looked for if another
-- length was found, if the input has too many octets, or if only its last octet is left over
pub data IsOctetChange (framing : Framing) (octets candidates : List ℕ)
    : Option WrongLength → Option OctetChange → Type 0 where
  another_length : (w : WrongLength) → IsOctetChange framing octets candidates (Some w) None
  not_searched : search_limit < length octets → IsOctetChange framing octets candidates None None
  left_over : length octets ≤ search_limit → IsSoundWithoutLast framing octets
      → IsOctetChange framing octets candidates None None
  searched : {found : Option OctetChange} → length octets ≤ search_limit
      → (IsSoundWithoutLast framing octets → ⊥) → IsFirstChange framing octets candidates found
      → IsOctetChange framing octets candidates None found
