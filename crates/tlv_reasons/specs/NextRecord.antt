-- Where the next record begins in a file of records, one of which is damaged: X.690 8.1.1.
use Rattle.std.specs.Prelude.{◌≡◌, ◌==◌, ℕ, ◌+◌, ◌-◌, ◌<◌, ◌≤◌, Bool, true, false, ◌||◌, ◌&&◌, not, nat_le, if◌then◌else◌}
use Rattle.std.specs.Prelude.{List, [], ◌∷◌, ◌++◌, length, take, drop, Option, None, Some, IfSome, slice_index}
use Rattle.std.specs.List.{filter, list_any}
use Rattle.std.specs.Option.{option_map}
use Rattle.tlv_head.specs.declared.fault.FaultCode.{FaultCode}
use Rattle.tlv_head.specs.Header.{HeaderValue, definite_length}
use Rattle.tlv_head.specs.Refusal.{BeginsWith}
use Rattle.tlv_reasons.specs.declared.lengths.WrongLength.{WrongLength}
use Rattle.tlv_reasons.specs.declared.records.NextRecord.{NextRecord}
use Rattle.tlv_reasons.specs.Elements.{offset_sum}
use Rattle.tlv_reasons.specs.FirstOf.{IsFirstWithin}
use Rattle.tlv_reasons.specs.NextStart.{IsStart}
use Rattle.tlv_reasons.specs.Sizes.{is_short}
use Rattle.tlv_reasons.specs.WrongLength.{contents_start}
use Rattle.tlv_open.specs.Opens.{closed_framing}
use Rattle.tlv_walk.specs.Ending.{IsEnding, fault_ending}

-- ---- the damaged element

-- 8.1.3.3: the end of the element at this offset, if its length is definite, and the end is in the input, at its end,
-- or one octet after it
pub data EndsNear (octets : List ℕ) (offset : ℕ) : Option ℕ → Type 0 where
  at : (h : HeaderValue) (n : ℕ) → BeginsWith (drop offset octets) offset false h → definite_length h.size ≡ Some n
      → contents_start h + n ≤ length octets + 1 → EndsNear octets offset (Some (contents_start h + n))
  nowhere : ((h : HeaderValue) (n : ℕ) → BeginsWith (drop offset octets) offset false h
      → definite_length h.size ≡ Some n → length octets + 1 < contents_start h + n)
      → EndsNear octets offset None

-- ---- the offsets that are tried

-- records mostly begin with the same octet: with the octet at this offset, or with the first one of the input
abbrev pub is_alike : List ℕ → ℕ → ℕ → Bool
is_alike octets offset x = (x == slice_index octets offset) || (x == slice_index octets 0)

-- the offsets of the octets for which p holds, among octets the first of which has the given offset
abbrev pub offsets_where : (ℕ → Bool) → ℕ → List ℕ → List ℕ
offsets_where p offset [] = []
offsets_where p offset (x ∷ more) =
    if p x then offset ∷ offsets_where p (offset + 1) more else offsets_where p (offset + 1) more

-- no more offsets are tried: a limit of our own
abbrev pub record_tries : ℕ
record_tries = 1024

-- the offsets after this one at which such an octet stands
abbrev pub alike_offsets : List ℕ → ℕ → List ℕ
alike_offsets octets offset =
    take record_tries (offsets_where (is_alike octets offset) (offset + 1) (drop (offset + 1) octets))

-- the end of the damaged element, or one octet before or after it, since an octet may be missing or have been put in
abbrev pub near_end : ℕ → List ℕ
near_end end = end ∷ (end - 1) ∷ (end + 1) ∷ []

-- the input ends near the end of the damaged element: that is the last record
abbrev pub ends_near_input : List ℕ → ℕ → Bool
ends_near_input octets end = list_any (λ n. n == length octets) (near_end end)

-- the offsets near the end at which such an octet stands
abbrev pub alike_near : List ℕ → ℕ → ℕ → List ℕ
alike_near octets offset end = filter (λ n. is_alike octets offset (slice_index octets n)) (near_end end)

-- the offsets that are tried, given the end of the damaged element: those near the end, and then those after its start.
-- None is tried if it is the last record
abbrev pub tried_offsets : List ℕ → ℕ → Option ℕ → List ℕ
tried_offsets octets offset None = alike_offsets octets offset
tried_offsets octets offset (Some end) =
    if ends_near_input octets end then [] else alike_near octets offset end ++ alike_offsets octets offset

-- ---- how far it parses from an offset on

-- from one record on it parses far if the next fault is so many octets behind it, and behind the fault of the input, or
-- more: a limit of our own
abbrev pub far : ℕ
far = 4096

-- the fault `count` octets after this offset is far behind both, and octets are refused there: that the input ends
-- inside an encoding shows nothing
abbrev pub is_far : ℕ → ℕ → FaultCode → ℕ → Bool
is_far fault offset code count =
    not (is_short code) && (nat_le far count && nat_le far (offset_sum offset count - fault))

-- a constructed element begins at this offset, and from there on the input, which has a fault at `fault`, is sound, or
-- parses far up to another fault
pub data IsRecordAt (padding : Bool) (octets : List ℕ) (fault offset : ℕ) : Option ℕ → Type 0 where
  to_the_end : IsStart padding octets offset → IsRecordAt padding octets fault offset None
  to_a_fault : (h : HeaderValue) → BeginsWith (drop offset octets) offset false h → h.constructed ≡ true
      → (code : FaultCode) (count : ℕ) → IsEnding (closed_framing padding) (drop offset octets) (fault_ending code count)
      → is_far fault offset code count ≡ true
      → IsRecordAt padding octets fault offset (Some (offset_sum offset count))

abbrev pub IsSomeRecord : Bool → List ℕ → ℕ → ℕ → Type 0
IsSomeRecord padding octets fault offset = (next : Option ℕ) × IsRecordAt padding octets fault offset next

-- ---- how much is read for that

-- the number of octets that a try at this offset reads in vain: those up to the fault of what stands there, if a
-- constructed element begins there; else none
pub data ReadsInVain (padding : Bool) (octets : List ℕ) (fault offset : ℕ) : ℕ → Type 0 where
  up_to_fault : {count : ℕ} → (h : HeaderValue) → BeginsWith (drop offset octets) offset false h → h.constructed ≡ true
      → (code : FaultCode) → IsEnding (closed_framing padding) (drop offset octets) (fault_ending code count)
      → is_far fault offset code count ≡ false → ReadsInVain padding octets fault offset count
  nothing : ((h : HeaderValue) → BeginsWith (drop offset octets) offset false h → h.constructed ≡ false)
      → ReadsInVain padding octets fault offset 0

-- ---- the next record

-- where the record after the damaged element begins, which is at this offset: at the first of the tried offsets at
-- which a constructed element begins, and from which on the input is sound, or parses far. Once the tries have read
-- `reads` octets in vain, no other is made
pub record IsRecordAfter (reads : ℕ) (padding : Bool) (octets : List ℕ) (fault offset : ℕ) (found : Option NextRecord)
    : Type 0 where
  pub end : Option ℕ
  pub ends : EndsNear octets offset end
  pub first : IsFirstWithin (IsSomeRecord padding octets fault) (ReadsInVain padding octets fault) reads
      (tried_offsets octets offset end) (option_map (λ r. r.offset) found)
  pub parses : IfSome found (λ r. IsRecordAt padding octets fault r.offset r.fault)

-- another length is named for the element at this offset
abbrev pub is_length_of : ℕ → Option WrongLength → Bool
is_length_of offset None = false
is_length_of offset (Some w) = w.offset == offset

-- where the next record begins, after a damaged element at the offset `top`, in an input with a fault at `fault`. None
-- is looked for if another start was found, if no whole element stands in front, and if another length is named for the
-- damaged element
pub data IsNextRecord (reads : ℕ) (padding : Bool) (octets : List ℕ) (fault top : ℕ) (wrong : Option WrongLength)
    : Option ℕ → Option NextRecord → Type 0 where
  another_start : (start : ℕ) → IsNextRecord reads padding octets fault top wrong (Some start) None
  none_in_front : top ≡ 0 → IsNextRecord reads padding octets fault top wrong None None
  another_length : is_length_of top wrong ≡ true → IsNextRecord reads padding octets fault top wrong None None
  searched : {found : Option NextRecord} → 0 < top → is_length_of top wrong ≡ false
      → IsRecordAfter reads padding octets fault top found
      → IsNextRecord reads padding octets fault top wrong None found
