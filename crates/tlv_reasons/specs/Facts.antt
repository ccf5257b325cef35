-- What is open where the reading of an input ends, and what comes before that.
use Rattle.std.specs.Prelude.{◌≡◌, ℕ, ◌+◌, false, List, [], ◌∷◌, MatchOption, Option, Some, None, drop, take}
use Rattle.std.specs.Option.{option_map_or}
use Rattle.tlv_head.specs.declared.fault.Fault.{Fault}
use Rattle.tlv_head.specs.Header.{HeaderValue}
use Rattle.tlv_head.specs.Refusal.{BeginsWith, BeginsWithNoHeader}
use Rattle.tlv_walk.specs.declared.ending.Ending.{Ending}
use Rattle.tlv_walk.specs.declared.ending.Ending.TheVariants as endings
use Rattle.tlv_walk.specs.declared.framing.Framing.{Framing}
use Rattle.tlv_walk.specs.Ending.{IsEnding, OpenEnd, open_end}
use Rattle.tlv_walk.specs.Forest.{Forest, Holder, OpenBitString, OpenEndOctets, OpenHeader, OpenHolder}
use Rattle.tlv_walk.specs.Forest.{OpenPrimitive, PaddingOctet, Primitive, holder_extent, primitive_extent}
use Rattle.tlv_walk.specs.Place.{top_place}
use Rattle.tlv_walk.specs.Reading.{IsReading}
use Rattle.tlv_reasons.specs.declared.element.Element.{Element}
use Rattle.tlv_reasons.specs.declared.facts.Facts.{Facts}
use Rattle.tlv_reasons.specs.declared.facts.Unfinished.{Unfinished}
use Rattle.tlv_reasons.specs.declared.facts.Unfinished.TheVariants as unfinished
use Rattle.tlv_reasons.specs.Elements.{element_of}

-- 8.1.4: the holders that have not ended, outermost first: the constructed elements, and the strings that are named and
-- hold encodings. A BIT STRING of these counts once its first contents octet is there
abbrev pub open_holders : Forest → List Element
open_holders (PaddingOctet rest) = open_holders rest
open_holders (Primitive h contents rest) = open_holders rest
open_holders (Holder h children rest) = open_holders rest
open_holders (OpenHolder h children) = element_of h ∷ open_holders children
open_holders end = []

-- the last whole element before the open end, directly inside the innermost element there, if any; the first argument
-- is the whole element before the forest
abbrev pub last_whole : Option Element → Forest → Option Element
last_whole before (PaddingOctet rest) = last_whole before rest
last_whole before (Primitive h contents rest) = last_whole (Some (element_of h)) rest
last_whole before (Holder h children rest) = last_whole (Some (element_of h)) rest
last_whole before (OpenHolder h children) = last_whole None children
last_whole before end = before

-- the offset after the last whole outermost element; the first argument is this offset before the forest
abbrev pub whole_end : ℕ → Forest → ℕ
whole_end before (PaddingOctet rest) = whole_end before rest
whole_end before (Primitive h contents rest) = whole_end (h.offset + primitive_extent h contents) rest
whole_end before (Holder h children rest) = whole_end (h.offset + holder_extent h children) rest
whole_end before end = before

-- the offsets of the elements before the open end, the nearest first; the first argument holds those before the forest
abbrev pub offsets_before : List ℕ → Forest → List ℕ
offsets_before before (PaddingOctet rest) = offsets_before before rest
offsets_before before (Primitive h contents rest) = offsets_before (h.offset ∷ before) rest
offsets_before before (Holder h children rest) = offsets_before (offsets_before (h.offset ∷ before) children) rest
offsets_before before (OpenHolder h children) = offsets_before (h.offset ∷ before) children
offsets_before before end = before

-- what is unfinished at an open end
abbrev pub unfinished_in : Forest → Unfinished
unfinished_in (OpenPrimitive h contents) = unfinished.Primitive (element_of h)
unfinished_in (OpenHeader octets) = unfinished.Header
-- 8.6.2.2: only the header of a BIT STRING that is named and holds encodings is there
unfinished_in (OpenBitString h) = unfinished.Header
unfinished_in OpenEndOctets = unfinished.EndOctets
unfinished_in end = unfinished.Nothing

-- the element whose whole header is in the input at this offset, if any
abbrev pub IsElementThere : List ℕ → ℕ → Option Element → Type 0
IsElementThere octets offset found = MatchOption found (BeginsWithNoHeader (drop offset octets))
    (λ e. (h : HeaderValue) × BeginsWith (drop offset octets) offset false h × (e ≡ element_of h))

-- where the fault is
abbrev pub fault_offset : Facts → ℕ
fault_offset facts = option_map_or (λ fault. fault.offset) facts.fault 0

-- the open end of a reading
abbrev pub end_of_reading : Framing → Forest → OpenEnd
end_of_reading framing reading = open_end (top_place framing) reading

-- the ending with this fault, or the ending without a fault
abbrev pub ending_by : Option Fault → Ending
ending_by None = endings.Done
ending_by (Some fault) = endings.Fault fault

-- the facts about the open end of this reading, and about what comes before it
pub record AreFactsOf (framing : Framing) (octets : List ℕ) (reading : Forest) (facts : Facts) : Type 0 where
  pub holders : facts.holders.items ≡ open_holders reading
  pub before : facts.before ≡ last_whole None reading
  pub top : facts.top ≡ whole_end 0 reading
  pub nearest : facts.nearest.items ≡ take 25 (offsets_before [] reading)
  pub next : facts.next ≡ (end_of_reading framing reading).place.offset
  pub unfinished : facts.unfinished ≡ unfinished_in (end_of_reading framing reading).forest
  pub there : IsElementThere octets facts.next facts.there

-- the facts about these octets: whether they parse, and the result of reading them
pub record AreFacts (framing : Framing) (octets : List ℕ) (facts : Facts) : Type 0 where
  pub ending : IsEnding framing octets (ending_by facts.fault)
  pub reading : Forest
  pub is_reading : IsReading framing octets reading
  pub are_facts : AreFactsOf framing octets reading facts
