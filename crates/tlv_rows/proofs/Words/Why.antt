-- Words of the rows of sentences: what is said of octets, by a reading of them that computes.
use Rattle.std.proofs.Common.{ℕ, false, ◌&&◌, List, [], ◌∷◌, if◌then◌else◌, length, take}
use Rattle.std.specs.Prelude.{Option, None, Some}
use Rattle.tlv_head.specs.declared.fault.Fault.{Fault}
use Rattle.tlv_head.specs.declared.fault.FaultCode.TheVariants.{Empty, Short}
use Rattle.tlv_head.specs.declared.header.Class.TheVariants.{Universal}
use Rattle.tlv_head.specs.declared.header.Size.{Size}
use Rattle.tlv_walk.specs.declared.framing.Framing.{Framing}
use Rattle.tlv_walk.specs.Ending.{fault_at}
use Rattle.tlv_walk.specs.Forest.{Forest, has_element, is_whole, spelling}
use Rattle.tlv_walk.proofs.GrammarLemmas.Readings.{Going, Halted, PushRun, push_all}
use Rattle.tlv_reasons.specs.declared.element.Element.{Element}
use Rattle.tlv_reasons.specs.declared.facts.Facts.{Facts}
use Rattle.tlv_reasons.specs.Facts.{end_of_reading, last_whole, offsets_before, open_holders, unfinished_in, whole_end}
use Rattle.tlv_reasons.specs.Sentences.{sentences_text}
use Rattle.tlv_reasons.specs.Why.{first_sentence, reasons_of}
use Rattle.tlv_rows.proofs.Words.Octets.{framing_of}

-- what is said of octets that have this fault, by their reading
abbrev pub facts_by : Framing → Option Fault → Forest → Option Element → Facts
facts_by framing fault f found = record {
  fault = fault;
  holders = record { items = open_holders f };
  before = last_whole None f;
  top = whole_end 0 f;
  nearest = record { items = take 25 (offsets_before [] f) };
  next = (end_of_reading framing f).place.offset;
  unfinished = unfinished_in (end_of_reading framing f).forest;
  there = found;
}

-- why octets do not parse, if they do not, after their reading
abbrev pub fault_after : List ℕ → PushRun → Option Fault
fault_after octets (Halted f code) = Some (fault_at code (length (spelling f)))
fault_after octets (Going f) =
    if has_element f && is_whole f then None
    else Some (fault_at (if has_element f then Short else Empty) (length octets))

-- their reading
abbrev pub reading_after : PushRun → Forest
reading_after (Going f) = f
reading_after (Halted f code) = f

-- what is said of them; the last argument is the element whose header is at the open end
abbrev pub facts_after : Framing → List ℕ → Option Element → PushRun → Facts
facts_after framing octets found run = facts_by framing (fault_after octets run) (reading_after run) found

-- what is said of octets of which the strings at these offsets are named
abbrev pub facts_inside : List ℕ → List ℕ → Option Element → Facts
facts_inside inside octets found =
    facts_after (framing_of inside false) octets found (push_all (framing_of inside false) octets)

-- the lines about them
abbrev pub why_inside : List ℕ → List ℕ → Option Element → List ℕ
why_inside inside octets found =
    sentences_text octets (first_sentence octets (facts_inside inside octets found)
    ∷ reasons_of octets (facts_inside inside octets found))

-- the same without the first line
abbrev pub reasons_inside : List ℕ → List ℕ → Option Element → List ℕ
reasons_inside inside octets found = sentences_text octets (reasons_of octets (facts_inside inside octets found))

-- an element of the class universal: its offset, number and size, the offset of its contents, and its end
abbrev pub element : ℕ → ℕ → Size → ℕ → Option ℕ → Element
element offset number size contents end = record {
  offset = offset;
  class = Universal;
  number = number;
  size = size;
  contents = contents;
  end = end;
}
