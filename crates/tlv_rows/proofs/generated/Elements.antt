-- What `extract` and `indef` write of short inputs, by their definitions.
-- `tests/make-rows` writes this file from tests/rows_of_definitions/elements.rows.
use Rattle.std.proofs.Common.{◌≡◌, false, true, [], ◌∷◌, None, Some, refl}
use Rattle.tlv_head.specs.declared.fault.FaultCode.TheVariants.{Empty, Short}
use Rattle.tlv_head.specs.declared.header.Class.TheVariants.{Universal}
use Rattle.tlv_head.specs.declared.header.Size.TheVariants.{Definite}
use Rattle.tlv_walk.specs.Ending.{fault_ending}
use Rattle.tlv_walk.specs.Framing.{plain_framing}
use Rattle.tlv_walk.proofs.GrammarLemmas.Readings.{padding_framing, reading}
use Rattle.tlv_rows.proofs.Words.Octets.{framing_of, octets}
use Rattle.tlv_rows.proofs.Words.Extracted.{contents, element, no_element, open_element, whole_element}
use Rattle.tlv_run.specs.Indef.{indef_text, with_indefinite_lengths, indef_framing, with_offsets_from}
use Rattle.tlv_run.specs.IndefStep.{indef_event_text}
use Rattle.tlv_walk.specs.Events.{Open, Close, Enter, Unused, Leave}
use Rattle.tlv_walk.proofs.GrammarLemmas.Endings.{ending}
use Rattle.tlv_rows.proofs.Words.Headers.{header, named}

-- What `extract` writes of short inputs, by its definition: the element at an offset, or its contents alone; and whether
-- the element is there and whole.
-- an integer
row-1 : element plain_framing 2 (octets "30 03 02 01 05") ≡ whole_element (octets "02 01 05")
row-1 = refl

-- a sequence
row-2 : element plain_framing 0 (octets "30 03 02 01 05") ≡ whole_element (octets "30 03 02 01 05")
row-2 = refl

-- what follows the element does not count
row-3 : element plain_framing 2 (octets "30 80 02 01 05 02") ≡ whole_element (octets "02 01 05")
row-3 = refl

-- a segment of an indefinite string
row-4 : element plain_framing 2 (octets "3a 80 04 03 4a 6f 6e 04 02 65 73 00 00")
    ≡ whole_element (octets "04 03 4a 6f 6e")
row-4 = refl

-- indefinite element
row-5 : element plain_framing 2 (octets "30 80 30 80 05 00 00 00 00 00") ≡ whole_element (octets "30 80 05 00 00 00")
row-5 = refl

-- an integers contents
row-6 : contents plain_framing 2 (octets "30 03 02 01 05") ≡ whole_element (octets "05")
row-6 = refl

-- the element's own end-of-contents octets are no contents octets
row-7 : contents plain_framing 0 (octets "30 80 30 80 05 00 00 00 00 00") ≡ whole_element (octets "30 80 05 00 00 00")
row-7 = refl

-- the element has not ended
-- an unfinished header is not written
row-8 : element plain_framing 0 (octets "30 80 02") ≡ open_element (octets "30 80")
row-8 = refl

-- nor is the first of the end-of-contents octets without the second
row-9 : element plain_framing 0 (octets "30 80 00") ≡ open_element (octets "30 80")
row-9 = refl

-- at no depth
row-10 : element plain_framing 0 (octets "30 80 30 80 00") ≡ open_element (octets "30 80 30 80")
row-10 = refl

-- a primitive that lacks an octet
row-11 : element plain_framing 0 (octets "04 03 aa bb") ≡ open_element (octets "04 03 aa bb")
row-11 = refl

-- the string itself
row-12 : element plain_framing 0 (octets "04 05 30") ≡ open_element (octets "04 05 30")
row-12 = refl

-- open contents
row-13 : contents plain_framing 0 (octets "04 03 aa bb") ≡ open_element (octets "aa bb")
row-13 = refl

-- there is no element
-- within a header
row-14 : element plain_framing 3 (octets "30 03 02 01 05") ≡ no_element
row-14 = refl

-- header not whole
row-15 : element plain_framing 2 (octets "30 80 02") ≡ no_element
row-15 = refl

-- inside no wrapper
row-16 : element plain_framing 4 (octets "04 05 30 03 02 01 07") ≡ no_element
row-16 = refl

-- the string at the offset 0 is read as encodings
-- inside a wrapper
row-17 : element (framing_of (0 ∷ []) false) 4 (octets "04 05 30 03 02 01 07") ≡ whole_element (octets "02 01 07")
row-17 = refl

-- the first contents octet is written
row-18 : contents (framing_of (0 ∷ []) false) 0 (octets "03 04 00 02 01 05") ≡ whole_element (octets "00 02 01 05")
row-18 = refl

-- the first contents octet is to come, and it says that bits are unused
row-19 : element (framing_of (0 ∷ []) false) 0 (octets "03 04") ≡ open_element (octets "03 04")
row-19 = refl

-- bits with unused bits
row-20 : element (framing_of (0 ∷ []) false) 0 (octets "03 04 01 02 01 05") ≡ open_element (octets "03 04")
row-20 = refl

-- what the string holds are elements, and the header of the last is unfinished
row-21 : element (framing_of (0 ∷ []) false) 0 (octets "04 05 30") ≡ open_element (octets "04 05")
row-21 = refl

-- with padding
-- after padding
row-22 : element padding_framing 1 (octets "00 05 00 00") ≡ whole_element (octets "05 00")
row-22 = refl

-- padding is none
row-23 : element padding_framing 0 (octets "00 05 00 00") ≡ no_element
row-23 = refl

-- What `indef` writes for short inputs, and what an `Indef` puts for events.
-- nothing
row-24 : indef_text (reading (indef_framing false) []) ≡ []
row-24 = refl

-- a sequence
row-25 : indef_text (reading (indef_framing false) (octets "30 03 02 01 05")) ≡ (octets "30 80 02 01 05 00 00")
row-25 = refl

-- written again
row-26 : indef_text (reading (indef_framing false) (octets "30 80 02 01 05 00 00")) ≡ (octets "30 80 02 01 05 00 00")
row-26 = refl

-- no end-of-contents octets for an element that is open
row-27 : indef_text (reading (indef_framing false) (octets "30 03 02 01")) ≡ (octets "30 80 02 01")
row-27 = refl

-- the header that is refused is not written
row-28 : indef_text (reading (indef_framing false) (octets "30 03 02 02 01")) ≡ (octets "30 80")
row-28 = refl

-- nor is the first of the end-of-contents octets without the second
row-29 : indef_text (reading (indef_framing false) (octets "30 80 00 01")) ≡ (octets "30 80")
row-29 = refl

-- two segments
row-30 : indef_text (reading (indef_framing false) (octets "3a 09 04 03 4a 6f 6e 04 02 65 73"))
    ≡ (octets "3a 80 04 03 4a 6f 6e 04 02 65 73 00 00")
row-30 = refl

-- no segment
row-31 : indef_text (reading (indef_framing false) (octets "20 00")) ≡ (octets "20 80 00 00")
row-31 = refl

-- with padding
-- padding alone
row-32 : indef_text (reading (indef_framing true) (octets "00 00 00")) ≡ (octets "00 00 00")
row-32 = refl

-- padding between
row-33 : indef_text (reading (indef_framing true) (octets "30 80 00 00 00 30 02 05 00"))
    ≡ (octets "30 80 00 00 00 30 80 05 00 00 00")
row-33 = refl

-- padding again
row-34 : indef_text (reading (indef_framing true) (octets "30 80 00 00 00 30 80 05 00 00 00"))
    ≡ (octets "30 80 00 00 00 30 80 05 00 00 00")
row-34 = refl

-- its ending
row-35 : ending (indef_framing false) (octets "30 03 02 01") ≡ (fault_ending Short 4)
row-35 = refl

-- its fault
row-36 : ending (indef_framing true) (octets "00 00 00") ≡ (fault_ending Empty 3)
row-36 = refl

-- what is written is read as the same elements, with indefinite lengths
-- its second reading
row-37 : with_offsets_from 0 (with_indefinite_lengths (reading (indef_framing false) (octets "30 03 02 01 05")))
    ≡ reading (indef_framing false) (octets "30 80 02 01 05 00 00")
row-37 = refl

-- events
-- the header of a primitive stays, whichever event comes with it
row-38 : indef_event_text (Open (named (header 0 Universal false 4 (Definite 2) "04" "02"))) ≡ (octets "04 02")
row-38 = refl

-- a string entered
row-39 : indef_event_text (Enter (named (header 0 Universal false 4 (Definite 2) "04" "02"))) ≡ (octets "04 02")
row-39 = refl

-- a string left
row-40 : indef_event_text Leave ≡ []
row-40 = refl

-- an unused octet
row-41 : indef_event_text Unused ≡ (octets "00")
row-41 = refl

-- an end
row-42 : indef_event_text (Close None) ≡ (octets "00 00")
row-42 = refl

-- an end with its offset
row-43 : indef_event_text (Close (Some 7)) ≡ (octets "00 00")
row-43 = refl
