-- The sentences about each fault, and when they come: X.690 8.1.2, 8.1.3 and 8.1.5.
use Rattle.std.specs.Prelude.{ℕ, ◌+◌, ◌-◌, Bool, false, eqb, nat_le, if◌then◌else◌, List, [], ◌∷◌, ◌++◌, Option, Some}
use Rattle.std.specs.Prelude.{None}
use Rattle.std.specs.Prelude.{drop, length}
use Rattle.std.specs.List.{filter_map}
use Rattle.std.specs.Option.{option_map, option_map_or}
use Rattle.tlv_head.specs.declared.fault.FaultCode.{FaultCode}
use Rattle.tlv_head.specs.declared.fault.FaultCode.TheVariants as fault
use Rattle.tlv_reasons.specs.declared.element.Element.{Element}
use Rattle.tlv_reasons.specs.declared.facts.Facts.{Facts}
use Rattle.tlv_reasons.specs.declared.facts.Unfinished.{Unfinished}
use Rattle.tlv_reasons.specs.declared.facts.Unfinished.TheVariants as at
use Rattle.tlv_reasons.specs.declared.sentence.Sentence.{Sentence}
use Rattle.tlv_reasons.specs.declared.sentence.Sentence.TheVariants as say
use Rattle.tlv_reasons.specs.OpenHolders.{element_end, has_end, indefinite_count, innermost_definite, innermost_holder}
use Rattle.tlv_reasons.specs.OpenHolders.{outermost_definite}

-- those of these sentences that are said
abbrev pub said : List (Option Sentence) → List Sentence
said sentences = filter_map (λ s. s) sentences

-- the length of this element may be wrong, if there is one and its length is definite
abbrev pub suspect : Option Element → Option Sentence
suspect None = None
suspect (Some e) = if has_end e then Some (say.LengthInFront e) else None

-- F01: there is no element in `size` octets
abbrev pub empty_reasons : ℕ → List Sentence
empty_reasons size = (if eqb size 0 then say.NoOctets else say.ZerosAlone size) ∷ say.TryWriter ∷ []

-- ---- F02

-- what lacks octets, in an input that ends at this offset
abbrev pub cut_place : ℕ → ℕ → Option Element → Unfinished → Option Sentence
cut_place next end inner at.Header = Some (say.EndsInHeader next end)
cut_place next end inner (at.Primitive e) = Some (say.EndsInPrimitive e)
cut_place next end inner at.EndOctets = option_map (λ e. say.EndsBetweenZeros e) inner
cut_place next end inner at.Nothing = option_map (λ e. say.EndsInHolder e) inner

-- how many octets a primitive lacks
abbrev pub lacking : ℕ → Unfinished → Option Sentence
lacking end (at.Primitive e) = Some (say.MissingThere (element_end e - end))
lacking end unfinished = None

-- an element ends with an input of `size` octets
abbrev pub ends_with_input : ℕ → Option Element → Bool
ends_with_input size outer = option_map_or (λ e. eqb (element_end e) size) outer false

-- where the outermost element of definite length ends, if there is one
abbrev pub outer_end : ℕ → Option Element → Option Sentence
outer_end size outer =
    option_map (λ e. if eqb (element_end e) size then say.EndsWithInput e else say.EndsBehindInput e size) outer

-- 8.1.5: so many elements lack their end-of-contents octets
abbrev pub not_ended : ℕ → Option Sentence
not_ended count = if eqb count 0 then None else Some (say.NotEnded count)

abbrev pub cut_try : ℕ → Option Element → Sentence
cut_try size outer = if ends_with_input size outer then say.TryGreater else say.TryWholeCopy

abbrev pub cut_reasons : ℕ → Facts → List Sentence
cut_reasons size facts =
    said (cut_place facts.next size (innermost_holder facts) facts.unfinished ∷ lacking size facts.unfinished
    ∷ outer_end size (outermost_definite facts.holders.items) ∷ not_ended (indefinite_count facts.holders.items)
    ∷ Some (cut_try size (outermost_definite facts.holders.items)) ∷ suspect facts.before ∷ [])

-- ---- F03 to F05

-- the number of octets 00 with which these octets begin
abbrev pub zero_count : List ℕ → ℕ
zero_count [] = 0
zero_count (x ∷ xs) = if eqb x 0 then zero_count xs + 1 else 0

-- F03 outside of all elements: octets 00, at the start, or where whole encodings end
abbrev pub zeros_reasons : List ℕ → ℕ → List Sentence
zeros_reasons octets offset =
    if eqb offset 0 then say.BeginsWithZeros (zero_count (drop offset octets)) ∷ say.TryPadding ∷ []
    else
    say.ZerosFollow offset (zero_count (drop offset octets)) (length octets - offset) ∷ say.TryPadding
    ∷ say.TryFront offset ∷ []

-- a fault that a length causes; the last argument is the element before
abbrev pub length_reasons : Sentence → Option Element → List Sentence
length_reasons s before = said (Some s ∷ Some say.TryAnew ∷ suspect before ∷ [])

-- F03, in an element or outside of all
abbrev pub stray_reasons : List ℕ → ℕ → Option Element → Option Element → List Sentence
stray_reasons octets offset None before = zeros_reasons octets offset
stray_reasons octets offset (Some e) before =
    say.ZeroInside e offset ∷ length_reasons (say.LeftInside (element_end e - offset)) before

-- F04
abbrev pub bad_end_reasons : ℕ → Option Element → Option Element → List Sentence
bad_end_reasons offset None before = []
bad_end_reasons offset (Some e) before = length_reasons (say.NoSecondZero e offset) before

-- F05, in the innermost element, which is not ended where the other ends
abbrev pub missing_end_reasons : Unfinished → Option Element → Option Element → Option Element → List Sentence
missing_end_reasons u (Some e) (Some holder) before = length_reasons (say.EndMissing e holder u) before
missing_end_reasons u inner holder before = []

-- ---- F06 to F11

-- what to try if there is no header at this offset
abbrev pub look_try : ℕ → Sentence
look_try next = if eqb next 0 then say.NoEncoding else say.TryLook next

-- F06 to F09: the octet at the offset `offset` is refused
abbrev pub header_reasons : FaultCode → ℕ → Facts → List Sentence
header_reasons code offset facts =
    said (Some (say.RefusedHeader code facts.next offset) ∷ Some (look_try facts.next)
    ∷ suspect (innermost_holder facts) ∷ suspect facts.before ∷ [])

-- F10
abbrev pub deep_reasons : ℕ → List Sentence
deep_reasons next = say.TooDeep next ∷ say.TryDeeper ∷ []

-- F11: about the element, if its whole header is there and ends in the holder; else about the header
abbrev pub past_places : ℕ → ℕ → Element → Option Element → List Sentence
past_places offset next holder None = say.HeaderPast next holder ∷ say.LeftInHolder next holder ∷ []
past_places offset next holder (Some e) =
    if nat_le e.contents (element_end holder) then say.CompletesHeader offset e ∷ say.ElementPast e holder ∷ []
    else say.HeaderPast next holder ∷ say.LeftInHolder next holder ∷ []

abbrev pub past_reasons : ℕ → Facts → Option Element → List Sentence
past_reasons offset facts None = []
past_reasons offset facts (Some holder) =
    past_places offset facts.next holder facts.there ++ length_reasons say.OneOfTwo facts.before

-- ---- all

-- the sentences about a fault with this code, at this offset; for F12 (a string that is named and holds no encodings)
-- the message says all
abbrev pub code_reasons : FaultCode → ℕ → List ℕ → Facts → List Sentence
code_reasons fault.Empty offset octets facts = empty_reasons (length octets)
code_reasons fault.Short offset octets facts = cut_reasons (length octets) facts
code_reasons fault.StrayEnd offset octets facts = stray_reasons octets offset (innermost_holder facts) facts.before
code_reasons fault.BadEnd offset octets facts = bad_end_reasons offset (innermost_holder facts) facts.before
code_reasons fault.MissingEnd offset octets facts =
    missing_end_reasons facts.unfinished (innermost_holder facts) (innermost_definite None facts.holders.items)
    facts.before
code_reasons fault.TooDeep offset octets facts = deep_reasons facts.next
code_reasons fault.Overrun offset octets facts =
    past_reasons offset facts (innermost_definite None facts.holders.items)
code_reasons fault.BadInside offset octets facts = []
code_reasons code offset octets facts = header_reasons code offset facts
