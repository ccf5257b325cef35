-- The texts of the values in sentences: numbers, octets, elements.
use Rattle.std.specs.Prelude.{ℕ, ◌-◌, Bool, eqb, nat_lt, if◌then◌else◌, List, [], ◌∷◌, ◌++◌, codes, decimal, drop}
use Rattle.std.specs.Prelude.{length, take, Option, Some, None}
use Rattle.tlv_head.specs.declared.header.Size.{Size}
use Rattle.tlv_head.specs.declared.header.Size.TheVariants.{Definite, Indefinite}
use Rattle.tlv_head.specs.Fault.{fault_code, fault_text}
use Rattle.tlv_head.specs.Tag.{tag_text}
use Rattle.tlv_io.specs.LineTexts.{spaced_pairs}
use Rattle.tlv_open.specs.BrokenLine.{broken_line}
use Rattle.tlv_reasons.specs.declared.chains.Chain.{Chain}
use Rattle.tlv_reasons.specs.declared.element.Element.{Element}
use Rattle.tlv_reasons.specs.declared.facts.Unfinished.{Unfinished}
use Rattle.tlv_reasons.specs.declared.facts.Unfinished.TheVariants.{EndOctets}
use Rattle.tlv_reasons.specs.declared.value.Value.{Value}
use Rattle.tlv_reasons.specs.declared.value.Value.TheVariants as value

-- a number of octets, in words
unfoldable pub octets_in_words : ℕ → List ℕ
octets_in_words n = decimal n ++ (if eqb n 1 then codes " octet" else codes " octets")

-- the octets from the offset `start` on, up to the offset `end`
unfoldable pub octets_between : List ℕ → ℕ → ℕ → List ℕ
octets_between octets start end = take (end - start) (drop start octets)

-- dots if there is more
abbrev pub dots_if : Bool → List ℕ
dots_if is_more = if is_more then codes " ..." else []

-- octets in hexadecimal, each after a space: at most 16, and then dots if there are more
unfoldable pub first_pairs : List ℕ → List ℕ
first_pairs octets = spaced_pairs (take 16 octets) ++ dots_if (nat_lt 16 (length octets))

-- the name of an element, and where it is
unfoldable pub named_element : Element → List ℕ
named_element e = tag_text e.class e.number ++ codes " at offset " ++ decimal e.offset

-- 8.1.3: the number of contents octets that a header announces, in words
unfoldable pub size_in_words : Size → List ℕ
size_in_words (Definite n) = octets_in_words n
size_in_words Indefinite = codes "an indefinite number of octets"

-- the beginning of a sentence about a header
unfoldable pub header_opening : ℕ → List ℕ
header_opening offset = codes "The header at offset " ++ decimal offset ++ codes ","

-- the end of a sentence about a header
unfoldable pub header_closing : Size → List ℕ
header_closing size = codes ", says that its contents are " ++ size_in_words size ++ codes "."

-- where a header is, and its octets
unfoldable pub header_octets : List ℕ → Element → List ℕ
header_octets octets e = header_opening e.offset ++ first_pairs (octets_between octets e.offset e.contents)

-- a sentence about a header
unfoldable pub header_sentence : List ℕ → Element → List ℕ
header_sentence octets e = header_octets octets e ++ header_closing e.size

-- 8.1.5: what is missing of the end-of-contents octets
abbrev pub lacking_zeros : Unfinished → List ℕ
lacking_zeros EndOctets = codes "1 octet, 00"
lacking_zeros u = codes "2 octets, 00 00"

-- what stands between an offset and these others
abbrev pub mark_before : List ℕ → List ℕ
mark_before [] = []
mark_before (offset ∷ []) = codes " and "
mark_before offsets = codes ", "

-- offsets, one after another, with "and" before the last
abbrev pub offsets_in_words : List ℕ → List ℕ
offsets_in_words [] = []
offsets_in_words (offset ∷ more) = (decimal offset ++ mark_before more) ++ offsets_in_words more

-- all octets, or all up to an offset, in words
unfoldable pub all_in_words : Option ℕ → List ℕ
all_in_words None = codes "all"
all_in_words (Some end) = codes "all up to offset " ++ decimal end

-- the offsets of the headers of a chain
abbrev pub chain_offsets : Chain → List ℕ
chain_offsets c = take c.count c.offsets

-- the text of a value in a sentence about these octets
abbrev pub value_text : List ℕ → Value → List ℕ
value_text octets (value.Number n) = decimal n
value_text octets (value.Octets n) = octets_in_words n
value_text octets (value.Pairs start end) = first_pairs (octets_between octets start end)
value_text octets (value.Name e) = named_element e
value_text octets (value.Header e) = header_sentence octets e
value_text octets (value.LackingZeros unfinished) = lacking_zeros unfinished
value_text octets (value.Code fault) = fault_code fault.code
value_text octets (value.Message fault) = fault_text fault.code
value_text octets (value.Broken x) = broken_line x
value_text octets (value.Offsets c) = offsets_in_words (chain_offsets c)
value_text octets (value.All end) = all_in_words end
