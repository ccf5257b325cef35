-- Laws of other lengths that a header might say, and of the sentences.
use Rattle.std.specs.Prelude.{◌≡◌, ℕ, ◌^◌, ◌<◌, Bool, true, ◌&&◌, ◌||◌, eqb, nat_le, List, Option, length}
use Rattle.std.specs.List.{list_all}
use Rattle.tlv_head.specs.declared.header.Size.TheVariants.{Definite}
use Rattle.tlv_head.specs.Header.{HeaderValue, IsHeader, octets_of}
use Rattle.tlv_walk.specs.declared.framing.Framing.{Framing}
use Rattle.tlv_walk.specs.Reading.{AreOctets}
use Rattle.tlv_reasons.specs.Chains.{IsChain}
use Rattle.tlv_reasons.specs.declared.chains.Chain.{Chain}
use Rattle.tlv_reasons.specs.declared.element.Element.{Element}
use Rattle.tlv_reasons.specs.declared.facts.Facts.{Facts}
use Rattle.tlv_reasons.specs.declared.lengths.WrongLength.{WrongLength}
use Rattle.tlv_reasons.specs.declared.octet_changes.OctetChange.{OctetChange}
use Rattle.tlv_reasons.specs.declared.records.NextRecord.{NextRecord}
use Rattle.tlv_reasons.specs.NextRecord.{IsNextRecord}
use Rattle.tlv_reasons.specs.OneOctet.{IsOctetChange}
use Rattle.tlv_reasons.specs.declared.bounds.Bounds.{Bounds}
use Rattle.tlv_reasons.specs.declared.sentence.Sentence.{Sentence}
use Rattle.tlv_reasons.specs.Sentences.{sentences_text}
use Rattle.tlv_reasons.specs.WrongLength.{NamesLengths, length_bound, with_length}

-- the bounds of a search, an input, its open elements and offsets determine the other lengths that are named
abbrev pub InputsHaveOneWrongLength : Type 0
InputsHaveOneWrongLength =
    (framing : Framing) (bounds : Bounds) (octets : List ℕ) (holders : List Element) (candidates : List ℕ)
    (a b : List WrongLength) → NamesLengths framing bounds octets holders candidates a
    → NamesLengths framing bounds octets holders candidates b → a ≡ b

-- with the first of these they also determine the octet that is missing or was put in, or that there is none
abbrev pub InputsHaveOneOctetChange : Type 0
InputsHaveOneOctetChange = (framing : Framing) (octets candidates : List ℕ) (wrong : Option WrongLength)
    (a b : Option OctetChange) → IsOctetChange framing octets candidates wrong a
    → IsOctetChange framing octets candidates wrong b → a ≡ b

-- an input with these facts, and offsets, determine the chain of lengths, or that there is none
abbrev pub InputsHaveOneChain : Type 0
InputsHaveOneChain = (padding : Bool) (octets : List ℕ) (facts : Facts) (candidates : List ℕ) (a b : Option Chain)
    → IsChain padding octets facts candidates a → IsChain padding octets facts candidates b → a ≡ b

-- an input, with what was found before, determines the next record, or that there is none
abbrev pub InputsHaveOneNextRecord : Type 0
InputsHaveOneNextRecord = (reads : ℕ) (padding : Bool) (octets : List ℕ) (fault top : ℕ) (wrong : Option WrongLength)
    (start : Option ℕ) (a b : Option NextRecord) → IsNextRecord reads padding octets fault top wrong start a
    → IsNextRecord reads padding octets fault top wrong start b → a ≡ b

-- a header with another length that its length octets can state is a header of the same number of octets
abbrev pub OtherLengthsMakeHeaders : Type 0
OtherLengthsMakeHeaders =
    (h : HeaderValue) (said n : ℕ) → IsHeader h → h.size ≡ Definite said → n < length_bound (length h.length_octets)
    → n < 2 ^ 40
    → IsHeader (with_length h n) × (length (octets_of (with_length h n)) ≡ length (octets_of h))

-- a line feed, or a printable character of ASCII
abbrev pub is_shown_octet : ℕ → Bool
is_shown_octet x = eqb x 10 || (nat_le 0x20 x && nat_le x 0x7e)

-- only line feeds and printable ASCII
abbrev pub AreShown : List ℕ → Type 0
AreShown text = list_all is_shown_octet text ≡ true

-- the text of sentences about octets is printable ASCII
abbrev pub SentencesAreShown : Type 0
SentencesAreShown = (octets : List ℕ) (sentences : List Sentence) → AreOctets octets → AreShown (sentences_text octets sentences)
