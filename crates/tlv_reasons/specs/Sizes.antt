-- What the length of the outermost element says about octets that are missing or too many: X.690 8.1.3.
use Rattle.std.specs.Prelude.{ℕ, Bool, true, false, eqb, nat_lt, if◌then◌else◌, List, length, Option, Some, None, slice_get}
use Rattle.std.specs.Prelude.{◌-◌, ◌+◌, ◌&&◌, ◌||◌, slice_index}
use Rattle.tlv_head.specs.declared.fault.Fault.{Fault}
use Rattle.tlv_head.specs.declared.fault.FaultCode.{FaultCode}
use Rattle.tlv_head.specs.declared.fault.FaultCode.TheVariants.{Short}
use Rattle.tlv_reasons.specs.declared.element.Element.{Element}
use Rattle.tlv_reasons.specs.declared.facts.Facts.{Facts}
use Rattle.tlv_reasons.specs.declared.sentence.Sentence.{Sentence}
use Rattle.tlv_reasons.specs.declared.sentence.Sentence.TheVariants as say
use Rattle.tlv_reasons.specs.declared.sizes.Difference.{Difference}
use Rattle.tlv_reasons.specs.Leftovers.{is_followed_by_other}

-- an octet with which the element begins stands at its end: another record may follow
abbrev pub is_followed_alike : List ℕ → Element → ℕ → Bool
is_followed_alike octets e end = nat_lt end (length octets) && eqb (slice_index octets end) (slice_index octets e.offset)

-- the sentence about an element of definite length, which ends at this offset
abbrev pub size_sentence_of : List ℕ → Element → ℕ → Option Sentence
size_sentence_of octets e end =
    if eqb end (length octets) then Some (say.NoneLost e)
    else (if nat_lt (length octets) end then Some (say.SomeLost e (length octets))
    else (if is_followed_alike octets e end then None else Some (say.SomePutIn e (length octets))))

-- the same, if its length is definite
abbrev pub size_sentence_by : List ℕ → Element → Option ℕ → Option Sentence
size_sentence_by octets e None = None
size_sentence_by octets e (Some end) = size_sentence_of octets e end

-- the sentence about the outermost open element
abbrev pub size_sentence_in : List ℕ → Option Element → Option Sentence
size_sentence_in octets None = None
size_sentence_in octets (Some e) = size_sentence_by octets e e.end

-- F02
abbrev pub is_short : FaultCode → Bool
is_short Short = true
is_short code = false

-- then the sentences about the fault say the same
abbrev pub says_sizes : Option Fault → Bool
says_sizes None = false
says_sizes (Some fault) = is_short fault.code

-- the sentence about sizes, if there is one; none if no element is left over
abbrev pub size_sentence : List ℕ → Facts → Option Sentence
size_sentence octets facts =
    if says_sizes facts.fault || is_followed_by_other octets facts.top then None
    else size_sentence_in octets (slice_get facts.holders.items 0)

-- ---- by how much sizes differ

-- the number by which two numbers differ
abbrev pub distance : ℕ → ℕ → ℕ
distance a b = (a - b) + (b - a)

-- sizes that differ more are not compared: a limit of our own
abbrev pub most_different : ℕ
most_different = 4096

-- by how many octets an input of this size is longer or shorter than one that ends at the offset `end`
abbrev pub difference_of : ℕ → ℕ → Option Difference
difference_of size end =
    if eqb (distance size end) 0 || nat_lt most_different (distance size end) then None
    else Some (record { by = distance size end; is_longer = nat_lt end size })

-- the same of the end of an element. There is none where another record may follow
abbrev pub difference_at : List ℕ → Element → ℕ → Option Difference
difference_at octets e end =
    if is_followed_alike octets e end then None else difference_of (length octets) end

abbrev pub difference_by : List ℕ → Element → Option ℕ → Option Difference
difference_by octets e None = None
difference_by octets e (Some end) = difference_at octets e end

abbrev pub difference_in : List ℕ → Option Element → Option Difference
difference_in octets None = None
difference_in octets (Some e) = difference_by octets e e.end

-- 8.1.3.3: by how many octets the input is longer or shorter than its outermost open element says
abbrev pub size_difference : List ℕ → Facts → Option Difference
size_difference octets facts = difference_in octets (slice_get facts.holders.items 0)
