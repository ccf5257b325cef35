-- Why octets do not parse: the sentences about the fault, and about what is left over.
use Rattle.std.specs.Prelude.{ℕ, ◌-◌, Bool, true, false, not, nat_le, if◌then◌else◌, List, [], ◌++◌, length}
use Rattle.std.specs.Prelude.{Option, Some, None}
use Rattle.std.specs.Option.{is_some}
use Rattle.tlv_head.specs.declared.fault.Fault.{Fault}
use Rattle.tlv_head.specs.declared.fault.FaultCode.{FaultCode}
use Rattle.tlv_head.specs.declared.fault.FaultCode.TheVariants.{Empty, StrayEnd}
use Rattle.tlv_reasons.specs.declared.facts.Facts.{Facts}
use Rattle.tlv_reasons.specs.declared.sentence.Sentence.{Sentence}
use Rattle.tlv_reasons.specs.declared.sentence.Sentence.TheVariants as say
use Rattle.tlv_reasons.specs.FaultReasons.{code_reasons}
use Rattle.tlv_reasons.specs.Leftovers.{following_reasons, is_followed_by_other, left_over}
use Rattle.tlv_reasons.specs.OpenHolders.{innermost_holder}

-- the first sentence about octets with this fault, if they have one
abbrev pub first_sentence_by : Option Fault → List ℕ → Sentence
first_sentence_by None octets = say.Parses (length octets)
first_sentence_by (Some fault) octets = say.DoesNotParse fault

-- the first sentence about octets with these facts: that they parse, or the message of the fault
abbrev pub first_sentence : List ℕ → Facts → Sentence
first_sentence octets facts = first_sentence_by facts.fault octets

-- the sentences about the fault alone
abbrev pub fault_sentences_by : Option Fault → List ℕ → Facts → List Sentence
fault_sentences_by None octets facts = []
fault_sentences_by (Some fault) octets facts = code_reasons fault.code fault.offset octets facts

abbrev pub fault_sentences : List ℕ → Facts → List Sentence
fault_sentences octets facts = fault_sentences_by facts.fault octets facts

-- the sentences about this code already say what is left over: there is no element, or 00 outside of all elements
abbrev pub says_rest : FaultCode → Facts → Bool
says_rest Empty facts = true
says_rest StrayEnd facts = not (is_some (innermost_holder facts))
says_rest code facts = false

-- the whole encodings in front make up at least half of an input of `size` octets
abbrev pub is_mostly_whole : ℕ → ℕ → Bool
is_mostly_whole size top = nat_le (size - top) top

-- these sentences, with what is left over before them or after them
abbrev pub with_rest : ℕ → ℕ → List Sentence → List Sentence
with_rest size top reasons =
    if is_mostly_whole size top then left_over top (size - top) ++ reasons else reasons ++ left_over top (size - top)

-- the sentences about this fault, and about what is left over
abbrev pub fault_reasons : Fault → List ℕ → Facts → List Sentence
fault_reasons fault octets facts =
    if is_followed_by_other octets facts.top then following_reasons octets facts.top
    else (if says_rest fault.code facts then code_reasons fault.code fault.offset octets facts
    else with_rest (length octets) facts.top (code_reasons fault.code fault.offset octets facts))

abbrev pub reasons_by : Option Fault → List ℕ → Facts → List Sentence
reasons_by None octets facts = []
reasons_by (Some fault) octets facts = fault_reasons fault octets facts

-- all sentences about octets with these facts after the first: none if they parse
abbrev pub reasons_of : List ℕ → Facts → List Sentence
reasons_of octets facts = reasons_by facts.fault octets facts
