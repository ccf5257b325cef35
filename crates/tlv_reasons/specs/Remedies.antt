-- What may be done with an input that does not parse: which change would make it sound, and where else it is sound.
use Rattle.std.specs.Prelude.{◌≡◌, ◌<◌, ◌≤◌, ℕ, Bool, false, true, eqb, not, if◌then◌else◌, slice_get, take, length}
use Rattle.std.specs.Prelude.{List, [], ◌∷◌, ◌++◌, Option, None, Some}
use Rattle.std.specs.List.{filter, find}
use Rattle.std.specs.Option.{is_some, option_map, option_map_or}
use Rattle.tlv_open.specs.Opens.{closed_framing}
use Rattle.tlv_walk.specs.declared.framing.Framing.{Framing}
use Rattle.tlv_reasons.specs.declared.chains.Chain.{Chain}
use Rattle.tlv_reasons.specs.declared.facts.Facts.{Facts}
use Rattle.tlv_reasons.specs.declared.kinds.FileKind.{FileKind}
use Rattle.tlv_reasons.specs.declared.lengths.WrongLength.{WrongLength}
use Rattle.tlv_reasons.specs.declared.records.NextRecord.{NextRecord}
use Rattle.tlv_reasons.specs.declared.sentence.Sentence.{Sentence}
use Rattle.tlv_reasons.specs.declared.sentence.Sentence.TheVariants as say
use Rattle.tlv_reasons.specs.declared.text_changes.TextChange.{TextChange}
use Rattle.tlv_reasons.specs.declared.text_changes.TextChange.TheVariants.{LineEnds, Replaced, Utf8}
use Rattle.tlv_reasons.specs.Chains.{IsChain}
use Rattle.tlv_reasons.specs.Doubled.{IsDoubled}
use Rattle.tlv_reasons.specs.Facts.{fault_offset}
use Rattle.tlv_reasons.specs.FaultReasons.{said}
use Rattle.tlv_reasons.specs.FileKinds.{file_kind}
use Rattle.tlv_reasons.specs.FirstOf.{IsElse, IsNothing}
use Rattle.tlv_reasons.specs.Mended.{whole_bounds}
use Rattle.tlv_reasons.specs.Moves.{IsMove}
use Rattle.tlv_reasons.specs.NextRecord.{IsNextRecord}
use Rattle.tlv_reasons.specs.NextStart.{IsNextStart}
use Rattle.tlv_reasons.specs.OneOctet.{IsOctetChange}
use Rattle.tlv_reasons.specs.OutermostSizes.{SizesAgree}
use Rattle.tlv_reasons.specs.Overwritten.{run_around}
use Rattle.tlv_reasons.specs.Sizes.{says_sizes, size_sentence}
use Rattle.tlv_reasons.specs.Spacing.{IsSpacing}
use Rattle.tlv_reasons.specs.Suspects.{suspect_offsets}
use Rattle.tlv_reasons.specs.TextCopies.{IsSoundWithLfAlone, IsSoundWithoutUtf8, has_replacement}
use Rattle.tlv_reasons.specs.Traces.{trace_of}
use Rattle.tlv_reasons.specs.Why.{fault_sentences, reasons_of}
use Rattle.tlv_reasons.specs.Window.{AreLengthsInWindow, window_end}
use Rattle.tlv_reasons.specs.WrongLength.{NamesLengths, search_limit}

-- what was done to the input as if it were a text: what makes the input sound if it is undone, UTF-8 first; else, what
-- has left octets ef bf bd
pub data IsTextChange (padding : Bool) (octets : List ℕ) : Option TextChange → Type 0 where
  utf8 : IsSoundWithoutUtf8 padding octets → IsTextChange padding octets (Some Utf8)
  line_ends : (IsSoundWithoutUtf8 padding octets → ⊥) → IsSoundWithLfAlone padding octets
      → IsTextChange padding octets (Some LineEnds)
  replaced : (IsSoundWithoutUtf8 padding octets → ⊥) → (IsSoundWithLfAlone padding octets → ⊥)
      → has_replacement octets ≡ true → IsTextChange padding octets (Some Replaced)
  none : (IsSoundWithoutUtf8 padding octets → ⊥) → (IsSoundWithLfAlone padding octets → ⊥)
      → has_replacement octets ≡ false → IsTextChange padding octets None

-- the other lengths that are named, if the sizes of the outermost elements agree with that of the input, from the top end
-- on. Otherwise octets are missing or left over, and none is named. Of an input that is too long to be searched as a
-- whole, a window is searched
pub data AreNamedLengths (padding : Bool) (octets : List ℕ) (facts : Facts) : List WrongLength → Type 0 where
  in_disagreement : length octets ≤ search_limit → (SizesAgree padding octets facts.top → ⊥)
      → AreNamedLengths padding octets facts []
  in_agreement : {found : List WrongLength} → length octets ≤ search_limit → SizesAgree padding octets facts.top
      → NamesLengths (closed_framing padding) (whole_bounds octets) octets facts.holders.items
      (suspect_offsets facts) found
      → AreNamedLengths padding octets facts found
  in_window : {found : List WrongLength} → search_limit < length octets
      → AreLengthsInWindow padding octets facts.top found → AreNamedLengths padding octets facts found

-- another length that is named for the header at this offset
abbrev pub named_at : ℕ → List WrongLength → Option WrongLength
named_at offset found = find (λ w. eqb w.offset offset) found

-- the sentence about the lengths that are named: three at most. They mend all octets, or all up to an offset
abbrev pub length_sentence : List WrongLength → Option ℕ → Option Sentence
length_sentence [] end = None
length_sentence (v ∷ []) end = Some (say.OtherLength v end)
length_sentence (v ∷ w ∷ []) end = Some (say.TwoLengths v w end)
length_sentence (v ∷ w ∷ x ∷ more) end = Some (say.ThreeLengths v w x end)

-- what was done to the input as if it were a text, if that can be undone
abbrev pub undoable : Option TextChange → Option TextChange
undoable (Some Replaced) = None
undoable change = change

pub data IsUndone (padding : Bool) (octets : List ℕ) : Option TextChange → Type 0 where
  as_text : {change : Option TextChange} → IsTextChange padding octets change → IsUndone padding octets (undoable change)

-- the sentence about what was done to the input as a whole, if there is one: as to a text; to all octets; other octets
-- between its encodings; what shows that it was a text
abbrev pub IsSpacingOrElse : List ℕ → Option Sentence → Type 0
IsSpacingOrElse octets =
    IsElse (IsSpacing octets) say.Spaced (IsElse (λ t. t ≡ trace_of octets) say.Traced IsNothing)

abbrev pub IsMoveOrElse : Bool → List ℕ → Option Sentence → Type 0
IsMoveOrElse padding octets = IsElse (IsMove padding octets) say.OctetsMoved (IsSpacingOrElse octets)

abbrev pub IsWhole : Bool → List ℕ → Option Sentence → Type 0
IsWhole padding octets = IsElse (IsUndone padding octets) say.TextChanged (IsMoveOrElse padding octets)

-- the sentence about octets ef bf bd, if there are any
abbrev pub replaced_sentence : List ℕ → Option Sentence
replaced_sentence octets = if has_replacement octets then Some (say.TextChanged Replaced) else None

-- the same, if it comes in front of that sentence: it shows how the input was taken for a text
abbrev pub replaced_before : Sentence → List ℕ → Option Sentence
replaced_before (say.Traced t) octets = replaced_sentence octets
replaced_before s octets = None

-- a sentence about a length in front
abbrev pub is_suspicion : Sentence → Bool
is_suspicion (say.LengthInFront e) = true
is_suspicion s = false

-- these sentences, without those about lengths in front if something is known that would mend the input
abbrev pub unless_mended : Bool → List Sentence → List Sentence
unless_mended is_mended sentences = if is_mended then filter (λ s. not (is_suspicion s)) sentences else sentences

-- the reasons of an input: what sizes say, and the sentences about the fault; or the latter alone, without those about
-- lengths in front, if something is known that would mend it
abbrev pub reasons_if : Bool → List ℕ → Facts → List Sentence
reasons_if true octets facts = unless_mended true (reasons_of octets facts)
reasons_if false octets facts = said (size_sentence octets facts ∷ []) ++ reasons_of octets facts

-- the sentence about the lengths that are named
pub data IsLengthSentence (padding : Bool) (octets : List ℕ) (facts : Facts) : Option Sentence → Type 0 where
  about : {found : List WrongLength} → AreNamedLengths padding octets facts found
      → IsLengthSentence padding octets facts (length_sentence found (window_end octets facts.top))

-- other lengths of several elements inside one another; none if the input ends inside an encoding, since it was mostly cut
pub data IsOtherChain (padding : Bool) (octets : List ℕ) (facts : Facts) : Option Chain → Type 0 where
  cut : says_sizes facts.fault ≡ true → IsOtherChain padding octets facts None
  whole : {found : Option Chain} → says_sizes facts.fault ≡ false
      → IsChain padding octets facts (suspect_offsets facts) found → IsOtherChain padding octets facts found

-- the sentence about what would mend the input, the first that is found: where else it is sound; octets that stand in
-- place of others; other lengths; a block that stands twice; an octet that is missing or was put in; other lengths of
-- several elements inside one another
abbrev pub IsChainOrElse : Bool → List ℕ → Facts → Option Sentence → Type 0
IsChainOrElse padding octets facts = IsElse (IsOtherChain padding octets facts) say.OtherChain IsNothing

abbrev pub IsOctetOrElse : Bool → List ℕ → Facts → Option Sentence → Type 0
IsOctetOrElse padding octets facts =
    IsElse (IsOctetChange (closed_framing padding) octets (suspect_offsets facts) None) say.OneOctet
    (IsChainOrElse padding octets facts)

abbrev pub IsBlockOrElse : Bool → List ℕ → Facts → Option Sentence → Type 0
IsBlockOrElse padding octets facts =
    IsElse (IsDoubled padding octets facts) say.StandsTwice (IsOctetOrElse padding octets facts)

abbrev pub IsLengthOrElse : Bool → List ℕ → Facts → Option Sentence → Type 0
IsLengthOrElse padding octets facts =
    IsElse (IsLengthSentence padding octets facts) (λ s. s) (IsBlockOrElse padding octets facts)

abbrev pub IsRemedy : Bool → List ℕ → Facts → Option Sentence → Type 0
IsRemedy padding octets facts =
    IsElse (IsNextStart padding octets facts.top (fault_offset facts)) say.ParsesFrom
    (IsElse (λ run. run ≡ run_around octets (fault_offset facts)) say.Overwritten (IsLengthOrElse padding octets facts))

-- the lengths that such a sentence names
abbrev pub lengths_in : Option Sentence → List WrongLength
lengths_in (Some (say.OtherLength v end)) = v ∷ []
lengths_in (Some (say.TwoLengths v w end)) = v ∷ w ∷ []
lengths_in (Some (say.ThreeLengths v w x end)) = v ∷ w ∷ x ∷ []
lengths_in s = []

-- the other start that such a sentence names
abbrev pub start_in : Option Sentence → Option ℕ
start_in (Some (say.ParsesFrom n)) = Some n
start_in s = None

-- the sentence about where the next record begins
abbrev pub record_sentence : NextRecord → Sentence
record_sentence r = option_map_or (say.NextRecordUpTo r.offset) r.fault (say.NextRecord r.offset)

-- the reasons of an input with these facts to which nothing was done as a whole: octets ef bf bd, what would mend it,
-- the sentences about the fault, and the next record
pub record AreRemedies (reads : ℕ) (padding : Bool) (octets : List ℕ) (facts : Facts) (sentences : List Sentence)
    : Type 0 where
  pub remedy : Option Sentence
  pub is_remedy : IsRemedy padding octets facts remedy
  pub record_after : Option NextRecord
  pub is_record : IsNextRecord reads padding octets (fault_offset facts) facts.top
      (named_at facts.top (lengths_in remedy)) (start_in remedy) record_after
  pub sentences_are : sentences
      ≡ said (replaced_sentence octets ∷ remedy ∷ [])
      ++ (reasons_if (is_some remedy) octets facts ++ said (option_map record_sentence record_after ∷ []))

-- all reasons why an input with these facts does not parse: that it is another kind of file, and nothing else; what was
-- done to it as a whole, and the first sentence about the fault; or all others. So many octets may be read for the next
-- record
pub data AreReasons (reads : ℕ) (padding : Bool) (octets : List ℕ) (facts : Facts) : List Sentence → Type 0 where
  another_kind : (kind : FileKind) → file_kind octets ≡ Some kind
      → AreReasons reads padding octets facts (say.OtherKind kind ∷ [])
  changed : (whole : Sentence) → file_kind octets ≡ None → IsWhole padding octets (Some whole)
      → AreReasons reads padding octets facts
      (said (replaced_before whole octets ∷ Some whole ∷ []) ++ take 1 (fault_sentences octets facts))
  others : (sentences : List Sentence) → file_kind octets ≡ None → IsWhole padding octets None
      → AreRemedies reads padding octets facts sentences → AreReasons reads padding octets facts sentences

-- all reasons why a string breaks, in a reading with these facts: the lengths that would mend it, and the fault
pub record AreStringReasons (framing : Framing) (octets candidates : List ℕ) (facts : Facts) (sentences : List Sentence)
    : Type 0 where
  pub wrong : List WrongLength
  pub are_wrong : NamesLengths framing (whole_bounds octets) octets facts.holders.items candidates wrong
  pub sentences_are : sentences
      ≡ said (length_sentence wrong None ∷ []) ++ unless_mended (is_some (slice_get wrong 0)) (reasons_of octets facts)
