-- Why octets do not parse, or a string in them, and what may be done: what is written about it.
use Rattle.std.specs.Prelude.{◌≡◌, ◌<◌, ◌/◌, ◌^◌, ◌++◌, ⊤, ℕ, max, Bool, true, false, eqb, if◌then◌else◌, nat_lt}
use Rattle.std.specs.Prelude.{List, [], ◌∷◌, None, Result, Ok, Err}
use Rattle.std.specs.List.{filter}
use Rattle.std.specs.declared.alloc.AllocError.{AllocError}
use Rattle.tlv_head.specs.Limits.{input_limit}
use Rattle.tlv_io.specs.Device.{DrainState}
use Rattle.tlv_io.specs.Out.{Sends}
use Rattle.tlv_io.specs.declared.drain.WriteFault.{WriteFault}
use Rattle.tlv_open.specs.Laws.{opened_framing}
use Rattle.tlv_open.specs.Opens.{AreOpened, closed_framing}
use Rattle.tlv_open.specs.declared.strings.BrokenString.{BrokenString}
use Rattle.tlv_reasons.specs.Facts.{AreFacts}
use Rattle.tlv_reasons.specs.FileKinds.{file_kind}
use Rattle.tlv_reasons.specs.Remedies.{AreReasons, AreStringReasons}
use Rattle.tlv_reasons.specs.Sentences.{sentences_text}
use Rattle.tlv_reasons.specs.Suspects.{suspects_from}
use Rattle.tlv_reasons.specs.Why.{first_sentence, reasons_of}
use Rattle.tlv_reasons.specs.declared.facts.Facts.{Facts}
use Rattle.tlv_reasons.specs.declared.sentence.Sentence.{Sentence}
use Rattle.tlv_reasons.specs.declared.sentence.Sentence.TheVariants as say
use Rattle.tlv_view_program.specs.declared.reasons.Explained.{Explained}
use Rattle.tlv_view_program.specs.declared.reasons.Explained.TheVariants as what

-- ---- what was sent

-- the result of sending sentences, some of which need memory: they are sent, a write failed, or memory is refused
abbrev pub Outcome : Type 0
Outcome = Result (Result ⊤ WriteFault) AllocError

-- sentences about octets are sent, after those in front: all; or, if memory for some of them is refused, as it may be,
-- those that need none. A line for each case
pub data SendsReasons (octets : List ℕ) (front : List Sentence) (AreAll : List Sentence → Type 0)
    (few : List Sentence) (MayRefuse : Type 0) (old new : DrainState)
    : Outcome → Type 0 where
  all_sent : (sentences : List Sentence) (result : Result ⊤ WriteFault) → AreAll sentences
      → Sends old new (sentences_text octets (front ++ sentences)) result
      → SendsReasons octets front AreAll few MayRefuse old new (Ok result)
  few_sent : (error : AllocError) (unit : ⊤) → MayRefuse
      → Sends {E = WriteFault} old new (sentences_text octets (front ++ few)) (Ok unit)
      → SendsReasons octets front AreAll few MayRefuse old new (Err error)
  few_failed : (fault : WriteFault) → MayRefuse → Sends {T = ⊤} old new (sentences_text octets (front ++ few)) (Err fault)
      → SendsReasons octets front AreAll few MayRefuse old new (Ok (Err fault))

-- ---- a string that is broken

-- the strings to name in order to explain a string: the opened strings in front of it, and itself
abbrev pub offsets_up_to : ℕ → List ℕ → List ℕ
offsets_up_to offset opened = filter (λ o. nat_lt o offset) opened ++ offset ∷ []

-- the sentence before the reasons why a string breaks, where no message says it
abbrev pub heading : Bool → BrokenString → List Sentence
heading has_heading x = if has_heading then say.Breaks x ∷ [] else []

-- these sentences, the reasons why a string breaks, and the length that would mend it. No header in front of the string
-- is said to have the wrong length. A line for each case
pub data ExplainsString (padding : Bool) (octets : List ℕ) (x : BrokenString) (front : List Sentence)
    (old new : DrainState)
    : Outcome → Type 0 where
  -- it is not a string of an input: no input has such an offset
  not_there : (unit : ⊤) → input_limit < x.offset → new ≡ old
      → ExplainsString padding octets x front old new (Ok (Ok unit))
  -- memory for the list of strings is refused, and nothing is written
  no_list : (error : AllocError) → new ≡ old → ExplainsString padding octets x front old new (Err error)
  explained : (opened : List ℕ) (facts : Facts) (outcome : Outcome) → AreOpened padding octets opened
      → AreFacts (opened_framing padding (offsets_up_to x.offset opened)) octets facts
      → SendsReasons octets front
      (AreStringReasons (opened_framing padding (offsets_up_to x.offset opened)) octets (suspects_from x.offset facts)
      facts) (reasons_of octets facts) ⊤ old new outcome
      → ExplainsString padding octets x front old new outcome

-- the first broken string is explained, if there is one
pub data ExplainsFirst (padding : Bool) (octets : List ℕ) (old new : DrainState)
    : List BrokenString → Outcome → Type 0 where
  none : (unit : ⊤) → new ≡ old → ExplainsFirst padding octets old new [] (Ok (Ok unit))
  first : (x : BrokenString) (xs : List BrokenString) (outcome : Outcome)
      → ExplainsString padding octets x (heading true x) old new outcome
      → ExplainsFirst padding octets old new (x ∷ xs) outcome

-- ---- octets that do not parse

-- the sentence before the reasons why octets do not parse, where no message says it
abbrev pub first_of : Bool → List ℕ → Facts → List Sentence
first_of has_first octets facts = if has_first then first_sentence octets facts ∷ [] else []

-- all tries for a next record in a run may read so many octets in vain: a limit of our own
abbrev pub run_reads : ℕ
run_reads = 2 ^ 24

-- so many of these are for each block of a run of `count` blocks
abbrev pub block_reads : ℕ → ℕ
block_reads count = run_reads / max 1 count

-- why octets do not parse, after these sentences. No memory is needed for another kind of file
abbrev pub ExplainsOctets : ℕ → Bool → List ℕ → Facts → List Sentence → DrainState → DrainState → Outcome → Type 0
ExplainsOctets reads padding octets facts front old new outcome =
    SendsReasons octets front (AreReasons reads padding octets facts) (reasons_of octets facts) (file_kind octets ≡ None) old
    new outcome

-- ---- after messages

abbrev pub first_string : List BrokenString → Explained
first_string [] = what.Nothing
first_string (x ∷ xs) = what.String x

-- what to explain if this status is reported: a fault, or else the first broken string; nothing if standard output
-- failed
abbrev pub explained_by : Bool → ℕ → List BrokenString → Explained
explained_by has_failed status broken =
    if has_failed then what.Nothing else (if eqb status 2 then what.Octets else first_string broken)

-- the reasons that come after messages about octets: a line for each case
pub data WritesReasons (reads : ℕ) (padding : Bool) (octets : List ℕ) (old new : DrainState) : Explained → Outcome → Type 0 where
  of_nothing : (unit : ⊤) → new ≡ old → WritesReasons reads padding octets old new what.Nothing (Ok (Ok unit))
  of_octets : (facts : Facts) (outcome : Outcome) → AreFacts (closed_framing padding) octets facts
      → ExplainsOctets reads padding octets facts (first_of false octets facts) old new outcome
      → WritesReasons reads padding octets old new what.Octets outcome
  of_string : (x : BrokenString) (outcome : Outcome)
      → ExplainsString padding octets x (heading false x) old new outcome
      → WritesReasons reads padding octets old new (what.String x) outcome
