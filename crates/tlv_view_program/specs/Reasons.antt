-- What is written about octets with `--why`: whether they parse, and if not, why, and what may be done.
use Rattle.std.specs.Prelude.{◌≡◌, ◌≢◌, ◌++◌, ⊤, ℕ, Bool, true, List, [], ◌∷◌, Option, None, Ok, Err, codes, eqb, take}
use Rattle.std.specs.Prelude.{if◌then◌else◌}
use Rattle.std.specs.List.{concat, cons_option}
use Rattle.std.specs.Option.{option_map}
use Rattle.tlv_io.specs.Device.{DrainState}
use Rattle.tlv_io.specs.Out.{Sends}
use Rattle.tlv_io.specs.declared.drain.WriteFault.{WriteFault}
use Rattle.tlv_walk.specs.declared.run.DeviceFault.TheVariants.{WriteFailed}
use Rattle.tlv_value.specs.Names.{NamesValue}
use Rattle.tlv_show.specs.declared.rules.Rules.{Rules}
use Rattle.tlv_show.specs.declared.rules.Rules.TheVariants.{Ber, Der}
use Rattle.tlv_open.specs.Laws.{opened_framing}
use Rattle.tlv_open.specs.Opens.{closed_framing}
use Rattle.tlv_open.specs.declared.strings.BrokenString.{BrokenString}
use Rattle.tlv_run.specs.Report.{ReportValue, device_report, report_with}
use Rattle.tlv_run.specs.Results.{CommandResult, IsResult}
use Rattle.tlv_reasons.specs.Facts.{AreFacts}
use Rattle.tlv_reasons.specs.OutermostKinds.{AreKinds}
use Rattle.tlv_reasons.specs.Sentences.{sentences_text}
use Rattle.tlv_reasons.specs.Why.{first_sentence}
use Rattle.tlv_reasons.specs.declared.element_kinds.OutermostKinds.{OutermostKinds}
use Rattle.tlv_reasons.specs.declared.facts.Facts.{Facts}
use Rattle.tlv_reasons.specs.declared.sentence.Sentence.{Sentence}
use Rattle.tlv_reasons.specs.declared.sentence.Sentence.TheVariants as say
use Rattle.tlv_view_program.specs.ReadWhole.{input_report}
use Rattle.tlv_view_program.specs.declared.input.InputFault.TheVariants.{Memory}
use Rattle.tlv_view_program.specs.Views.{AreBrokenUnless, AreOpenedUnless, Views, job_of_view}
use Rattle.tlv_view_program.specs.declared.view_call.View.TheVariants as view
use Rattle.tlv_view_program.specs.WritesReasons.{ExplainsFirst, ExplainsOctets, Outcome, first_of}

-- ---- the number of findings

-- a drain that shows nothing of itself
abbrev pub silent_drain : DrainState
silent_drain = record { octets = None; failures = 0 }

-- the findings by these rules are the findings that a check reports
abbrev pub ReportsFindings : Rules → Bool → Bool → NamesValue → List ℕ → ReportValue → Type 0
ReportsFindings rules closed padding table octets report =
    Views (view.Check rules) table closed padding octets silent_drain silent_drain report

-- the number of findings, in the words of a report, which has none for no findings
abbrev pub findings_words : List ℕ → List ℕ
findings_words [] = codes "findings: 0"
findings_words (x ∷ message) = x ∷ message

-- the line of the findings by the rules of BER and DER
abbrev pub findings_line : List ℕ → List ℕ → List ℕ
findings_line ber der =
    (codes "By the rules of BER: " ++ findings_words ber)
    ++ (codes ". By those of DER: " ++ findings_words der) ++ codes ".\n"

-- ---- the first findings

-- the whole lines of a text, each with its line feed; `line` is what stands in front of the text in its first line
abbrev pub ended_lines : List ℕ → List ℕ → List (List ℕ)
ended_lines line [] = []
ended_lines line (x ∷ text) =
    if eqb x 10 then (line ++ x ∷ []) ∷ ended_lines [] text else ended_lines (line ++ x ∷ []) text

-- the first whole lines of a text: so many, or all
abbrev pub first_lines : ℕ → List ℕ → List ℕ
first_lines most text = concat (take most (ended_lines [] text))

-- the lines of so many findings are shown
abbrev pub most_finding_lines : ℕ
most_finding_lines = 5

-- a check writes them in fewer octets
abbrev pub findings_room : ℕ
findings_room = 1024

-- these are the first octets that a check by these rules writes: as many as there is room for
pub record AreFirstOctets
    (rules : Rules) (table : NamesValue) (closed padding : Bool) (octets : List ℕ) (room : ℕ) (first : List ℕ)
    : Type 0 where
  pub offsets : List ℕ
  pub are_opened : AreOpenedUnless closed padding octets offsets
  pub made : CommandResult
  pub is_made : IsResult (job_of_view (view.Check rules) (opened_framing padding offsets) table) octets made
  pub first_are : first ≡ take room made.output

-- the first octets that a check by DER writes, if its message has a number of findings
pub data AreFirstFindings (table : NamesValue) (closed padding : Bool) (octets : List ℕ)
    : List ℕ → List ℕ → Type 0 where
  none : AreFirstFindings table closed padding octets [] []
  some : {x : ℕ} {message first : List ℕ} → AreFirstOctets Der table closed padding octets findings_room first
      → AreFirstFindings table closed padding octets (x ∷ message) first

-- the findings in octets that parse: their numbers by BER and DER, and the lines of the first by DER
abbrev pub findings_text : List ℕ → List ℕ → List ℕ → List ℕ
findings_text ber der first = findings_line ber der ++ first_lines most_finding_lines first

-- ---- octets that parse

-- that octets parse and the findings in them, and then why the first of the broken strings breaks: a line for each case
pub data ExplainsParsing (padding : Bool) (octets : List ℕ) (text : List ℕ) (broken : List BrokenString)
    (old new : DrainState)
    : Outcome → Type 0 where
  -- the first lines cannot be written
  not_written : (fault : WriteFault) → Sends {T = ⊤} old new text (Err fault)
      → ExplainsParsing padding octets text broken old new (Ok (Err fault))
  written : (between : DrainState) (unit : ⊤) (outcome : Outcome) → Sends {E = WriteFault} old between text (Ok unit)
      → ExplainsFirst padding octets between new broken outcome
      → ExplainsParsing padding octets text broken old new outcome

-- ---- what is reported

-- the status, unless a write failed, or memory was refused
abbrev pub explained_report : ℕ → Outcome → ReportValue
explained_report status (Ok (Ok unit)) = report_with status []
explained_report status (Ok (Err fault)) = device_report WriteFailed
explained_report status (Err error) = input_report Memory

-- the sentences about octets that parse: that they do, and that their outermost elements begin with many different
-- octets, if they do
abbrev pub parsing_sentences : List ℕ → Facts → Option OutermostKinds → List Sentence
parsing_sentences octets facts kinds =
    first_sentence octets facts ∷ cons_option (option_map (λ k. say.ManyKinds k) kinds) []

-- what is written and reported of octets, and which strings in them are reported as broken: a line for each case
pub data ShowsReasons (reads : ℕ) (closed padding : Bool) (table : NamesValue) (octets : List ℕ) (old new : DrainState)
    : ReportValue → List BrokenString → Type 0 where
  -- they do not parse: the message of the fault, and all reasons
  refused : (facts : Facts) (outcome : Outcome) → AreFacts (closed_framing padding) octets facts
      → facts.fault ≢ None
      → ExplainsOctets reads padding octets facts (first_of true octets facts) old new outcome
      → ShowsReasons reads closed padding table octets old new (explained_report 2 outcome) []
  -- they parse: that they do, the findings, and why the first of the broken strings breaks
  parses : (facts : Facts) (ber der : ReportValue) (broken : List BrokenString) (outcome : Outcome)
      → AreFacts (closed_framing padding) octets facts → facts.fault ≡ None
      → ReportsFindings Ber closed padding table octets ber → ReportsFindings Der closed padding table octets der
      → AreBrokenUnless closed padding octets broken
      → (first : List ℕ) → AreFirstFindings table closed padding octets der.message first
      → (kinds : Option OutermostKinds) → AreKinds padding octets kinds
      → ExplainsParsing padding octets
      (sentences_text octets (parsing_sentences octets facts kinds) ++ findings_text ber.message der.message first) broken
      old new outcome
      → ShowsReasons reads closed padding table octets old new (explained_report ber.status outcome) broken
  -- they parse, but memory for finding what is in them is refused: nothing is written
  no_memory : (facts : Facts) → AreFacts (closed_framing padding) octets facts → facts.fault ≡ None → new ≡ old
      → ShowsReasons reads closed padding table octets old new (input_report Memory) []
