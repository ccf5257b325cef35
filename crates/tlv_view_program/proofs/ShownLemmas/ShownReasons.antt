-- What is written of reasons, with `--why` and after messages, is printable ASCII.
use Rattle.std.proofs.Common.{◌≡◌, ℕ, Bool, true, false, List, [], ◌∷◌, ◌++◌, Result, Ok, Err, eqb, refl, subst, suc}
use Rattle.std.proofs.Common.{sym, take, zero}
use Rattle.std.specs.List.{concat}
use Rattle.std.proofs.KnownBytes.{Appends-nil, Appends-trans}
use Rattle.std.proofs.lemmas.Bool.{and_parts}
use Rattle.std.proofs.lemmas.List.Folds.{list_all-append}
use Rattle.tlv_io.specs.Device.{DrainState}
use Rattle.tlv_io.specs.Out.{Sends}
use Rattle.tlv_walk.specs.Reading.{AreOctets}
use Rattle.tlv_walk.specs.declared.run.DeviceFault.TheVariants.{WriteFailed}
use Rattle.tlv_value.specs.Names.{NamesValue}
use Rattle.tlv_open.specs.declared.strings.BrokenString.{BrokenString}
use Rattle.tlv_run.specs.Report.{ReportValue}
use Rattle.tlv_view_program.specs.declared.input.InputFault.TheVariants as input
use Rattle.tlv_reasons.specs.Laws.{AreShown}
use Rattle.tlv_reasons.specs.Sentences.{sentences_text}
use Rattle.tlv_show.specs.declared.rules.Rules.TheVariants.{Der}
use Rattle.tlv_reasons.specs.declared.sentence.Sentence.{Sentence}
use Rattle.tlv_reasons.proofs.ShownLemmas.ShownSentences.{sentences-shown}
use Rattle.tlv_view_program.specs.Reasons.{AreFirstFindings, ExplainsParsing, ShowsReasons, explained_report}
use Rattle.tlv_view_program.specs.Reasons.{findings_line, findings_room, findings_words, first_lines, parsing_sentences}
use Rattle.tlv_view_program.specs.Reasons.{most_finding_lines, ended_lines}
use Rattle.tlv_view_program.specs.ShownLines.{FindingsLinesAreShown, ReasonsAreShown, TakesShown}
use Rattle.tlv_view_program.specs.WritesReasons.{ExplainsFirst, ExplainsString, Outcome, SendsReasons, WritesReasons}
use Rattle.tlv_view_program.specs.WritesReasons.{first_of, heading}
use Rattle.tlv_view_program.specs.declared.reasons.Explained.{Explained}
use Rattle.tlv_view_program.proofs.ShownLemmas.ShownLabels.{front-shown, joined-shown}
use Rattle.tlv_view_program.proofs.ShownLemmas.ShownFindings.{first_octets-shown}
use Rattle.tlv_view_program.proofs.ShownLemmas.ShownReports.{IsShownReport, device_report-shown}
use Rattle.tlv_view_program.proofs.ShownLemmas.ShownReports.{input_report-shown, views-shown}

-- ---- octets that parse

words-shown : (message : List ℕ) → AreShown message → AreShown (findings_words message)
words-shown [] shown = refl
words-shown (x ∷ message) shown = shown

findings_line-shown : (ber der : List ℕ) → AreShown ber → AreShown der → AreShown (findings_line ber der)
findings_line-shown ber der b d = simp (list_all-append, words-shown ber b, words-shown der d)

-- the first lines of a text that is shown
lines-shown : (most : ℕ) (line text : List ℕ) → AreShown line → AreShown text
    → AreShown (concat (take most (ended_lines line text)))
lines-shown zero line text l t = refl
lines-shown (suc most) line [] l t = refl
lines-shown (suc most) line (x ∷ text) l t = by (eqb x 10) refl
    (lines-shown most [] text refl (and_parts _ _ t).1)
    (lines-shown (suc most) (line ++ x ∷ []) text (joined-shown line (x ∷ []) l (front-shown (x ∷ []) text t))
    (and_parts _ _ t).1)
  where
    by : (b : Bool) → eqb x 10 ≡ b → AreShown (concat (take most (ended_lines [] text)))
        → AreShown (concat (take (suc most) (ended_lines (line ++ x ∷ []) text)))
        → AreShown (concat (take (suc most) (ended_lines line (x ∷ text))))
    by true e rest other =
        rw e
        (joined-shown (line ++ x ∷ []) (concat (take most (ended_lines [] text)))
        (joined-shown line (x ∷ []) l (front-shown (x ∷ []) text t)) rest)
    by false e rest other = rw e other

-- the first octets that a check by DER writes
first_findings-shown : (table : NamesValue) (closed padding : Bool) (octets message first : List ℕ)
    → AreFirstFindings table closed padding octets message first → AreShown first
first_findings-shown table closed padding octets _ _ AreFirstFindings.none = refl
first_findings-shown table closed padding octets _ first (AreFirstFindings.some are) =
    first_octets-shown Der table closed padding octets findings_room first are

pub findings_lines-shown : FindingsLinesAreShown
findings_lines-shown first second closed padding table octets ber der b d =
    findings_line-shown ber.message der.message (views-shown _ _ _ _ _ _ _ ber b) (views-shown _ _ _ _ _ _ _ der d)

-- ---- what a drain takes

pub takes-nothing : (a : DrainState) → TakesShown a a
takes-nothing a = record { text = []; shown = refl; takes = Appends-nil a.octets }

pub same-takes : (a b : DrainState) → b ≡ a → TakesShown a b
same-takes a b same = subst (λ (d : DrainState). TakesShown a d) (sym same) (takes-nothing a)

pub takes-then : (a b c : DrainState) → TakesShown a b → TakesShown b c → TakesShown a c
takes-then a b c p q = record {
  text = p.text ++ q.text;
  shown = simp (list_all-append, p.shown, q.shown);
  takes = Appends-trans a.octets b.octets c.octets p.text q.text p.takes q.takes;
}

pub sends-shown : {T E : Type 0} (a b : DrainState) (words : List ℕ) (result : Result T E) → AreShown words
    → Sends a b words result → TakesShown a b
sends-shown a b words result shown s = record {
  text = s.sent;
  shown = front-shown s.sent s.left (subst (λ (l : List ℕ). AreShown l) (sym s.prefix) shown);
  takes = s.took;
}

-- ---- reasons of octets

module _ (padding : Bool) (octets : List ℕ) (o : AreOctets octets) where
  reasons-sent : (front few : List Sentence) (AreAll : List Sentence → Type 0) (MayRefuse : Type 0) (a b : DrainState)
      (outcome : Outcome) → SendsReasons octets front AreAll few MayRefuse a b outcome → TakesShown a b
  reasons-sent front few AreAll MayRefuse a b _ (SendsReasons.all_sent sentences result are sends) =
      sends-shown a b (sentences_text octets (front ++ sentences)) result (sentences-shown octets (front ++ sentences) o) sends
  reasons-sent front few AreAll MayRefuse a b _ (SendsReasons.few_sent error unit may sends) =
      sends-shown a b (sentences_text octets (front ++ few)) (Ok unit) (sentences-shown octets (front ++ few) o) sends
  reasons-sent front few AreAll MayRefuse a b _ (SendsReasons.few_failed fault may sends) =
      sends-shown a b (sentences_text octets (front ++ few)) (Err fault) (sentences-shown octets (front ++ few) o) sends

  string-shown : (x : BrokenString) (front : List Sentence) (a b : DrainState) (outcome : Outcome)
      → ExplainsString padding octets x front a b outcome → TakesShown a b
  string-shown x front a b _ (ExplainsString.not_there unit past same) = same-takes a b same
  string-shown x front a b _ (ExplainsString.no_list error same) = same-takes a b same
  string-shown x front a b _ (ExplainsString.explained opened facts outcome opens are sends) =
      reasons-sent front _ _ _ a b outcome sends

  first-shown : (broken : List BrokenString) (a b : DrainState) (outcome : Outcome)
      → ExplainsFirst padding octets a b broken outcome → TakesShown a b
  first-shown _ a b _ (ExplainsFirst.none unit same) = same-takes a b same
  first-shown _ a b _ (ExplainsFirst.first x xs outcome explains) =
      string-shown x (heading true x) a b outcome explains

  parsing-shown : (text : List ℕ) (broken : List BrokenString) (a b : DrainState) (outcome : Outcome)
      → AreShown text → ExplainsParsing padding octets text broken a b outcome → TakesShown a b
  parsing-shown text broken a b _ shown (ExplainsParsing.not_written fault sends) =
      sends-shown a b text (Err fault) shown sends
  parsing-shown text broken a b _ shown (ExplainsParsing.written between unit outcome sends explains) =
      takes-then a between b (sends-shown a between text (Ok unit) shown sends)
      (first-shown broken between b outcome explains)

  -- after messages
  pub writes-shown : {reads : ℕ} (what : Explained) (a b : DrainState) (outcome : Outcome)
      → WritesReasons reads padding octets a b what outcome → TakesShown a b
  writes-shown _ a b _ (WritesReasons.of_nothing unit same) = same-takes a b same
  writes-shown _ a b _ (WritesReasons.of_octets facts outcome are explains) =
      reasons-sent (first_of false octets facts) _ _ _ a b outcome explains
  writes-shown _ a b _ (WritesReasons.of_string x outcome explains) =
      string-shown x (heading false x) a b outcome explains

-- ---- all that is written with `--why`

pub reasons-shown : ReasonsAreShown
reasons-shown reads closed padding table octets old new _ _ o (ShowsReasons.refused facts outcome are some explains) =
    reasons-sent padding octets o (first_of true octets facts) _ _ _ old new outcome explains
reasons-shown reads closed padding table octets old new _ _ o
    (ShowsReasons.parses facts ber der broken outcome are none b d breaks first f kinds k explains) =
    let line : List ℕ = findings_line ber.message der.message in
    let lines : List ℕ = first_lines most_finding_lines first in
    let sentences : List Sentence = parsing_sentences octets facts kinds in
    parsing-shown padding octets o (sentences_text octets sentences ++ (line ++ lines)) broken old new outcome
    (joined-shown (sentences_text octets sentences) (line ++ lines) (sentences-shown octets sentences o)
    (joined-shown line lines (findings_lines-shown _ _ closed padding table octets ber der b d)
    (lines-shown most_finding_lines [] first refl (first_findings-shown table closed padding octets der.message first f))))
    explains
reasons-shown reads closed padding table octets old new _ _ o (ShowsReasons.no_memory facts are none same) =
    same-takes old new same

-- ---- what is reported

explained-shown : (status : ℕ) (outcome : Outcome) → IsShownReport (explained_report status outcome)
explained-shown status (Ok (Ok unit)) = refl
explained-shown status (Ok (Err fault)) = device_report-shown WriteFailed
explained-shown status (Err error) = input_report-shown input.Memory

pub reasons_report-shown : {reads : ℕ} (closed padding : Bool) (table : NamesValue) (octets : List ℕ) (old new : DrainState)
    (report : ReportValue) (broken : List BrokenString)
    → ShowsReasons reads closed padding table octets old new report broken → IsShownReport report
reasons_report-shown closed padding table octets old new _ _
    (ShowsReasons.refused facts outcome are some explains) = explained-shown 2 outcome
reasons_report-shown closed padding table octets old new _ _
    (ShowsReasons.parses facts ber der broken outcome are none b d breaks first f kinds k explains) =
    explained-shown ber.status outcome
reasons_report-shown closed padding table octets old new _ _ (ShowsReasons.no_memory facts are none same) =
    input_report-shown input.Memory
