-- What runs over octets in memory come to if a read fails after the octets, or if there is little room, shown of the
-- definition: each run for which `RunsOctets` holds wrote the octets of its row, and reported what the row says.
use Rattle.std.proofs.Common.{◌≡◌, inl, inr, ℕ, ◌<◌, ◌≤◌, Bool, true, false, List, [], ◌∷◌, None, codes, length, take}
use Rattle.std.proofs.Common.{refl, sym, ap, ◌∙◌, subst, arith, ⊎_elim}
use Rattle.std.proofs.Math.Dec.{leb, ltb}
use Rattle.std.proofs.lemmas.Bool.{leb-true, ltb-true}
use Rattle.std.proofs.lemmas.List.Elements.{All-cons}
use Rattle.std.specs.Fmt.{digits}
use Rattle.std.specs.FinMap as finite
use Rattle.std.specs.List.{list_all}
use Rattle.std.specs.Prelude.{◌&&◌}
use Rattle.tlv_head.specs.Limits.{input_limit}
use Rattle.tlv_head.specs.declared.fault.FaultCode.TheVariants.{Overrun, Short}
use Rattle.tlv_show.specs.declared.rules.Rules.TheVariants.{Ber, Der}
use Rattle.tlv_walk.proofs.GrammarLemmas.Readings.{is-reading, reading, reading-unique}
use Rattle.tlv_walk.specs.declared.ending.Ending.{Ending}
use Rattle.tlv_walk.specs.declared.run.DeviceFault.TheVariants.{ReadFailed, WriteFailed}
use Rattle.tlv_walk.specs.Ending.{IsFinalEnding}
use Rattle.tlv_walk.specs.Forest.{Forest}
use Rattle.tlv_walk.specs.Framing.{plain_framing}
use Rattle.tlv_walk.specs.Job.{IsSettled, Job}
use Rattle.tlv_walk.specs.Reading.{AreOctets, IsReading}
use Rattle.tlv_run.proofs.Results.{is_result, makes_unique}
use Rattle.tlv_rows.proofs.Words.Octets.{lines, octets}
use Rattle.tlv_rows.proofs.Words.Runs.{check, clean_result, dump, extract, fault_result, result}
use Rattle.tlv_run.specs.declared.command.Command.{Command}
use Rattle.tlv_run.specs.RunsOctets.{IsReport, RunsOctets, at_source_end, read_failed, at_settled_result, too_long}
use Rattle.tlv_run.specs.Report.{ReportValue, device_report, report_with}
use Rattle.tlv_run.specs.Results.{CommandResult, IsResult, command_job}

-- ---- octets

both-true : (s t : Bool) → (s && t) ≡ true → (s ≡ true) × (t ≡ true)
both-true true t e = (refl, e)
both-true false t e = absurd (cc (e))

are-octets : (b : List ℕ) → list_all (λ x. ltb x 256) b ≡ true → AreOctets b
are-octets [] e = λ k d less. absurd (omega arith)
are-octets (x ∷ xs) e =
    let p = both-true (ltb x 256) (list_all (λ y. ltb y 256) xs) e in
    All-cons (λ y. y < 256) x xs (ltb-true x 256 p.0) (are-octets xs p.1)

-- ---- runs

abbrev job_of : Command → Job ReportValue
job_of command = command_job command finite.empty

-- a run over these octets, after which a read fails or the input ends, into so much room: what is written and reported
abbrev Writes : Command → List ℕ → Bool → ℕ → List ℕ → ReportValue → Type 0
Writes command b fails room written report =
    (w : List ℕ) (r : ReportValue) → RunsOctets (job_of command) b fails room w r
    → (w ≡ written) × (r ≡ report)

module _ (command : Command) (b : List ℕ) where
  abbrev job : Job ReportValue
  job = job_of command

  abbrev Makes : CommandResult → Type 0
  Makes = IsResult job (take input_limit b)

  ended-at : (f : Forest) (e : Ending) (r : ReportValue) → length b ≤ input_limit
      → IsReport job b false f e r → r ≡ job.returns f e
  ended-at f e r few (at_settled_result s) = refl
  ended-at f e r few (at_source_end t l) = refl
  ended-at f e r few (read_failed n t l) = absurd (cc (t))
  ended-at f e r few (too_long n less) = absurd (omega arith)

  settled-at : (fails : Bool) (f : Forest) (e : Ending) (r : ReportValue) → IsSettled job f e
      → IsReport job b fails f e r → r ≡ job.returns f e
  settled-at fails f e r s (at_settled_result t) = refl
  settled-at fails f e r s (at_source_end t l) = refl
  settled-at fails f e r s (read_failed n t l) = absurd (n s)
  settled-at fails f e r s (too_long n less) = absurd (n s)

  read-failed-at : (f : Forest) (e : Ending) (r : ReportValue) → length b ≤ input_limit
      → (IsSettled job f e → ⊥) → IsReport job b true f e r → r ≡ device_report ReadFailed
  read-failed-at f e r few n (at_settled_result s) = absurd (n s)
  read-failed-at f e r few n (at_source_end t l) = absurd (cc (t))
  read-failed-at f e r few n (read_failed m t l) = refl
  read-failed-at f e r few n (too_long m less) = absurd (omega arith)

  -- the octets are below 256, and no more than are read; and what is made of them
  module _ (m : CommandResult) (small : list_all (λ x. ltb x 256) b ≡ true) (whole : take input_limit b ≡ b)
      (few : leb (length b) input_limit ≡ true)
      (row : result command b ≡ m) where
    are : AreOctets b
    are = are-octets b small

    is-made : (made : CommandResult) → Makes made → made ≡ m
    is-made made y =
        makes_unique job b made (result command b) (subst (λ (o : List ℕ). IsResult job o made) whole y)
        (is_result job b are)
        ∙ row

    -- what the job reports of the reading and the ending
    report-is : (made : CommandResult) (y : Makes made) → job.returns y.reading made.ending ≡ m.report
    report-is made y =
        sym y.report_is ∙ ap (λ (n : CommandResult). n.report) (is-made made y)

    output-is : (fails : Bool) (room : ℕ) (w : List ℕ) (r : ReportValue)
        (x : RunsOctets job b fails room w r)
        → w ≡ take room m.output
    output-is fails room w r x =
        x.written_is ∙ ap (λ (n : CommandResult). take room n.output) (is-made x.made x.is_made)

    -- there is less room than the output needs
    little-room : (fails : Bool) (room : ℕ) → ltb room (length m.output) ≡ true
        → Writes command b fails room (take room m.output) (device_report WriteFailed)
    little-room fails room less w r x = (
      output-is fails room w r x,
      x.without_room
          (subst (λ (n : CommandResult). room < length n.output) (sym (is-made x.made x.is_made))
          (ltb-true room (length m.output) less)),
    )

    module _ (room : ℕ) (fits : leb (length m.output) room ≡ true) where
      report-of : (fails : Bool) (w : List ℕ) (r : ReportValue)
          (x : RunsOctets job b fails room w r)
          → IsReport job b fails x.is_made.reading x.made.ending r
      report-of fails w r x =
          x.with_room
          (subst (λ (n : CommandResult). length n.output ≤ room) (sym (is-made x.made x.is_made))
          (leb-true (length m.output) room fits))

      -- the input ends with the octets
      to-end : Writes command b false room (take room m.output) m.report
      to-end w r x = (
        output-is false room w r x,
        ended-at x.is_made.reading x.made.ending r (leb-true (length b) input_limit few) (report-of false w r x)
            ∙ report-is x.made x.is_made,
      )

      -- a read fails, and more octets could count
      to-failure : ((f : Forest) → IsSettled job f m.ending → ⊥)
          → Writes command b true room (take room m.output) (device_report ReadFailed)
      to-failure open_ w r x = (
        output-is true room w r x,
        read-failed-at x.is_made.reading x.made.ending r (leb-true (length b) input_limit few)
            (λ s. open_ x.is_made.reading
            (subst (λ (n : CommandResult). IsSettled job x.is_made.reading n.ending) (is-made x.made x.is_made) s))
            (report-of true w r x),
      )

      -- a read fails, and no more octets could count
      to-fault : IsFinalEnding m.ending → Writes command b true room (take room m.output) m.report
      to-fault final w r x = (
        output-is true room w r x,
        settled-at true x.is_made.reading x.made.ending r
            (inr (subst (λ (n : CommandResult). IsFinalEnding n.ending) (sym (is-made x.made x.is_made)) final))
            (report-of true w r x)
            ∙ report-is x.made x.is_made,
      )

      -- a read fails, and nothing more was wanted
      to-enough : job.is_enough (reading job.framing b) ≡ true
          → Writes command b true room (take room m.output) m.report
      to-enough enough w r x =
          let read = subst (λ (o : List ℕ). IsReading job.framing o x.is_made.reading) whole x.is_made.is_reading in
          let same =
          reading-unique job.framing b (reading job.framing b) x.is_made.reading (is-reading job.framing b are)
          read in (
            output-is true room w r x,
            settled-at true x.is_made.reading x.made.ending r
                (inl (subst (λ (f : Forest). job.is_enough f ≡ true) same enough)) (report-of true w r x)
                ∙ report-is x.made x.is_made,
          )

-- more octets could count: a job that never has enough, at an ending that is not final
open-yet : (command : Command) (m : CommandResult)
    → ((f : Forest) → (job_of command).is_enough f ≡ true → ⊥) → (IsFinalEnding m.ending → ⊥)
    → (f : Forest) → IsSettled (job_of command) f m.ending → ⊥
open-yet command m never unfinished f = ⊎_elim (never f) unfinished

-- ---- rows

abbrev plain_dump : Command
plain_dump = dump Ber None false plain_framing

never-enough : (f : Forest) → (job_of plain_dump).is_enough f ≡ true → ⊥
never-enough f e = absurd (cc (e))

abbrev read_failed_report : ReportValue
read_failed_report = report_with 3 (codes "E1 read failed")

abbrev write_failed_report : ReportValue
write_failed_report = report_with 3 (codes "E2 write failed")

-- a NULL has a line of 22 octets
abbrev null_element : List ℕ
null_element = octets "05 00"

abbrev null_lines : List ℕ
null_lines = lines ("       0      0: NULL" ∷ [])

null-made : result plain_dump null_element ≡ clean_result null_lines
unfolding digits
null-made = refl

-- the input ends: just enough room
null-1 : Writes plain_dump null_element false 22 null_lines (report_with 0 [])
null-1 = to-end plain_dump null_element (clean_result null_lines) refl refl refl null-made 22 refl

-- the same with more room
null-2 : Writes plain_dump null_element false 1000 null_lines (report_with 0 [])
null-2 = to-end plain_dump null_element (clean_result null_lines) refl refl refl null-made 1000 refl

-- a read fails: the line was written before
null-3 : Writes plain_dump null_element true 22 null_lines read_failed_report
null-3 =
    to-failure plain_dump null_element (clean_result null_lines) refl refl refl null-made 22 refl
    (open-yet plain_dump (clean_result null_lines) never-enough (λ final. final))

-- an octet too little room, whatever comes after the octets
null-4 : (fails : Bool) → Writes plain_dump null_element fails 21 (codes "       0      0: NULL") write_failed_report
null-4 fails = little-room plain_dump null_element (clean_result null_lines) refl refl refl null-made fails 21 refl

-- no room
null-5 : (fails : Bool) → Writes plain_dump null_element fails 0 [] write_failed_report
null-5 fails = little-room plain_dump null_element (clean_result null_lines) refl refl refl null-made fails 0 refl

-- an unfinished header in a SEQUENCE, whose line has 28 octets
abbrev unfinished : List ℕ
unfinished = octets "30 03 02"

abbrev sequence_line : List ℕ
sequence_line = lines ("       0      3: SEQUENCE {" ∷ [])

abbrev unfinished_result : CommandResult
unfinished_result = fault_result 0 Short 3 "fault at 3: F02 input ends inside an encoding" sequence_line

unfinished-made : result plain_dump unfinished ≡ unfinished_result
unfolding digits
unfinished-made = refl

-- the input ends
unfinished-1 : Writes plain_dump unfinished false 28 sequence_line
    (report_with 2 (codes "fault at 3: F02 input ends inside an encoding"))
unfinished-1 = to-end plain_dump unfinished unfinished_result refl refl refl unfinished-made 28 refl

-- a read fails: it is not known what the input would have come to
unfinished-2 : Writes plain_dump unfinished true 28 sequence_line read_failed_report
unfinished-2 =
    to-failure plain_dump unfinished unfinished_result refl refl refl unfinished-made 28 refl
    (open-yet plain_dump unfinished_result never-enough (λ final. final.1 refl))

-- contents that end beyond the bound: the fifth octet is not looked at
abbrev overrun : List ℕ
overrun = octets "30 03 02 02 01"

abbrev overrun_message : List ℕ
overrun_message = codes "fault at 3: F11 element runs past the enclosing length"

abbrev overrun_result : CommandResult
overrun_result = fault_result 0 Overrun 3 "fault at 3: F11 element runs past the enclosing length" sequence_line

overrun-made : result plain_dump overrun ≡ overrun_result
unfolding digits
overrun-made = refl

-- a read would fail, and is not made
overrun-1 : Writes plain_dump overrun true 28 sequence_line (report_with 2 overrun_message)
overrun-1 =
    to-fault plain_dump overrun overrun_result refl refl refl overrun-made 28 refl
    ((λ e. absurd (cc (e))), (λ e. absurd (cc (e))))

-- the line before the fault finds no room: the failed write takes precedence
overrun-2 : (fails : Bool) → Writes plain_dump overrun fails 9 (codes "       0 ") write_failed_report
overrun-2 fails =
    little-room plain_dump overrun overrun_result refl refl refl overrun-made fails 9 refl

-- findings are listed as soon as their octets come; a read fails after them, and none is counted
abbrev der_check : Command
der_check = check Der plain_framing

abbrev indefinite : List ℕ
indefinite = octets "30 80"

abbrev indefinite_lines : List ℕ
indefinite_lines = lines ("0 D01 indefinite length" ∷ [])

abbrev indefinite_result : CommandResult
indefinite_result = fault_result 1 Short 2 "fault at 2: F02 input ends inside an encoding" indefinite_lines

indefinite-made : result der_check indefinite ≡ indefinite_result
unfolding digits
indefinite-made = refl

indefinite-1 : Writes der_check indefinite true 24 indefinite_lines read_failed_report
indefinite-1 =
    to-failure der_check indefinite indefinite_result refl refl refl indefinite-made 24 refl
    (open-yet der_check indefinite_result (λ f e. absurd (cc (e))) (λ final. final.1 refl))

-- an element that was extracted, whatever follows it
abbrev first_element : Command
first_element = extract 0 false plain_framing

abbrev null_and_more : List ℕ
null_and_more = octets "05 00 ff"

null_and_more-made : result first_element null_and_more ≡ clean_result (octets "05 00")
null_and_more-made = refl

null_and_more-1 : Writes first_element null_and_more true 2 (octets "05 00") (report_with 0 [])
null_and_more-1 =
    to-enough first_element null_and_more (clean_result (octets "05 00")) refl refl refl null_and_more-made 2 refl refl
