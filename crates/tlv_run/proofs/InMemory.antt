-- A job over octets in memory, whatever the reads give of them.
use Rattle.std.proofs.Common.{◌≡◌, ◌≢◌, inl, inr, ℕ, ◌<◌, ◌≤◌, Bool, true}
use Rattle.std.proofs.Common.{false, List, [], ◌∷◌, ◌++◌, length, take}
use Rattle.std.proofs.Common.{refl, sym, ap, ◌∙◌, subst, arith, append-nil, length-append}
use Rattle.std.proofs.lemmas.Bool.{true≢false}
use Rattle.std.proofs.lemmas.List.Elements.{All-take}
use Rattle.std.proofs.lemmas.List.{length-take, nil_from_length, take-append-le, take_all}
use Rattle.std.proofs.Math.Seq.{take-append_seam}
use Rattle.std.specs.Prelude.{Some, Result, Ok, Err, ⊤}
use Rattle.std.specs.Io.KnownBytes.{IsAtEnd}
use Rattle.tlv_walk.proofs.FollowerLemmas.Enough.{comes_to-result, ends_as_octets}
use Rattle.tlv_walk.proofs.GrammarLemmas.Endings.{IsRefused, fault-halt}
use Rattle.tlv_io.proofs.Puts.{more_left}
use Rattle.tlv_io.proofs.Sends.{sends_appends}
use Rattle.tlv_walk.proofs.GrammarLemmas.Readings.{halt-longest, reading-unique}
use Rattle.tlv_head.specs.Limits.{input_limit}
use Rattle.tlv_walk.specs.declared.ending.Ending.{Ending}
use Rattle.tlv_walk.specs.declared.ending.Ending.TheVariants as ending
use Rattle.tlv_walk.specs.declared.framing.Framing.{Framing}
use Rattle.tlv_walk.specs.declared.run.DeviceFault.{DeviceFault}
use Rattle.tlv_walk.specs.declared.run.DeviceFault.TheVariants.{ReadFailed, WriteFailed, InputTooLong}
use Rattle.std.specs.List.{concat}
use Rattle.tlv_io.specs.Device.{DrainState, SourceState, gave, next_count}
use Rattle.tlv_io.specs.Device.{octets_given}
use Rattle.tlv_walk.specs.Ending.{IsEnding, IsFinalEnding}
use Rattle.tlv_walk.specs.Forest.{Forest, spelling}
use Rattle.tlv_walk.specs.Job.{IsSettled, Job, Runs, WantMore, device_states}
use Rattle.tlv_io.specs.Out.{Sends}
use Rattle.tlv_walk.specs.Reading.{AreOctets, IsPrefixOf, IsReading}
use Rattle.tlv_run.proofs.Results.{EnoughStays, command_result, one_made, settled_stays}
use Rattle.tlv_run.specs.RunsOctets.{IsReport, RunsOctets, at_source_end, read_failed, at_settled_result, too_long}
use Rattle.tlv_run.specs.Report.{ReportValue, device_report, result_report}
use Rattle.tlv_run.specs.Results.{CommandResult, IsResult}
use Rattle.tlv_run.specs.RunsAndReports.{RunsAndReports}
use Rattle.tlv_run.proofs.KnownDevices.{at_end, failed_none, gave_none, left_of, prefix_and_rest, take_prefix, taken_of}

-- if the octets are spelled whole, no octet of them is refused
spelled_on : (framing : Framing) (b : List ℕ) (f : Forest) (e : Ending)
    → IsReading framing b f → spelling f ≡ b → IsEnding framing b e → IsFinalEnding e → ⊥
spelled_on framing b f ending.Done r s x final = absurd final
spelled_on framing b f (ending.Fault k) r s x final =
    let y : IsRefused framing b k.code k.offset = fault-halt framing b k.code k.offset final.0 final.1 x in
    let most : length (spelling f) ≤ length (spelling y.forest) =
    halt-longest framing y.forest k.code b y.halt f r.obeys_grammar ([], append-nil (spelling f) ∙ s) in
    omega (
      arith,
      most,
      ap length s,
      ap length y.halt.front,
      length-append (spelling y.forest) (y.halt.octet ∷ y.halt.rest),
    )

module _ (job : Job ReportValue) (stays : EnoughStays job)
    (goes_on : (b c : List ℕ) (f g : Forest) → length (b ++ c) ≤ input_limit
    → IsReading job.framing b f → IsReading job.framing (b ++ c) g → IsPrefixOf (job.text f) (job.text g))
    (octets : List ℕ) (all : AreOctets octets) (read_fails : Bool) where
  abbrev limited_octets : List ℕ
  limited_octets = take input_limit octets

  -- octets that have neither a fault nor enough settle nothing
  want_more-not_settled : (b : List ℕ) (made : CommandResult) → (x : IsResult job b made) → WantMore job b
      → IsSettled job x.reading made.ending → ⊥
  want_more-not_settled b made x s k =
      let same : x.reading ≡ s.0 = reading-unique job.framing b x.reading s.0 x.is_reading s.1.0 in
      let not_enough : job.is_enough x.reading ≡ false = ap job.is_enough same ∙ s.2 in
      elim k [
        | inl enough ↦ true≢false (sym enough ∙ not_enough)
        | inr final ↦
            let ends : IsEnding job.framing b made.ending =
            ends_as_octets job b x.reading made.ending x.ends not_enough in
            spelled_on job.framing b s.0 made.ending s.1.0 s.1.1 ends final
      ]

  module _ (old new : SourceState) (from to : DrainState) (room : ℕ) (written : List ℕ)
      (known : old.left ≡ Some octets) (quiet : old.failures ≡ 0)
      (fails : new.failures ≡ 1 → (read_fails ≡ true) × IsAtEnd new.left)
      (ends : new.failures ≡ 0 → new.last ≡ gave 0 → read_fails ≡ false)
      (empty : from.octets ≡ Some []) (unfailed : from.failures ≡ 0)
      (took : to.octets ≡ Some written) (fits : length written ≤ room)
      (full : to.failures ≡ 1 → length written ≡ room) where
    -- the run comes to what was written and this report
    abbrev Comes : ReportValue → Type 0
    Comes report = RunsOctets job octets read_fails room written report

    -- all was written
    whole : (made : CommandResult) (report : ReportValue) → (x : IsResult job limited_octets made)
        → written ≡ made.output → IsReport job octets read_fails x.reading made.ending report → Comes report
    whole made report x e s = record {
      made = made;
      is_made = x;
      written_is = e ∙ sym (take_all room made.output (omega (arith, fits, ap length e)));
      with_room = λ _. s;
      without_room = λ less. absurd (omega (arith, fits, ap length e, less));
    }

    -- the report of the result
    made_report : (made : CommandResult) (report : ReportValue) (x : IsResult job limited_octets made)
        → made.report ≡ report
        → IsReport job octets read_fails x.reading made.ending (job.returns x.reading made.ending)
        → IsReport job octets read_fails x.reading made.ending report
    made_report made report x same s =
        subst (IsReport job octets read_fails x.reading made.ending)
        (sym x.report_is ∙ same) s

    -- a prefix was written, which fills the room, and there is more
    short : (made : CommandResult) (rest : List ℕ) → (x : IsResult job limited_octets made)
        → made.output ≡ written ++ rest → rest ≢ [] → length written ≡ room → Comes (device_report WriteFailed)
    short made rest x e more n = record {
      made = made;
      is_made = x;
      written_is =
          sym (take-append_seam written rest) ∙ ap (λ (k : ℕ). take k (written ++ rest)) n ∙ ap (take room) (sym e);
      with_room =
          λ fits. absurd (more
          (nil_from_length rest (omega (arith, ap length e, length-append written rest, n, fits))));
      without_room = λ _. refl;
    }

    -- what an empty drain took of a text, all of it
    all_sent : (text : List ℕ) → Sends {T = ⊤} {E = DeviceFault} from to text (Ok tt) → written ≡ text
    all_sent text s = taken_of from.octets to.octets written text empty took (sends_appends from to text tt s)

    one_failure : next_count 0 ≡ 1
    one_failure = refl

    run_ok : (report : ReportValue) → Runs job (device_states old from) (device_states new to) (Ok report)
        → Comes report
    run_ok report x =
        let given : List ℕ = octets_given x.pieces in
        let left = left_of old.left new.left octets given known x.pieces.consumed in
        let k = comes_to-result job input_limit given x.reading new (Ok report) x.comes in
        let e : Ending = k.0 in
        let m : CommandResult = command_result job x.reading e in
        let b : List ℕ = take input_limit given in
        let same : m.report ≡ report = sym k.1 in
        let y : IsResult job b m = record {
          reading = x.reading;
          is_reading = x.is_reading;
          ends = k.2;
          output_is = refl;
          report_is = refl;
        } in
        let sent : written ≡ m.output = all_sent (job.text x.reading) x.sends in
        let prefix = take_prefix input_limit given left.0 in
        let is : limited_octets ≡ b ++ prefix.0 = ap (take input_limit) left.2 ∙ prefix.1 in
        let final : IsSettled job x.reading e → Comes report = λ (z : IsSettled job x.reading e).
        let z =
        settled_stays job stays b prefix.0 m (subst AreOctets is (All-take (λ x. x < 256) input_limit octets all)) y
        z in
        let z' : (z : IsResult job limited_octets m) × IsSettled job z.reading e =
        subst (λ (o : List ℕ). (z : IsResult job o m) × IsSettled job z.reading e) (sym is) z in
        whole m report z'.0 sent (made_report m report z'.0 same (at_settled_result z'.1)) in
        elim k.3 [
          | inl enough ↦ final (inl enough)
          | inr rest ↦ elim rest [
            | inl refused ↦ final (inr refused)
            | inr end ↦
                let none : left.0 ≡ [] = at_end new.left left.0 left.1 end.1 in
                let whole_given : octets ≡ given = left.2 ∙ ap (λ (l : List ℕ). given ++ l) none ∙ append-nil given in
                let last : x.pieces.last ≡ [] = gave_none new.last x.pieces.last end.0 x.pieces.gave_last in
                let few : length octets ≤ input_limit =
                omega (
                  arith,
                  x.within,
                  ap length whole_given,
                  length-append (concat x.pieces.pieces) x.pieces.last,
                  ap length last,
                ) in
                let z : IsResult job limited_octets m =
                subst (λ (o : List ℕ). IsResult job o m) (sym (ap (take input_limit) whole_given)) y in
                whole m report z sent
                (made_report m report z same (at_source_end (ends (x.failures ∙ quiet) end.0) few))
          ]
        ]

    -- of octets that settle nothing, all of them or too many, all was written
    unsettled_all : (f : Forest) (report : ReportValue) → IsReading job.framing limited_octets f
        → WantMore job limited_octets → written ≡ job.text f
        → ((g : Forest) (e : Ending) → (IsSettled job g e → ⊥) → IsReport job octets read_fails g e report)
        → Comes report
    unsettled_all f report r s sent says =
        let one = one_made job limited_octets (All-take (λ x. x < 256) input_limit octets all) in
        let same : f ≡ one.1.reading = reading-unique job.framing limited_octets f one.1.reading r one.1.is_reading in
        whole one.0 report one.1 (sent ∙ ap job.text same ∙ sym one.1.output_is)
        (says one.1.reading one.0.ending (want_more-not_settled limited_octets one.0 one.1 s))

    run_read_failed : Runs job (device_states old from) (device_states new to) (Err ReadFailed)
        → Comes (device_report ReadFailed)
    run_read_failed x =
        let given : List ℕ = octets_given x.pieces in
        let before : List ℕ = concat x.pieces.pieces in
        let left = left_of old.left new.left octets given known x.pieces.consumed in
        let after = fails (x.failures ∙ ap next_count quiet ∙ one_failure) in
        let none : left.0 ≡ [] = at_end new.left left.0 left.1 after.1 in
        let last : x.pieces.last ≡ [] =
        failed_none new.last x.pieces.last
        (comes_to-result job input_limit given x.reading new (Err ReadFailed) x.comes) x.pieces.gave_last in
        let given_before : given ≡ before = ap (λ (l : List ℕ). before ++ l) last ∙ append-nil before in
        let is_given : octets ≡ given = left.2 ∙ ap (λ (l : List ℕ). given ++ l) none ∙ append-nil given in
        let few : length octets ≤ input_limit = omega (arith, x.within, ap length is_given, ap length given_before) in
        let limited_is : limited_octets ≡ before = take_all input_limit octets few ∙ is_given ∙ given_before in
        unsettled_all x.reading (device_report ReadFailed)
        (subst (λ (o : List ℕ). IsReading job.framing (take input_limit o) x.reading) (sym is_given) x.is_reading)
        (subst (WantMore job) (sym limited_is) x.wants_more)
        (all_sent (job.text x.reading) x.sends)
        (λ (g : Forest) e apart. read_failed apart after.0 few)

    run_long : Runs job (device_states old from) (device_states new to) (Err InputTooLong)
        → Comes (device_report InputTooLong)
    run_long x =
        let given : List ℕ = octets_given x.pieces in
        let left = left_of old.left new.left octets given known x.pieces.consumed in
        let k = comes_to-result job input_limit given x.reading new (Err InputTooLong) x.comes in
        let many : input_limit < length given = k.0 in
        let is : limited_octets ≡ take input_limit given =
        ap (take input_limit) left.2 ∙ take-append-le input_limit given left.0 (omega (arith, many)) in
        let more : input_limit < length octets = omega (arith, many, ap length left.2, length-append given left.0) in
        unsettled_all x.reading (device_report InputTooLong)
        (subst (λ (o : List ℕ). IsReading job.framing o x.reading) (sym is) x.is_reading)
        (subst (WantMore job) (sym is) k.1)
        (all_sent (job.text x.reading) x.sends)
        (λ (g : Forest) e apart. too_long apart more)

    run_short : Runs job (device_states old from) (device_states new to) (Err WriteFailed)
        → Comes (device_report WriteFailed)
    run_short x =
        let given : List ℕ = octets_given x.pieces in
        let left = left_of old.left new.left octets given known x.pieces.consumed in
        let b : List ℕ = take input_limit given in
        let prefix = take_prefix input_limit given left.0 in
        let is : limited_octets ≡ b ++ prefix.0 = ap (take input_limit) left.2 ∙ prefix.1 in
        let one = one_made job limited_octets (All-take (λ x. x < 256) input_limit octets all) in
        let few : length (b ++ prefix.0) ≤ input_limit = omega (arith, length-take input_limit octets, ap length is) in
        let reads : IsReading job.framing (b ++ prefix.0) one.1.reading =
        subst (λ (o : List ℕ). IsReading job.framing o one.1.reading) is one.1.is_reading in
        let on = goes_on b prefix.0 x.reading one.1.reading few x.is_reading reads in
        let sent : written ≡ x.sends.sent =
        taken_of from.octets to.octets written x.sends.sent empty took x.sends.took in
        let text : job.text x.reading ++ on.0 ≡ one.0.output =
        on.1 ∙ sym one.1.output_is in
        let output : one.0.output ≡ written ++ (x.sends.left ++ on.0) =
        prefix_and_rest written x.sends.sent x.sends.left (job.text x.reading) on.0 one.0.output sent x.sends.prefix
        text in
        short one.0 (x.sends.left ++ on.0) one.1 output (more_left x.sends.left on.0 x.sends.lost)
        (full (x.sends.failures ∙ ap next_count unfailed ∙ one_failure))

    run_in : (result : Result ReportValue DeviceFault)
        → Runs job (device_states old from) (device_states new to) result
        → Comes (result_report result)
    run_in (Ok report) x = run_ok report x
    run_in (Err ReadFailed) x = run_read_failed x
    run_in (Err WriteFailed) x = run_short x
    run_in (Err InputTooLong) x = run_long x

    pub runs_octets : (report : ReportValue)
        → RunsAndReports job (device_states old from) (device_states new to) report → Comes report
    runs_octets report x = subst Comes (sym x.report_is) (run_in x.result x.runs)
