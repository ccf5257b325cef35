-- What jobs, and commands, make of inputs.
use Rattle.std.proofs.Common.{◌≡◌, inl, inr, ℕ, ◌≤◌, Bool, true, false, List, ◌++◌, length, refl, sym, ap, ◌∙◌}
use Rattle.std.proofs.Common.{subst}
use Rattle.std.proofs.lemmas.Bool.{true≢false}
use Rattle.tlv_run.proofs.ExtractLemmas.LongerInputs.{extract_text_goes_on, same_extract_text, same_found, same_whole}
use Rattle.tlv_run.proofs.IndefLemmas.LongerInputs.{indef_text_goes_on}
use Rattle.tlv_run.proofs.IndefLemmas.SecondReading.{indef_text_is_done, indef_text_is_read_back}
use Rattle.tlv_run.specs.Indef.{indef_framing, indef_reading, indef_text}
use Rattle.tlv_show.proofs.DumpLemmas.LongerInputs.{listed-checks_on, listed-dumps_on}
use Rattle.tlv_value.specs.Names.{NamesValue}
use Rattle.tlv_walk.proofs.FollowerLemmas.Enough.{ends_as_octets, ends_done, ends_without}
use Rattle.tlv_walk.proofs.GrammarLemmas.Endings.{ending, is-ending}
use Rattle.tlv_walk.proofs.GrammarLemmas.Readings.{is-reading, reading, reading-unique}
use Rattle.tlv_walk.proofs.GrammarLemmas.OneEnding.{ending-unique, refused-for-good}
use Rattle.tlv_head.specs.Limits.{input_limit}
use Rattle.tlv_walk.specs.declared.ending.Ending.{Ending}
use Rattle.tlv_walk.specs.declared.ending.Ending.TheVariants as ending
use Rattle.tlv_walk.specs.declared.framing.Framing.{Framing}
use Rattle.tlv_walk.specs.Ending.{IsEnding, IsFinalEnding}
use Rattle.tlv_walk.specs.Forest.{Forest}
use Rattle.tlv_walk.specs.Job.{EndsWith, IsSettled, Job, with_enough, without_enough}
use Rattle.tlv_walk.specs.Reading.{AreOctets, IsPrefixOf, IsReading}
use Rattle.tlv_run.specs.Laws.{InputsHaveOneResult, OutputsGoOn, SecondIndefIsTheFirst, SettledResultsStay}
use Rattle.tlv_run.specs.Report.{ReportValue, cut_report, indef_report}
use Rattle.tlv_run.specs.Results.{CommandResult, IsResult, command_job}
use Rattle.tlv_run.specs.declared.command.Command.{Command}
use Rattle.tlv_run.specs.declared.command.Command.TheVariants.{Check, Dump, Extract, Indef}

-- ---- endings

-- the ending, computed: by whether there is enough
abbrev pub end_of : Framing → List ℕ → Bool → Ending
end_of framing b true = ending.Done
end_of framing b false = ending framing b

module _ (job : Job ReportValue) where
  is_end : (b : List ℕ) → AreOctets b → (f : Forest) → EndsWith job b f (end_of job.framing b (job.is_enough f))
  is_end b octets f = by (job.is_enough f) refl
    where
      by : (k : Bool) → job.is_enough f ≡ k → EndsWith job b f (end_of job.framing b k)
      by true is = with_enough is
      by false is = ends_without job b f (ending job.framing b) is (is-ending job.framing b octets)

  end_unique : (b : List ℕ) (f : Forest) (e d : Ending) → EndsWith job b f e → EndsWith job b f d → e ≡ d
  end_unique b f e d (with_enough i) (with_enough j) = refl
  end_unique b f e d (with_enough i) (without_enough _ j y) = absurd (true≢false (sym i ∙ j))
  end_unique b f e d (without_enough _ i x) (with_enough j) = absurd (true≢false (sym j ∙ i))
  end_unique b f e d (without_enough _ i x) (without_enough _ j y) =
      ending-unique job.framing b e d x.is_ending y.is_ending

  -- an octet that is refused is so whatever follows
  final_stays : (b c : List ℕ) (f : Forest) (e : Ending) → IsFinalEnding e
      → IsReading job.framing b f → EndsWith job b f e
      → IsReading job.framing (b ++ c) f × EndsWith job (b ++ c) f e
  final_stays b c f e final r (with_enough i) = absurd final
  final_stays b c f ending.Done final r (without_enough _ i x) = absurd final
  final_stays b c f (ending.Fault k) final r (without_enough _ i x) =
      let both = refused-for-good job.framing b c k.code k.offset f final.0 final.1 x.is_ending r in
      (both.0, ends_without job (b ++ c) f (ending.Fault k) i both.1)

-- ---- any job

abbrev result_of_parts : List ℕ → Ending → ReportValue → CommandResult
result_of_parts t e report = record { output = t; ending = e; report = report }

-- the result, given the elements of the input and its ending
abbrev pub command_result : Job ReportValue → Forest → Ending → CommandResult
command_result job f e = result_of_parts (job.text f) e (job.returns f e)

module _ (job : Job ReportValue) where
  -- a result is made of the reading and the ending
  made_is : (b : List ℕ) (m : CommandResult) → (x : IsResult job b m) → m ≡ command_result job x.reading m.ending
  made_is b m x =
      ap (λ (t : List ℕ). result_of_parts t m.ending m.report) x.output_is
      ∙ ap (result_of_parts (job.text x.reading) m.ending) x.report_is

  -- octets have one result at most
  pub makes_unique : (b : List ℕ) (m n : CommandResult) → IsResult job b m → IsResult job b n → m ≡ n
  makes_unique b m n x y =
      let same : x.reading ≡ y.reading = reading-unique job.framing b x.reading y.reading x.is_reading y.is_reading in
      let here : EndsWith job b y.reading m.ending =
      subst (λ (f : Forest). EndsWith job b f m.ending) same x.ends in
      let end : m.ending ≡ n.ending = end_unique job b y.reading m.ending n.ending here y.ends in
      made_is b m x ∙ ap (λ (f : Forest). command_result job f m.ending) same ∙ ap (command_result job y.reading) end
      ∙ sym (made_is b n y)

  -- the result, computed
  abbrev pub result_of : List ℕ → CommandResult
  result_of b = let f = reading job.framing b in command_result job f (end_of job.framing b (job.is_enough f))

  pub is_result : (b : List ℕ) → AreOctets b → IsResult job b (result_of b)
  is_result b octets =
      let f : Forest = reading job.framing b in
      record {
        reading = f;
        is_reading = is-reading job.framing b octets;
        ends = is_end job b octets f;
        output_is = refl;
        report_is = refl;
      }

  pub one_made : (b : List ℕ) → AreOctets b
      → (made : CommandResult) × IsResult job b made
      × ((other : CommandResult) → IsResult job b other → other ≡ made)
  one_made b octets =
      let x = is_result b octets in
      (result_of b, x, λ (other : CommandResult) y. makes_unique b other (result_of b) y x)

  -- if nothing more is wanted, the same is made of every longer input
  abbrev pub EnoughStays : Type 0
  EnoughStays = (b c : List ℕ) (f g : Forest) → IsReading job.framing b f → IsReading job.framing (b ++ c) g
      → job.is_enough f ≡ true
      → (job.is_enough g ≡ true) × (job.text g ≡ job.text f) × ((e : Ending) → job.returns g e ≡ job.returns f e)

  pub settled_stays : EnoughStays → (b c : List ℕ) (made : CommandResult) → AreOctets (b ++ c)
      → (x : IsResult job b made) → IsSettled job x.reading made.ending
      → (y : IsResult job (b ++ c) made) × IsSettled job y.reading made.ending
  settled_stays stays b c made octets x s = elim s [
    | inl enough ↦
        let g : Forest = reading job.framing (b ++ c) in
        let r : IsReading job.framing (b ++ c) g = is-reading job.framing (b ++ c) octets in
        let all = stays b c x.reading g x.is_reading r enough in
        let done : made.ending ≡ ending.Done = ends_done job b x.reading made.ending x.ends enough in (
          record {
            reading = g;
            is_reading = r;
            ends = subst (EndsWith job (b ++ c) g) (sym done) (with_enough all.0);
            output_is = x.output_is ∙ sym all.1;
            report_is = x.report_is ∙ sym (all.2 made.ending);
          },
          inl all.0,
        )
    | inr final ↦
        let both = final_stays job b c x.reading made.ending final x.is_reading x.ends in (
          record {
            reading = x.reading;
            is_reading = both.0;
            ends = both.1;
            output_is = x.output_is;
            report_is = x.report_is;
          },
          inr final,
        )
  ]

-- ---- commands

pub inputs_have_one_result : InputsHaveOneResult
inputs_have_one_result command names = one_made (command_job command names)

pub stays_for : (command : Command) (names : NamesValue) → EnoughStays (command_job command names)
stays_for (Dump options names_file file) names b c f g r s e = absurd (true≢false (sym e))
stays_for (Check rules framing file) names b c f g r s e = absurd (true≢false (sym e))
stays_for (Extract offset contents framing file) names b c f g r s e = (
  same_whole framing b c f g r s offset contents e ∙ e,
  same_extract_text framing b c f g r s offset contents e,
  λ (d : Ending). ap (λ (k : Bool). cut_report offset (record { ending = d; found = k }))
      (same_found framing b c f g r s offset contents e),
)
stays_for (Indef padding file) names b c f g r s e = absurd (true≢false (sym e))

pub settled_results : SettledResultsStay
settled_results command names b c made octets x s =
    (settled_stays (command_job command names) (stays_for command names) b c made octets x s).0

pub text_on : (command : Command) (names : NamesValue) (b c : List ℕ) (f g : Forest)
    → length (b ++ c) ≤ input_limit
    → IsReading (command_job command names).framing b f → IsReading (command_job command names).framing (b ++ c) g
    → IsPrefixOf ((command_job command names).text f) ((command_job command names).text g)
text_on (Dump options names_file file) names b c f g few r s = listed-dumps_on options names b c f g few r s
text_on (Check rules framing file) names b c f g few r s = listed-checks_on rules framing b c f g few r s
text_on (Extract offset contents framing file) names b c f g few r s =
    extract_text_goes_on framing b c f g r s offset contents
text_on (Indef padding file) names b c f g few r s = indef_text_goes_on padding b c f g r s

pub outputs_on : OutputsGoOn
outputs_on command names b c made more few x y =
    let prefix = text_on command names b c x.reading y.reading few x.is_reading y.is_reading in
    (prefix.0, ap (λ (l : List ℕ). l ++ prefix.0) x.output_is ∙ prefix.1 ∙ sym y.output_is)

pub second_indef : SecondIndefIsTheFirst
second_indef padding file names b m n x y =
    let job : Job ReportValue = command_job (Indef padding file) names in
    let first : m.output ≡ indef_text x.reading = x.output_is in
    let again = indef_text_is_read_back padding b x.reading x.is_reading in
    let z : IsReading (indef_framing padding) (indef_text x.reading) y.reading =
    subst (λ (o : List ℕ). IsReading (indef_framing padding) o y.reading) first y.is_reading in
    let same : y.reading ≡ indef_reading x.reading =
    reading-unique (indef_framing padding) (indef_text x.reading) y.reading (indef_reading x.reading) z again.is_reading
    in
    let output : n.output ≡ m.output =
    y.output_is ∙ ap indef_text same ∙ again.same_again ∙ sym first in (
      output,
      λ (done : m.ending ≡ ending.Done).
          let e : IsEnding (indef_framing padding) b ending.Done =
          subst (IsEnding (indef_framing padding) b) done
          (ends_as_octets job b x.reading m.ending x.ends refl) in
          let d : IsEnding (indef_framing padding) (indef_text x.reading) ending.Done =
          indef_text_is_done padding b x.reading x.is_reading e in
          let d' : IsEnding (indef_framing padding) (indef_text x.reading) n.ending =
          subst (λ (o : List ℕ). IsEnding (indef_framing padding) o n.ending) first
          (ends_as_octets job m.output y.reading n.ending y.ends refl) in
          let end : n.ending ≡ m.ending =
          ending-unique (indef_framing padding) (indef_text x.reading) n.ending ending.Done d' d ∙ sym done in
          made_is job m.output n y ∙ ap (λ (e : Ending). command_result job y.reading e) end
          ∙ ap (λ (o : List ℕ). result_of_parts o m.ending (indef_report m.ending))
          (ap indef_text same ∙ again.same_again)
          ∙ sym (made_is job b m x),
    )
