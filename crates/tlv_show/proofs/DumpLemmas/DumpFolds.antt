-- A dump shows its text, and counts its findings.
use Rattle.std.proofs.Common.{◌≡◌, ℕ, ◌^◌, ◌≤◌, List, [], ◌∷◌, length, refl, ap, ◌∙◌, arith, length-append}
use Rattle.std.specs.FinMap as finite
use Rattle.std.specs.Prelude.{Bool, None}
use Rattle.tlv_value.specs.Names.{NamesValue}
use Rattle.tlv_walk.specs.declared.follow.Go.{Go}
use Rattle.tlv_walk.specs.Events.{Begin, Bytes, Close, End, Enter, EventValue, Leave, Open, Pad, Unused, events}
use Rattle.tlv_walk.specs.Follow.{Effect, effect_if_more, effect_of}
use Rattle.tlv_walk.specs.Forest.{Forest, NoMore, spelling}
use Rattle.tlv_walk.specs.Place.{top_place}
use Rattle.tlv_walk.specs.Reading.{IsReading}
use Rattle.tlv_show.specs.FinderState.{new_seen}
use Rattle.tlv_show.proofs.SegmentLemmas.Seen.{top-seen}
use Rattle.tlv_show.specs.declared.options.Options.{Options}
use Rattle.tlv_show.specs.declared.scope.Scope.{Scope}
use Rattle.tlv_show.specs.ShowJob.{top_layout}
use Rattle.tlv_show.specs.WantedJobs.{dump_job_with, wanted_in}
use Rattle.tlv_show.specs.DumpStep.{DumpState, dump_step, new_dump_with}
use Rattle.tlv_show.specs.FinderState.{CheckState}
use Rattle.tlv_show.specs.NestingState.{top_frame}
use Rattle.tlv_show.proofs.FindingLemmas.FinderStep.{finder_step}
use Rattle.tlv_show.specs.Texts.{finding_count}
use Rattle.tlv_show.specs.WantedJobs.{item_text_with}
use Rattle.tlv_show.specs.ShownFindings.{wanted_findings}
use Rattle.tlv_show.proofs.FindingLemmas.CheckFolds.{count-run}
use Rattle.tlv_show.proofs.DumpLemmas.DumpShown.{shows_forest}
use Rattle.tlv_show.proofs.DumpLemmas.DumpSteps.{all_on, each-filled, each-shown, one_on}
use Rattle.tlv_show.proofs.FindingLemmas.FinderSteps.{run_finder}
use Rattle.tlv_show.proofs.DumpLemmas.ShowJob.{Shower}

-- the finder of a dump goes by the events alone
finder-by : (s : DumpState) (e : EventValue) → (dump_step s e).state.finder ≡ (finder_step s.finder e).kept
finder-by s (Open h) = refl
finder-by s (Begin h) = refl
finder-by s (Bytes octets) = ap (λ (t : Effect DumpState). t.state.finder) (each-shown s octets)
finder-by s End = refl
finder-by s (Close offset) = refl
finder-by s (Enter h) = refl
finder-by s Unused = refl
finder-by s Leave = refl
finder-by s (Pad octets) = ap (λ (t : Effect DumpState). t.state.finder) (each-filled s octets)

finder-run : (s : DumpState) (es : List EventValue)
    → (effect_of dump_step s es).state.finder ≡ (run_finder s.finder es).state
finder-run s [] = refl
finder-run s (e ∷ es) =
    ap (λ (g : Go). (effect_if_more g (dump_step s e) (λ u. effect_of dump_step u es)).state.finder) (one_on s e)
    ∙ finder-run (dump_step s e).state es
    ∙ ap (λ (u : CheckState). (run_finder u es).state) (finder-by s e)

module _ (scope : Scope) (with_text : Bool) (options : Options) (names : NamesValue) (octets : List ℕ) (f : Forest) (short : length octets ≤ 2 ^ 40)
    (r : IsReading options.framing octets f) where
  pub text-made : (effect_of dump_step (new_dump_with with_text (wanted_in scope options) (top_layout options) names) (events f)).put
      ≡ (dump_job_with scope with_text options names).text f
  text-made =
      (shows_forest with_text (top_layout options) names (wanted_in scope options) (top_place options.framing) None NoMore top_frame [] f
      r.obeys_grammar (omega (arith, short, ap length r.is_prefix.1, length-append (spelling f) r.is_prefix.0))
      (refl, refl, λ e. refl)).text (record { count = 0; seen = new_seen }) (top-seen (wanted_in scope options))

  pub count-made : (effect_of dump_step (new_dump_with with_text (wanted_in scope options) (top_layout options) names)
      (events f)).state.finder.finding_count
      ≡ finding_count (wanted_findings (wanted_in scope options)) f
  count-made =
      ap (λ (u : CheckState). u.finding_count)
      (finder-run (new_dump_with with_text (wanted_in scope options) (top_layout options) names) (events f))
      ∙ count-run (wanted_in scope options) options.framing octets f short r

pub dump-shows : (scope : Scope) (with_text : Bool) (options : Options) (names : NamesValue)
    → Shower dump_step (new_dump_with with_text (wanted_in scope options) (top_layout options) names) (wanted_in scope options) options.framing
    (item_text_with with_text (finite.get names) (top_layout options)) (λ (s : DumpState). s.finder.finding_count)
dump-shows scope with_text options names = record {
  goes_on = all_on;
  put = λ octets f few r. text-made scope with_text options names octets f few r;
  counts = λ octets f few r. count-made scope with_text options names octets f few r;
}
