-- The text of a longer input goes on from that of the shorter.
use Rattle.std.proofs.Common.{◌≡◌, ℕ, ◌^◌, ◌≤◌, false, List, ◌++◌, length, refl, sym, ap, ◌∙◌, arith, length-append}
use Rattle.std.proofs.Common.{subst}
use Rattle.std.specs.FinMap as finite
use Rattle.tlv_walk.specs.declared.framing.Framing.{Framing}
use Rattle.tlv_walk.specs.Events.{AreEqualJoined, EventValue, events}
use Rattle.tlv_walk.specs.Follow.{Effect, effect_of}
use Rattle.tlv_walk.proofs.FollowerLemmas.FollowedEvents.{each_octet-goes_on, each_octet-joins, followed-alike}
use Rattle.tlv_walk.proofs.FollowerLemmas.FollowedEvents.{followed-more}
use Rattle.tlv_walk.proofs.EventLemmas.LongerInputs.{events-prefix}
use Rattle.tlv_show.specs.CheckStep.{check_octet_step, check_step}
use Rattle.tlv_show.specs.ShowJob.{check_job, dump_job, show_job, top_layout}
use Rattle.tlv_show.specs.WantedJobs.{wanted_in}
use Rattle.tlv_show.specs.DumpStep.{DumpState, dump_octet_step, dump_padding_step, dump_step, new_dump_with}
use Rattle.tlv_show.specs.FinderState.{CheckState, new_check}
use Rattle.tlv_show.specs.Items.{Item}
use Rattle.tlv_show.specs.Texts.{check_line}
use Rattle.tlv_show.specs.WantedJobs.{item_text_with}
use Rattle.tlv_show.specs.declared.options.Options.{Options}
use Rattle.tlv_show.specs.declared.outcome.Outcome.{Outcome}
use Rattle.tlv_show.specs.declared.rules.Rules.{Rules}
use Rattle.tlv_show.specs.declared.scope.Scope.TheVariants.{Listed}
use Rattle.tlv_show.specs.declared.wanted.Wanted.{Wanted}
use Rattle.tlv_show.specs.Laws.{ChecksGoOn, DumpsGoOn, TextGoesOn}
use Rattle.tlv_show.specs.ShownFindings.{listed_by, wanted_findings}
use Rattle.tlv_value.specs.Names.{NamesValue}
use Rattle.tlv_walk.specs.Job.{Job}
use Rattle.tlv_show.proofs.FindingLemmas.CheckFolds.{check-shows}
use Rattle.tlv_show.proofs.DumpLemmas.DumpFolds.{dump-shows}
use Rattle.tlv_show.proofs.DumpLemmas.ShowJob.{Shower}
use Rattle.tlv_show.proofs.FindingLemmas.ListedTables.{checks-same, dumps-same}

module _ {S : Type 0} (next : S → EventValue → Effect S) (first : S) (wanted : Wanted) (framing : Framing)
    (text_of : Item → List ℕ) (count_in : S → ℕ) (w : Shower next first wanted framing text_of count_in)
    (alike : (s : S) (xs ys : List EventValue) → AreEqualJoined xs ys → effect_of next s xs ≡ effect_of next s ys) where
  put_both : (s : S) (xs ys : List EventValue)
      → (effect_of next s (xs ++ ys)).put
      ≡ (effect_of next s xs).put ++ (effect_of next (effect_of next s xs).state ys).put
  put_both s xs ys = ap (λ (t : Effect S). t.put) (followed-more next s xs ys (w.goes_on s xs))

  goes_on : TextGoesOn (show_job (wanted_findings wanted) framing text_of)
  goes_on b c f g few r s =
      let short : length (b ++ c) ≤ 2 ^ 40 = few in
      let more : (others : List EventValue) × AreEqualJoined (events g) (events f ++ others) =
      events-prefix framing b c f g r s in
      let rest : List ℕ = (effect_of next (effect_of next first (events f)).state more.0).put in
      let shorter : (effect_of next first (events f)).put ≡ (show_job (wanted_findings wanted) framing text_of).text f =
      w.put b f (omega (arith, short, length-append b c)) r in (
        rest,
        ap (λ (l : List ℕ). l ++ rest) (sym shorter) ∙ sym (put_both first (events f) more.0)
            ∙ ap (λ (t : Effect S). t.put) (sym (alike first (events g) (events f ++ more.0) more.1))
            ∙ w.put (b ++ c) g short s,
      )

pub dumps_on : DumpsGoOn
dumps_on scope with_text options names b c f g few r s =
    goes_on dump_step (new_dump_with with_text (wanted_in scope options) (top_layout options) names) (wanted_in scope options) options.framing
    (item_text_with with_text (finite.get names) (top_layout options)) (λ (t : DumpState). t.finder.finding_count)
    (dump-shows scope with_text options names)
    (followed-alike dump_step (each_octet-joins dump_octet_step) (λ s. refl) (each_octet-goes_on dump_octet_step)
    (each_octet-joins dump_padding_step) (λ s. refl) (each_octet-goes_on dump_padding_step))
    b c f g few r s

pub checks_on : ChecksGoOn
checks_on wanted framing b c f g few r s =
    goes_on check_step (new_check wanted) wanted framing check_line (λ (t : CheckState). t.finding_count)
    (check-shows wanted framing)
    (followed-alike check_step (each_octet-joins check_octet_step) (λ s. refl) (each_octet-goes_on check_octet_step)
    (λ s x y. refl) (λ s. refl) (λ s x. refl))
    b c f g few r s

-- ---- with the listed findings

pub listed-dumps_on : (options : Options) (names : NamesValue) → TextGoesOn (dump_job options names)
listed-dumps_on options names =
    subst (λ (job : Job Outcome). TextGoesOn job) (dumps-same options names) (dumps_on Listed false options names)

pub listed-checks_on : (rules : Rules) (framing : Framing) → TextGoesOn (check_job rules framing)
listed-checks_on rules framing =
    subst (λ (job : Job Outcome). TextGoesOn job) (checks-same rules framing) (checks_on (listed_by rules) framing)
