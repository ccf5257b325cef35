-- The findings by the tables of the listed conditions are what is found if the listed findings are wanted. So a job
-- with the first is the job with the second.
use Rattle.std.proofs.Common.{◌≡◌, ℕ, Bool, true, false, if◌then◌else◌, List, [], refl, ap, ◌∙◌, subst}
use Rattle.std.specs.FinMap as finite
use Rattle.std.specs.Prelude.{Result}
use Rattle.tlv_head.specs.Header.{HeaderValue, is_universal}
use Rattle.tlv_value.specs.AllChecks.{type_conditions}
use Rattle.tlv_value.specs.Checks.{listed_type_conditions}
use Rattle.tlv_value.specs.Names.{NamesValue}
use Rattle.tlv_walk.specs.Forest.{Forest}
use Rattle.tlv_walk.specs.Job.{DeviceStates, Job, Runs}
use Rattle.tlv_walk.specs.declared.framing.Framing.{Framing}
use Rattle.tlv_walk.specs.declared.run.DeviceFault.{DeviceFault}
use Rattle.tlv_show.specs.declared.options.Options.{Options}
use Rattle.tlv_show.specs.declared.outcome.Outcome.{Outcome}
use Rattle.tlv_show.specs.declared.rules.Rules.{Rules}
use Rattle.tlv_show.specs.declared.scope.Scope.TheVariants.{Listed}
use Rattle.tlv_show.specs.declared.wanted.Wanted.{Wanted}
use Rattle.tlv_show.specs.AllConditions.{end_conditions, header_conditions}
use Rattle.tlv_show.specs.Conditions.{headers}
use Rattle.tlv_show.specs.Items.{Item}
use Rattle.tlv_show.specs.ListedFindings.{ElementFindings, findings_under, listed_findings}
use Rattle.tlv_show.specs.SegmentCharacters.{has_wrong_characters}
use Rattle.tlv_show.specs.SetOrder.{holder_element, primitive_element}
use Rattle.tlv_show.specs.ShowJob.{check_job, dump_job, show_job, top_layout}
use Rattle.tlv_show.specs.WantedJobs.{check_job_with, dump_job_with}
use Rattle.tlv_show.specs.ShownFindings.{contents_findings, end_findings, header_findings, held_findings, listed_by}
use Rattle.tlv_show.specs.ShownFindings.{shown_findings, wanted_findings}
use Rattle.tlv_show.specs.Site.{Site}
use Rattle.tlv_show.specs.Texts.{check_line, item_text}
use Rattle.tlv_show.proofs.DumpLemmas.WithoutText.{items-without}
use Rattle.tlv_show.proofs.FindingLemmas.KeptRows.{listed-found}
use Rattle.tlv_show.proofs.FindingLemmas.OrderFindings.{no-characters, none-listed}

module _ (rules : Rules) where
  pub listed-header : (s : Site) (h : HeaderValue)
      → header_findings (listed_by rules) s h ≡ (listed_findings rules).of_header s h
  listed-header s h = listed-found rules (header_conditions s h)

  listed-class : (universal : Bool) (number : ℕ) (c : List ℕ)
      → shown_findings (listed_by rules) (if universal then type_conditions number c else [])
      ≡ findings_under rules (if universal then listed_type_conditions number c else [])
  listed-class true number c = listed-found rules (type_conditions number c)
  listed-class false number c = refl

  pub listed-contents : (s : Site) (h : HeaderValue) (c : List ℕ)
      → contents_findings (listed_by rules) h c ≡ (listed_findings rules).of_primitive s h c
  listed-contents s h c = listed-class (is_universal h.class) h.number c

  listed-primitive : (s : Site) (h : HeaderValue) (c : List ℕ)
      → (wanted_findings (listed_by rules)).of_primitive s h c ≡ (listed_findings rules).of_primitive s h c
  listed-primitive s h c =
      none-listed rules s (primitive_element h c) (contents_findings (listed_by rules) h c) ∙ listed-contents s h c

  listed-holder : (s : Site) (h : HeaderValue) (children : Forest)
      → (wanted_findings (listed_by rules)).of_holder s h children ≡ (listed_findings rules).of_holder s h children
  listed-holder s h children =
      none-listed rules s (holder_element h children) (held_findings (listed_by rules) h children)
      ∙ no-characters rules (has_wrong_characters h children) (end_findings (listed_by rules) h (headers children))
      ∙ listed-found rules (end_conditions h (headers children))

  pub listed-same : wanted_findings (listed_by rules) ≡ listed_findings rules
  listed-same = λ i. record {
    of_header = λ s h. listed-header s h i;
    of_primitive = λ s h c. listed-primitive s h c i;
    of_holder = λ s h children. listed-holder s h children i;
  }

-- ---- jobs

pub dumps-same : (options : Options) (names : NamesValue)
    → dump_job_with Listed false options names ≡ dump_job options names
dumps-same options names =
    ap (λ (text_of : Item → List ℕ). show_job (wanted_findings (listed_by options.rules)) options.framing text_of)
    (items-without (finite.get names) (top_layout options))
    ∙ ap (λ (found : ElementFindings). show_job found options.framing
    (item_text (finite.get names) (top_layout options)))
    (listed-same options.rules)

pub checks-same : (rules : Rules) (framing : Framing)
    → check_job_with (listed_by rules) framing ≡ check_job rules framing
checks-same rules framing =
    ap (λ (found : ElementFindings). show_job found framing check_line) (listed-same rules)

-- ---- runs

pub dumps-listed : (options : Options) (names : NamesValue) (old new : DeviceStates)
    (result : Result Outcome DeviceFault)
    → Runs (dump_job_with Listed false options names) old new result → Runs (dump_job options names) old new result
dumps-listed options names old new result runs =
    subst (λ (job : Job Outcome). Runs job old new result) (dumps-same options names) runs

pub checks-listed : (wanted : Wanted) (rules : Rules) (framing : Framing) (old new : DeviceStates)
    (result : Result Outcome DeviceFault) → wanted ≡ listed_by rules
    → Runs (check_job_with wanted framing) old new result → Runs (check_job rules framing) old new result
checks-listed wanted rules framing old new result e runs =
    subst (λ (job : Job Outcome). Runs job old new result)
    (ap (λ (w : Wanted). check_job_with w framing) e ∙ checks-same rules framing) runs
