-- What connects the definitions for `dump_with` and `check_with`, which may have all findings, and text beside pairs of
-- digits, with those for `dump` and `check`.
use Rattle.std.specs.Prelude.{◌≡◌, ℕ, List, false}
use Rattle.std.specs.List.{filter}
use Rattle.tlv_head.specs.Header.{HeaderValue}
use Rattle.tlv_value.specs.AllChecks.{all_contents_findings}
use Rattle.tlv_value.specs.Names.{NamesValue}
use Rattle.tlv_value.specs.TextBeside.{incomplete_lines_with, whole_lines_with}
use Rattle.tlv_value.specs.Value.{NameOf}
use Rattle.tlv_value.specs.ValueLines.{incomplete_lines, whole_lines}
use Rattle.tlv_value.specs.declared.layout.Layout.{Layout}
use Rattle.tlv_walk.specs.declared.framing.Framing.{Framing}
use Rattle.tlv_show.specs.ListedFindings.{listed_findings}
use Rattle.tlv_show.specs.ShowJob.{check_job, dump_job}
use Rattle.tlv_show.specs.ShownFindings.{is_shown, listed_by}
use Rattle.tlv_show.specs.Site.{Site}
use Rattle.tlv_show.specs.WantedJobs.{check_job_with, dump_job_with}
use Rattle.tlv_show.specs.declared.options.Options.{Options}
use Rattle.tlv_show.specs.declared.rules.Rules.{Rules}
use Rattle.tlv_show.specs.declared.scope.Scope.TheVariants.{Listed}

-- without text beside pairs of digits, the lines of a primitive, whole or incomplete, are those of `ValueLines`. With
-- the listed findings alone, a dump without such text is `dump_job`, and a check is `check_job`. Of all findings on
-- contents, which `ValueCheck::end_with_all` returns, those that are listed and that the rules have are those of
-- `listed_findings`
pub record PlainJobsStay : Type 0 where
  pub whole : (name_of : NameOf) (h : HeaderValue) (layout : Layout) (octets : List ℕ)
      → whole_lines_with false name_of h layout octets ≡ whole_lines name_of h layout octets
  pub incomplete : (h : HeaderValue) (layout : Layout) (octets : List ℕ)
      → incomplete_lines_with false h layout octets ≡ incomplete_lines h layout octets
  pub dumps : (options : Options) (names : NamesValue)
      → dump_job_with Listed false options names ≡ dump_job options names
  pub checks : (rules : Rules) (framing : Framing) → check_job_with (listed_by rules) framing ≡ check_job rules framing
  pub contents : (rules : Rules) (s : Site) (h : HeaderValue) (c : List ℕ)
      → filter (is_shown (listed_by rules)) (all_contents_findings h c) ≡ (listed_findings rules).of_primitive s h c
