-- What a call of `dump` or of `check` is to do. `WantedJobs` has what calls with other findings are to do.
use Rattle.std.specs.Prelude.{ℕ, false, List, flat_map}
use Rattle.std.specs.FinMap as finite
use Rattle.tlv_walk.specs.declared.framing.Framing.{Framing}
use Rattle.tlv_walk.specs.Job.{Job}
use Rattle.tlv_walk.specs.Wrappers.{first_without_wrapper}
use Rattle.tlv_show.specs.declared.outcome.Outcome.{Outcome}
use Rattle.tlv_show.specs.declared.rules.Rules.{Rules}
use Rattle.tlv_show.specs.Items.{Item, items}
use Rattle.tlv_show.specs.ListedFindings.{ElementFindings, listed_findings}
use Rattle.tlv_show.specs.Site.{top_site}
use Rattle.tlv_show.specs.Texts.{check_line, finding_count, item_text}
use Rattle.tlv_value.specs.declared.layout.Layout.{Layout}
use Rattle.tlv_value.specs.Names.{NamesValue}
use Rattle.tlv_show.specs.declared.options.Options.{Options}

-- the items of all elements are written, each with this text, and the findings are counted, whether they are written
-- or not. The first argument says what is found in an element
abbrev pub show_job : ElementFindings → Framing → (Item → List ℕ) → Job Outcome
show_job found framing text_of = record {
  framing = framing;
  text = λ f. flat_map text_of (items found top_site f);
  is_enough = λ f. false;
  returns = λ f e. record {
    ending = e;
    findings = finding_count found f;
    unused = first_without_wrapper framing.inside f;
  };
}

-- how the lines of the outermost elements are laid out
abbrev pub top_layout : Options → Layout
top_layout options = record { level = 0; limit = options.limit; pure = options.pure }

-- all elements, as lines, with the lines of the listed findings, without text beside pairs of digits
abbrev pub dump_job : Options → NamesValue → Job Outcome
dump_job options names =
    show_job (listed_findings options.rules) options.framing
    (item_text (finite.get names) (top_layout options))

-- the listed findings of all elements
abbrev pub check_job : Rules → Framing → Job Outcome
check_job rules framing = show_job (listed_findings rules) framing check_line
