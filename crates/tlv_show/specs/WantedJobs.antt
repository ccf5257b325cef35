-- What a call of `dump` or of `check` is to do, with the findings that are wanted, and with text beside pairs of
-- digits.
use Rattle.std.specs.Prelude.{Bool, List, ℕ}
use Rattle.std.specs.FinMap as finite
use Rattle.tlv_walk.specs.declared.framing.Framing.{Framing}
use Rattle.tlv_walk.specs.Job.{Job}
use Rattle.tlv_show.specs.declared.options.Options.{Options}
use Rattle.tlv_show.specs.declared.outcome.Outcome.{Outcome}
use Rattle.tlv_show.specs.declared.scope.Scope.{Scope}
use Rattle.tlv_show.specs.declared.wanted.Wanted.{Wanted}
use Rattle.tlv_show.specs.ShowJob.{show_job, top_layout}
use Rattle.tlv_show.specs.ShownFindings.{wanted_findings}
use Rattle.tlv_show.specs.Items.{Item, OpenPrimitiveLines, PrimitiveLines}
use Rattle.tlv_show.specs.Texts.{check_line, item_text, layout_at}
use Rattle.tlv_value.specs.declared.layout.Layout.{Layout}
use Rattle.tlv_value.specs.Names.{NamesValue}
use Rattle.tlv_value.specs.TextBeside.{incomplete_lines_with, whole_lines_with}
use Rattle.tlv_value.specs.Value.{NameOf}

-- the findings that the options ask for, in this scope
abbrev pub wanted_in : Scope → Options → Wanted
wanted_in scope options = record { rules = options.rules; scope = scope }

-- the lines of an item in a dump, with text beside pairs of digits if it is wanted: only the lines of primitives have
-- pairs
abbrev pub item_text_with : Bool → NameOf → Layout → Item → List ℕ
item_text_with with_text name_of layout (PrimitiveLines depth h c) =
    whole_lines_with with_text name_of h (layout_at layout depth) c
item_text_with with_text name_of layout (OpenPrimitiveLines depth h c) =
    incomplete_lines_with with_text h (layout_at layout depth) c
item_text_with with_text name_of layout item = item_text name_of layout item

-- all elements, as lines, with the lines of the findings in this scope. The second argument says whether text is beside
-- pairs of digits
abbrev pub dump_job_with : Scope → Bool → Options → NamesValue → Job Outcome
dump_job_with scope with_text options names =
    show_job (wanted_findings (wanted_in scope options)) options.framing
    (item_text_with with_text (finite.get names) (top_layout options))

-- the findings that are wanted of all elements
abbrev pub check_job_with : Wanted → Framing → Job Outcome
check_job_with wanted framing = show_job (wanted_findings wanted) framing check_line
