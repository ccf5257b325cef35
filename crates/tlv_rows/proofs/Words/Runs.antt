-- Words of the rows of tests/rows: commands, and what is made of an input. Each result is the only one of its input, by
-- `is_result` and `makes_unique` of Results.
use Rattle.std.proofs.Common.{◌≡◌, ℕ, Bool, List, [], None, Option, codes, ap}
use Rattle.std.specs.Cmp.Lexicographic.{nat_list_cmp_total, slice_cmp}
use Rattle.std.specs.FinMap as finite
use Rattle.std.specs.Ordering.{nat_cmp}
use Prim.Native.String.{String}
use Rattle.tlv_head.specs.declared.fault.FaultCode.{FaultCode}
use Rattle.tlv_show.specs.ListedFindings.{listed_findings}
use Rattle.tlv_show.specs.Texts.{item_text}
use Rattle.tlv_show.specs.ShowJob.{top_layout, show_job}
use Rattle.tlv_show.specs.declared.options.Options.{Options}
use Rattle.tlv_show.specs.declared.rules.Rules.{Rules}
use Rattle.tlv_value.specs.Names.{NamesValue}
use Rattle.tlv_value.specs.Value.{NameOf, no_names}
use Rattle.tlv_walk.proofs.GrammarLemmas.Readings.{reading}
use Rattle.tlv_walk.specs.Ending.{fault_ending}
use Rattle.tlv_walk.specs.declared.ending.Ending.TheVariants.{Done}
use Rattle.tlv_walk.specs.declared.framing.Framing.{Framing}
use Rattle.tlv_run.proofs.Results.{result_of}
use Rattle.tlv_run.specs.Report.{report_with}
use Rattle.tlv_run.specs.Results.{CommandResult, command_job}
use Rattle.tlv_run.specs.declared.command.Command.{Command}
use Rattle.tlv_run.specs.declared.command.Command.TheVariants.{Check, Dump, Extract, Indef}

-- ---- commands

-- the most rows of each value, and whether the first columns are left out
abbrev pub options_of : Rules → Option ℕ → Bool → Framing → Options
options_of rules limit pure framing = record { rules = rules; limit = limit; pure = pure; framing = framing }

abbrev pub dump : Rules → Option ℕ → Bool → Framing → Command
dump rules limit pure framing = Dump (options_of rules limit pure framing) None None

abbrev pub check : Rules → Framing → Command
check rules framing = Check rules framing None

-- the element at the offset, and whether its contents alone
abbrev pub extract : ℕ → Bool → Framing → Command
extract offset contents framing = Extract offset contents framing None

abbrev pub indef : Bool → Command
indef padding = Indef padding None

-- ---- what is made of an input

abbrev pub result_with : NamesValue → Command → List ℕ → CommandResult
result_with names command octets = result_of (command_job command names) octets

abbrev pub result : Command → List ℕ → CommandResult
result command octets = result_with finite.empty command octets

-- status 0, and no message
abbrev pub clean_result : List ℕ → CommandResult
clean_result output = record { output = output; ending = Done; report = report_with 0 [] }

-- status 1 with so many findings and this message
abbrev pub notice_result : ℕ → String → List ℕ → CommandResult
notice_result findings message output = record {
  output = output;
  ending = Done;
  report = record { status = 1; findings = findings; message = codes message };
}

-- status 2: so many findings, and a fault of this code at this offset, with this message
abbrev pub fault_result : ℕ → FaultCode → ℕ → String → List ℕ → CommandResult
fault_result findings code offset message output =
    record {
      output = output;
      ending = fault_ending code offset;
      report = record { status = 2; findings = findings; message = codes message };
    }

-- ---- names of object identifiers

-- a dump, by the names themselves in place of the table of names
abbrev dump_result : Rules → Option ℕ → Bool → Framing → NameOf → List ℕ → CommandResult
dump_result rules limit pure framing name_of octets =
    let text_of = item_text name_of (top_layout (options_of rules limit pure framing)) in
    let show = show_job (listed_findings rules) framing text_of in
    record (result (dump rules limit pure framing) octets) { output = show.text (reading framing octets) }

by_names : (rules : Rules) (limit : Option ℕ) (pure : Bool) (framing : Framing) (names : NamesValue) (name_of : NameOf)
    →
    finite.get names ≡ name_of → (octets : List ℕ)
    → result_with names (dump rules limit pure framing) octets ≡ dump_result rules limit pure framing name_of octets
by_names rules limit pure framing names name_of e octets =
    ap (λ (by : NameOf). dump_result rules limit pure framing by octets) e

-- without a names file nothing has a name
pub nameless : (rules : Rules) (limit : Option ℕ) (pure : Bool) (framing : Framing) (octets : List ℕ) →
    result (dump rules limit pure framing) octets ≡ dump_result rules limit pure framing no_names octets
nameless rules limit pure framing =
    by_names rules limit pure framing finite.empty no_names (λ i text. finite.get-empty (slice_cmp nat_cmp) text i)

-- the table of a names file with these entries
abbrev pub entries_table : List (List ℕ × List ℕ) → NamesValue
entries_table entries = finite.from_entries entries

abbrev name_in : List (List ℕ × List ℕ) → NameOf
name_in entries text = finite.find (slice_cmp nat_cmp) text entries

pub named : (entries : List (List ℕ × List ℕ)) (rules : Rules) (limit : Option ℕ) (pure : Bool) (framing : Framing)
    (octets : List ℕ)
    →
    result_with (entries_table entries) (dump rules limit pure framing) octets
    ≡ dump_result rules limit pure framing (name_in entries) octets
named entries rules limit pure framing =
    by_names rules limit pure framing (entries_table entries) (name_in entries)
    (λ i text. finite.get-from_entries nat_list_cmp_total entries text i)
