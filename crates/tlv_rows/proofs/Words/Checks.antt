-- Words of the rows of findings: an input, and what is written of it.
use Rattle.std.proofs.Common.{ℕ, false, List, length, None, Some}
use Prim.Native.String.{String}
use Rattle.tlv_value.specs.declared.layout.Layout.{Layout}
use Rattle.tlv_value.specs.Value.{no_names}
use Rattle.tlv_walk.specs.declared.framing.Framing.{Framing}
use Rattle.tlv_walk.proofs.GrammarLemmas.Readings.{reading}
use Rattle.tlv_show.specs.ListedFindings.{ElementFindings, listed_findings}
use Rattle.tlv_show.specs.ShowJob.{show_job}
use Rattle.tlv_show.specs.declared.rules.Rules.{Rules}
use Rattle.tlv_show.specs.ShownFindings.{all_by, wanted_findings}
use Rattle.tlv_show.specs.Texts.{check_line, finding_count, item_text}
use Rattle.tlv_rows.proofs.Words.Octets.{lines}

abbrev pub full : Layout
full = record { level = 0; limit = None; pure = false }

abbrev pub at_most : ℕ → Layout
at_most n = record { level = 0; limit = Some n; pure = false }

-- what is written, and how many findings there are
pub record TextAndCount : Type 0 where
  pub text : List ℕ
  pub count : ℕ

abbrev pub dump : Framing → Layout → Rules → List ℕ → TextAndCount
dump framing layout rules b = let f = reading framing b in record {
  text = (show_job (listed_findings rules) framing (item_text no_names layout)).text f;
  count = finding_count (listed_findings rules) f;
}

abbrev pub check_for : ElementFindings → Framing → List ℕ → TextAndCount
check_for found framing b = let f = reading framing b in record {
  text = (show_job found framing check_line).text f;
  count = finding_count found f;
}

abbrev pub check : Framing → Rules → List ℕ → TextAndCount
check framing rules b = check_for (listed_findings rules) framing b

abbrev pub check_all : Framing → Rules → List ℕ → TextAndCount
check_all framing rules b = check_for (wanted_findings (all_by rules)) framing b

-- so many findings, and this text
abbrev pub counted : ℕ → List ℕ → TextAndCount
counted count text = record { text = text; count = count }

-- a finding on each of these lines
abbrev pub finds : List String → TextAndCount
finds texts = counted (length texts) (lines texts)
