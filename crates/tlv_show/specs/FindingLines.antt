-- The lines of findings, in a check or in a dump.
use Rattle.std.specs.Prelude.{ℕ, if◌then◌else◌, List, [], ◌∷◌, ◌++◌, None, codes, decimal, flat_map}
use Rattle.tlv_value.specs.declared.finding.Finding.{Finding}
use Rattle.tlv_value.specs.declared.layout.Layout.{Layout}
use Rattle.tlv_value.specs.Finding.{finding_code, finding_text, finding_wording}
use Rattle.tlv_value.specs.Layout.{columns, line}
use Rattle.tlv_show.specs.declared.finding_lines.Style.{Style}
use Rattle.tlv_show.specs.declared.finding_lines.Style.TheVariants.{Check, Dump}
use Rattle.tlv_show.specs.FinderState.{FinderState}

-- the line of a finding in a dump: the offset of the element, the code, and the text. If first columns are left out,
-- there is no line
abbrev pub dump_finding_line : Layout → ℕ → Finding → List ℕ
dump_finding_line layout offset finding =
    if layout.pure then []
    else line layout (columns offset (finding_code finding)) (finding_text finding)

-- the line of a finding in a check: the offset of the element, the code and the text
abbrev pub check_finding_line : ℕ → Finding → List ℕ
check_finding_line offset finding =
    decimal offset ++ codes " " ++ finding_wording finding ++ 10 ∷ []

-- a finding in an element at this level and offset, as it is written
abbrev pub styled_line : Style → ℕ → ℕ → Finding → List ℕ
styled_line Check level offset finding = check_finding_line offset finding
styled_line (Dump pure) level offset finding =
    dump_finding_line (record { level = level; limit = None; pure = pure }) offset finding

abbrev pub styled_lines : Style → ℕ → ℕ → List Finding → List ℕ
styled_lines style level offset findings = flat_map (styled_line style level offset) findings

-- the lines of what a finder found last
abbrev pub last_finding_lines : Style → FinderState → List ℕ
last_finding_lines style f = styled_lines style f.level f.offset f.findings
