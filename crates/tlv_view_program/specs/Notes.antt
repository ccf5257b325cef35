-- What is said about a block before it is shown: what it was taken for, and what is wrong with its text.
use Rattle.std.specs.Prelude.{ℕ, Bool, true, false, List, [], ◌∷◌, ◌++◌, Option, Some, None, codes, decimal, flat_map}
use Rattle.std.specs.Prelude.{if◌then◌else◌}
use Rattle.tlv_text.specs.Blocks.{BlockValue}
use Rattle.tlv_text.specs.declared.block.BlockState.{BlockState}
use Rattle.tlv_text.specs.declared.block.BlockState.TheVariants.{Whole, BeginsAt, MayBePairs, Unended, Ended, Encrypted}
use Rattle.tlv_text.specs.declared.block.BlockState.TheVariants.{Refused, Absent}
use Rattle.tlv_text.specs.declared.block.Form.{Form}
use Rattle.tlv_text.specs.declared.block.Form.TheVariants.{Pem, Dump, Hex, Numbers, Base64, Runs}
use Rattle.tlv_text.specs.declared.text_fault.TextFault.{TextFault}
use Rattle.tlv_text.specs.declared.text_fault.TextFault.TheVariants as text
use Rattle.tlv_text.specs.Taken.{TakenValue}
use Rattle.tlv_text.specs.declared.taken.TakenFor.{TakenFor}
use Rattle.tlv_text.specs.declared.taken.TakenFor.TheVariants.{Octets, OtherText, Text}
use Rattle.tlv_run.specs.Report.{ReportValue, report_with, unopened_report}
use Rattle.tlv_view_program.specs.ReadWhole.{input_report}
use Rattle.tlv_view_program.specs.declared.input.InputFault.TheVariants as input
use Rattle.tlv_program.specs.declared.system.OpenFault.{OpenFault}
use Rattle.tlv_program.specs.declared.system.OpenFault.TheVariants.{Missing, Denied, Other}
use Rattle.tlv_view_program.specs.Lines.{MessagePlace, place_words}

-- ---- parts of a note

-- a run of base64, by its line
abbrev pub run_words : ℕ → List ℕ
run_words line = codes "base64 of line " ++ decimal line

-- the form of a block that begins at this line
abbrev pub form_words : Form → ℕ → List ℕ
form_words Pem line = codes "PEM"
form_words Dump line = codes "a hex dump"
form_words Hex line = codes "hexadecimal"
form_words Numbers line = codes "decimal numbers"
form_words Base64 line = codes "base64"
form_words Runs line = run_words line

abbrev pub label_words : List ℕ → List ℕ
label_words [] = []
label_words (x ∷ label) = codes ", " ++ x ∷ label

-- base64 that the block is written in: all of a text, or a run in this line of it
abbrev pub layer_words : Option ℕ → List ℕ
layer_words None = codes ", in base64"
layer_words (Some line) = codes ", in base64 of line " ++ decimal line

-- what is expected where a text is refused
abbrev pub expected_words : Form → List ℕ
expected_words Dump = codes "a row of a hex dump"
expected_words Hex = codes "a pair of hexadecimal digits"
expected_words Numbers = codes "only one list of numbers from -128 to 255"
expected_words form = codes "base64"

-- what is to be said about the text of a block: what is wrong with it, and where a dump begins and ends
abbrev pub state_words : Form → BlockState → List ℕ
state_words form Whole = []
state_words form (BeginsAt offset) = codes "; it begins at offset " ++ decimal offset
state_words form MayBePairs = []
state_words form Unended = codes "; its end marker is missing"
state_words form (Ended line) = codes "; it ends in front of line " ++ decimal line
state_words form Encrypted = codes "; X3 it is encrypted"
state_words form (Refused line) =
    codes "; X2 refused in line " ++ decimal line ++ codes ", where " ++ expected_words form ++ codes " is expected"
state_words form Absent = []

-- a text that has no block of its form
abbrev pub absent_words : Form → List ℕ
absent_words Pem = codes "X2 there is no block of PEM"
absent_words Dump = codes "X2 there is no hex dump"
absent_words Hex = codes "X2 there is no hexadecimal"
absent_words Numbers = codes "X2 there is no list of decimal numbers"
absent_words form = codes "X2 there is no base64"

-- ---- notes

-- what a block of a text in a form was taken for
abbrev pub form_note : Form → List (Option ℕ) → BlockValue → List ℕ
form_note form layers b =
    codes "taken for " ++ (form_words form b.line ++ (label_words b.label
    ++ (flat_map layer_words layers ++ state_words form b.state)))

abbrev pub text_note : Form → List (Option ℕ) → BlockValue → BlockState → List ℕ
text_note form layers b Absent = absent_words form
text_note form layers b state = form_note form layers b

-- a text whose form is not known, with its first words
abbrev pub other_text_note : List ℕ → List ℕ
other_text_note words =
    codes "X1 text of no form that is known: \"" ++ (words
    ++ codes "\"; known are PEM, hex dumps, hexadecimal, decimal numbers and base64")

abbrev pub note_for : TakenFor → List (Option ℕ) → BlockValue → List ℕ
note_for Octets layers b = []
note_for OtherText layers b = other_text_note b.label
note_for (Text form) layers b = text_note form layers b b.state

-- the note of a block; there is none for octets as they stand
abbrev pub taken_note : TakenValue → List ℕ
taken_note t = note_for t.taken_for t.layers t.block

abbrev pub has_note : TakenFor → Bool
has_note Octets = false
has_note taken_for = true

-- the line of the note
abbrev pub note_line : MessagePlace → TakenValue → List ℕ
note_line place t = if has_note t.taken_for then (place_words place ++ taken_note t) ++ 10 ∷ [] else []

-- the name of a block of a text in the line before it: a label, or the line of a run
abbrev pub name_in_form : Form → BlockState → BlockValue → List ℕ
name_in_form Pem state b = b.label
name_in_form Runs Absent b = []
name_in_form Runs state b = run_words b.line
name_in_form form state b = []

abbrev pub name_by : TakenFor → BlockValue → List ℕ
name_by (Text form) b = name_in_form form b.state b
name_by taken_for b = []

-- the report if a file does not open, with the cause if it is a usual one
abbrev pub open_report : OpenFault → ReportValue
open_report Missing = report_with 3 (codes "E5 cannot open the file: no such file")
open_report Denied = report_with 3 (codes "E5 cannot open the file: permission denied")
open_report Other = unopened_report

-- the report if the blocks of an input cannot be obtained
abbrev pub text_report : TextFault → ReportValue
text_report text.TooLong =
    report_with 4 (codes "X4 texts of more than 1073741824 octets in all, or one of 16777216 more octets than characters")
text_report text.Memory = input_report input.Memory
