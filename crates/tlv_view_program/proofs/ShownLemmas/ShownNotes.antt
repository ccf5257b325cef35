-- Notes on blocks, and the lines before blocks, are printable ASCII.
use Rattle.std.proofs.Common.{ℕ, Bool, true, false, ◌&&◌, List, [], ◌∷◌, ◌++◌, Option, Some, None, Result, Ok, Err}
use Rattle.std.proofs.Common.{inl, inr, refl}
use Rattle.std.specs.Prelude.{flat_map, nat_lt}
use Rattle.std.specs.List.{All}
use Rattle.std.proofs.lemmas.Bool.{cases_Bool}
use Rattle.std.proofs.lemmas.List.Elements.{All-cons, All-map, All-nil}
use Rattle.std.proofs.lemmas.List.Folds.{list_all-append}
use Rattle.tlv_value.specs.Units.{is_printable}
use Rattle.tlv_text.specs.Blocks.{BlockValue}
use Rattle.tlv_text.specs.declared.block.BlockState.{BlockState}
use Rattle.tlv_text.specs.declared.block.BlockState.TheVariants.{Whole, BeginsAt, MayBePairs, Unended, Ended, Encrypted}
use Rattle.tlv_text.specs.declared.block.BlockState.TheVariants.{Refused, Absent}
use Rattle.tlv_text.specs.declared.block.Form.{Form}
use Rattle.tlv_text.specs.declared.block.Form.TheVariants.{Pem, Dump, Hex, Numbers, Base64, Runs}
use Rattle.tlv_text.specs.declared.text_fault.TextFault.{TextFault}
use Rattle.tlv_text.specs.Taken.{TakenValue}
use Rattle.tlv_text.specs.declared.taken.TakenFor.{TakenFor}
use Rattle.tlv_text.specs.declared.taken.TakenFor.TheVariants.{Octets, OtherText, Text}
use Rattle.tlv_reasons.specs.Laws.{AreShown}
use Rattle.tlv_reasons.proofs.ShownLemmas.ShownValues.{decimal-shown}
use Rattle.tlv_view_program.specs.declared.request.InputForm.{InputForm}
use Rattle.tlv_view_program.specs.declared.request.Wanted.{Wanted}
use Rattle.tlv_view_program.specs.InputBlocks.{BlockContents, InputBlockValue, TakesInput, block_of_file, blocks_taken}
use Rattle.tlv_view_program.specs.InputBlocks.{decoded_count, within_room}
use Rattle.tlv_view_program.specs.Lines.{MessagePlace, block_line, block_title, file_words, number_words}
use Rattle.tlv_view_program.specs.Lines.{place_words, printable_name, printable_octet, shown_name}
use Rattle.tlv_view_program.specs.Notes.{absent_words, expected_words, form_note, form_words, label_words}
use Rattle.tlv_view_program.specs.Notes.{layer_words, name_by, name_in_form, note_for, note_line, state_words}
use Rattle.tlv_view_program.specs.Notes.{text_note}
use Rattle.tlv_view_program.specs.ShowsBlock.{BlockPlace, contents_name, contents_note, has_titles, title}
use Rattle.tlv_view_program.specs.ShownLines.{NotesAreShown, TitlesAreShown}
use Rattle.tlv_view_program.proofs.ShownLemmas.ShownLabels.{HasShownLabel, printable-shown}
use Rattle.tlv_view_program.proofs.ShownLemmas.ShownTaken.{IsShownTaken, taken-shown}

-- ---- names

printable_octet-shown : (x : ℕ) → AreShown (printable_octet x)
printable_octet-shown x = elim (cases_Bool (is_printable x)) [
  | inl printable ↦ rw printable (rw (printable-shown x printable) refl)
  | inr other ↦ rw other refl
]

pub name-shown : (name : List ℕ) → AreShown (printable_name name)
name-shown [] = refl
name-shown (x ∷ name) = simp (list_all-append, printable_octet-shown, name-shown name)

file_words-shown : (file : Option (List ℕ)) → AreShown (file_words file)
file_words-shown None = refl
file_words-shown (Some name) = simp (list_all-append, name-shown)

number_words-shown : (number : Option ℕ) → AreShown (number_words number)
number_words-shown None = refl
number_words-shown (Some number) = simp (list_all-append, decimal-shown)

pub place-shown : (place : MessagePlace) → AreShown (place_words place)
place-shown place = simp (list_all-append, file_words-shown, number_words-shown)

shown_name-shown : (file : Option (List ℕ)) → AreShown (shown_name file)
shown_name-shown None = refl
shown_name-shown (Some name) = name-shown name

-- ---- notes

form_words-shown : (form : Form) (line : ℕ) → AreShown (form_words form line)
form_words-shown Pem line = refl
form_words-shown Dump line = refl
form_words-shown Hex line = refl
form_words-shown Numbers line = refl
form_words-shown Base64 line = refl
form_words-shown Runs line = simp (list_all-append, decimal-shown)

label_words-shown : (label : List ℕ) → AreShown label → AreShown (label_words label)
label_words-shown [] shown = refl
label_words-shown (x ∷ label) shown = shown

layer-shown : (layer : Option ℕ) → AreShown (layer_words layer)
layer-shown None = refl
layer-shown (Some line) = simp (list_all-append, decimal-shown)

layers-shown : (layers : List (Option ℕ)) → AreShown (flat_map layer_words layers)
layers-shown [] = refl
layers-shown (layer ∷ layers) = simp (list_all-append, layer-shown, layers-shown layers)

expected-shown : (form : Form) → AreShown (expected_words form)
expected-shown Pem = refl
expected-shown Dump = refl
expected-shown Hex = refl
expected-shown Numbers = refl
expected-shown Base64 = refl
expected-shown Runs = refl

state-shown : (form : Form) (state : BlockState) → AreShown (state_words form state)
state-shown form Whole = refl
state-shown form (BeginsAt offset) = simp (list_all-append, decimal-shown)
state-shown form MayBePairs = refl
state-shown form Unended = refl
state-shown form (Ended line) = simp (list_all-append, decimal-shown)
state-shown form Encrypted = refl
state-shown form (Refused line) = simp (list_all-append, decimal-shown, expected-shown)
state-shown form Absent = refl

absent-shown : (form : Form) → AreShown (absent_words form)
absent-shown Pem = refl
absent-shown Dump = refl
absent-shown Hex = refl
absent-shown Numbers = refl
absent-shown Base64 = refl
absent-shown Runs = refl

form_note-shown : (form : Form) (layers : List (Option ℕ)) (b : BlockValue) → HasShownLabel b
    → AreShown (form_note form layers b)
form_note-shown form layers b shown =
    simp (
      list_all-append,
      form_words-shown,
      label_words-shown b.label shown,
      layers-shown,
      state-shown,
    )

text_note-shown : (form : Form) (layers : List (Option ℕ)) (b : BlockValue) (state : BlockState) → HasShownLabel b
    → AreShown (text_note form layers b state)
text_note-shown form layers b Whole shown = form_note-shown form layers b shown
text_note-shown form layers b (BeginsAt offset) shown = form_note-shown form layers b shown
text_note-shown form layers b MayBePairs shown = form_note-shown form layers b shown
text_note-shown form layers b Unended shown = form_note-shown form layers b shown
text_note-shown form layers b (Ended line) shown = form_note-shown form layers b shown
text_note-shown form layers b Encrypted shown = form_note-shown form layers b shown
text_note-shown form layers b (Refused line) shown = form_note-shown form layers b shown
text_note-shown form layers b Absent shown = absent-shown form

note_for-shown : (taken_for : TakenFor) (layers : List (Option ℕ)) (b : BlockValue) → HasShownLabel b
    → AreShown (note_for taken_for layers b)
note_for-shown Octets layers b shown = refl
note_for-shown OtherText layers b shown = simp (list_all-append, shown)
note_for-shown (Text form) layers b shown = text_note-shown form layers b b.state shown

-- words that concern a block, with its place before them and a line feed after them
pub placed-shown : (place : MessagePlace) (words : List ℕ) → AreShown words
    → AreShown ((place_words place ++ words) ++ 10 ∷ [])
placed-shown place words shown = simp (list_all-append, file_words-shown, number_words-shown, shown)

pub note-shown : (place : MessagePlace) (t : TakenValue) → IsShownTaken t → AreShown (note_line place t)
note-shown place t shown = by_kind t.taken_for
  where
    by_kind : (kind : TakenFor)
        → AreShown (note_line place (record { taken_for = kind; layers = t.layers; block = t.block }))
    by_kind Octets = refl
    by_kind OtherText = placed-shown place _ (note_for-shown OtherText t.layers t.block shown)
    by_kind (Text form) = placed-shown place _ (note_for-shown (Text form) t.layers t.block shown)

-- each of some passes what all pass
each : {X : Type 0} (P Q : X → Type 0) (xs : List X) → ((x : X) → P x → Q x) → All P xs → All Q xs
each P Q xs so all k d less = so _ (all k d less)

pub notes-shown : NotesAreShown
notes-shown form octets taken place is =
    each IsShownTaken (λ (t : TakenValue). AreShown (note_line place t)) taken (note-shown place)
    (taken-shown form octets taken is)

-- ---- titles

name_in_form-shown : (form : Form) (state : BlockState) (b : BlockValue) → HasShownLabel b
    → AreShown (name_in_form form state b)
name_in_form-shown Pem state b shown = shown
name_in_form-shown Dump state b shown = refl
name_in_form-shown Hex state b shown = refl
name_in_form-shown Numbers state b shown = refl
name_in_form-shown Base64 state b shown = refl
name_in_form-shown Runs Whole b shown = form_words-shown Runs b.line
name_in_form-shown Runs (BeginsAt offset) b shown = form_words-shown Runs b.line
name_in_form-shown Runs MayBePairs b shown = form_words-shown Runs b.line
name_in_form-shown Runs Unended b shown = form_words-shown Runs b.line
name_in_form-shown Runs (Ended line) b shown = form_words-shown Runs b.line
name_in_form-shown Runs Encrypted b shown = form_words-shown Runs b.line
name_in_form-shown Runs (Refused line) b shown = form_words-shown Runs b.line
name_in_form-shown Runs Absent b shown = refl

name_by-shown : (taken_for : TakenFor) (b : BlockValue) → HasShownLabel b → AreShown (name_by taken_for b)
name_by-shown Octets b shown = refl
name_by-shown OtherText b shown = refl
name_by-shown (Text form) b shown = name_in_form-shown form b.state b shown

-- the label that a block has is shown, if it has one
abbrev pub IsShownContents : BlockContents → Type 0
IsShownContents (BlockContents.reported report) = Unit {0}
IsShownContents (BlockContents.taken t) = IsShownTaken t

contents_name-shown : (contents : BlockContents) → IsShownContents contents → AreShown (contents_name contents)
contents_name-shown (BlockContents.reported report) shown = refl
contents_name-shown (BlockContents.taken t) shown = name_by-shown t.taken_for t.block shown

pub contents_note-shown : (place : MessagePlace) (contents : BlockContents) → IsShownContents contents
    → AreShown (contents_note place contents)
contents_note-shown place (BlockContents.reported report) shown = refl
contents_note-shown place (BlockContents.taken t) shown = note-shown place t shown

block_title-shown : (several : Bool) (file : Option (List ℕ)) (name : List ℕ) → AreShown name
    → AreShown (block_title several file name)
block_title-shown several file [] shown = shown_name-shown file
block_title-shown false file (x ∷ name) shown = shown
block_title-shown true file (x ∷ name) shown = simp (list_all-append, shown_name-shown, shown)

block_line-shown : (number count : ℕ) (name : List ℕ) → AreShown name → AreShown (block_line number count name)
block_line-shown number count name shown = simp (list_all-append, decimal-shown, shown)

pub title-shown : (wanted : Wanted) (p : BlockPlace) (b : InputBlockValue) → IsShownContents b.contents
    → AreShown (title wanted p b)
title-shown wanted p b shown = elim (cases_Bool (has_titles wanted && nat_lt 1 p.count)) [
  | inl has ↦
      rw has
      (block_line-shown p.number p.count (block_title p.several_files b.file (contents_name b.contents))
      (block_title-shown p.several_files b.file (contents_name b.contents) (contents_name-shown b.contents shown)))
  | inr not ↦ rw not refl
]

abbrev pub IsShownBlock : InputBlockValue → Type 0
IsShownBlock b = IsShownContents b.contents

pub blocks_taken-shown : (form : InputForm) (octets : List ℕ) (result : Result (List TakenValue) TextFault)
    (file : Option (List ℕ))
    → TakesInput form octets result → All IsShownBlock (blocks_taken file result)
blocks_taken-shown form octets (Ok ts) file is =
    All-map IsShownBlock (λ (t : TakenValue). block_of_file file _ (BlockContents.taken t)) ts
    (taken-shown form octets ts is)
blocks_taken-shown form octets (Err fault) file is = All-cons IsShownBlock _ [] tt (All-nil IsShownBlock)

-- the same if there is room for the octets of its texts, or none
pub within_room-shown : (form : InputForm) (octets : List ℕ) (room : ℕ) (result : Result (List TakenValue) TextFault)
    (file : Option (List ℕ))
    → TakesInput form octets result → All IsShownBlock (blocks_taken file (within_room room result))
within_room-shown form octets room (Ok ts) file is = elim (cases_Bool (nat_lt room (decoded_count ts))) [
  | inl beyond ↦ rw beyond (All-cons IsShownBlock _ [] tt (All-nil IsShownBlock))
  | inr fits ↦ rw fits (blocks_taken-shown form octets (Ok ts) file is)
]
within_room-shown form octets room (Err fault) file is = All-cons IsShownBlock _ [] tt (All-nil IsShownBlock)

pub titles-shown : TitlesAreShown
titles-shown form octets result file wanted p is =
    each IsShownBlock (λ (b : InputBlockValue). AreShown (title wanted p b)) (blocks_taken file result)
    (title-shown wanted p) (blocks_taken-shown form octets result file is)
