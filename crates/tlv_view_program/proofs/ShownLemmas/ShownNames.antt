-- Names of a names file are printable ASCII.
use Rattle.std.proofs.Common.{◌≡◌, ◌==◌, inl, inr, ℕ, Bool, true, false, ◌∙◌, List, [], ◌∷◌, Option, Some, None}
use Rattle.std.proofs.Common.{Result, Ok, Err, ap, cond, length, map, subst, sym}
use Rattle.std.specs.Prelude.{nat_lt}
use Rattle.std.specs.FinMap as finite
use Rattle.std.specs.List.{All, after_first, before_first}
use Rattle.std.specs.Option.{option_map_or}
use Rattle.std.specs.Str.Lines.{strip_carriage_return}
use Rattle.std.specs.Ordering.{nat_cmp, eq_by_cmp}
use Rattle.std.specs.Cmp.Lexicographic.{slice_cmp, nat_list_cmp_total}
use Rattle.std.proofs.lemmas.Bool.{and_parts, cases_Bool}
use Rattle.std.proofs.lemmas.List.Elements.{All-append, All-cons, All-head, All-nil, All-tail}
use Rattle.tlv_value.specs.Names.{Entry, NamesLine, NamesValue, entries_of, entry_line, file_lines}
use Rattle.tlv_value.specs.Names.{first_refusal, is_dotted, is_name, line_entries, line_limit, names_line}
use Rattle.tlv_value.specs.Names.{is_blank, pair_line, without_first_blanks, without_outer_blanks}
use Rattle.tlv_value.specs.declared.names.fault.NamesFault.{NamesFault}
use Rattle.tlv_reasons.specs.Laws.{AreShown}
use Rattle.tlv_view_program.specs.ShownLines.{NamesAreShown}
use Rattle.tlv_view_program.proofs.ShownLemmas.ShownLabels.{all_printable-shown}

abbrev pub IsShownEntry : Entry → Type 0
IsShownEntry e = AreShown e.1

none-shown : All IsShownEntry []
none-shown = All-nil IsShownEntry

-- ---- entries

abbrev pub IsShownLine : NamesLine → Type 0
IsShownLine line = All IsShownEntry (line_entries line)

pair-shown : (dotted name : List ℕ) → IsShownLine (pair_line dotted name)
pair-shown dotted name = elim (cases_Bool (is_dotted dotted)) [
  | inl identifier ↦
      rw identifier
      (elim (cases_Bool (is_name name)) [
        | inl is ↦
            rw is
            (All-cons IsShownEntry (dotted, name) [] (all_printable-shown name (and_parts _ _ is).1) none-shown)
        | inr other ↦ rw other none-shown
      ])
  | inr other ↦ rw other none-shown
]

entry-shown : (octets : List ℕ) → IsShownLine (entry_line octets)
entry-shown [] = none-shown
entry-shown (x ∷ xs) = elim (cases_Bool (x == 35)) [
  | inl comment ↦ rw comment none-shown
  | inr other ↦
      rw other
      (pair-shown (before_first is_blank (x ∷ xs)) (without_first_blanks (after_first is_blank (x ∷ xs))))
]

line-shown : (octets : List ℕ) → IsShownLine (names_line octets)
line-shown octets = elim (cases_Bool (nat_lt line_limit (length octets))) [
  | inl long ↦ rw long none-shown
  | inr short ↦ rw short (entry-shown (without_outer_blanks (strip_carriage_return octets)))
]

entries-shown : (lines : List (List ℕ)) → All IsShownEntry (entries_of (map names_line lines))
entries-shown [] = none-shown
entries-shown (line ∷ lines) =
    All-append IsShownEntry (line_entries (names_line line)) (entries_of (map names_line lines)) (line-shown line)
    (entries-shown lines)

-- ---- tables

found-in : (q name : List ℕ) (e : Entry) (rest : Option (List ℕ)) (same : Bool) → IsShownEntry e
    → (rest ≡ Some name → AreShown name) → cond same (Some e.1) rest ≡ Some name → AreShown name
found-in q name e rest true first others is = subst (λ (n : List ℕ). AreShown n) (ap (value_or e.1) is) first
  where
    value_or : List ℕ → Option (List ℕ) → List ℕ
    value_or other None = other
    value_or other (Some x) = x
found-in q name e rest false first others is = others is

found-shown : (q name : List ℕ) (es : List Entry) → All IsShownEntry es
    → finite.find (slice_cmp nat_cmp) q es ≡ Some name → AreShown name
found-shown q name [] all is = cc is
found-shown q name (e ∷ es) all is =
    found-in q name e (finite.find (slice_cmp nat_cmp) q es) (eq_by_cmp (slice_cmp nat_cmp) q e.0)
    (All-head IsShownEntry e es all) (found-shown q name es (All-tail IsShownEntry e es all)) is

table-is : (refusal : Option NamesFault) (made table : NamesValue) → option_map_or Err refusal (Ok made) ≡ Ok table
    → made ≡ table
table-is None made table is = ap (table_or made) is
  where
    table_or : NamesValue → Result NamesValue NamesFault → NamesValue
    table_or other (Err fault) = other
    table_or other (Ok t) = t
table-is (Some fault) made table is = cc is

pub names-shown : NamesAreShown
names-shown octets table is dotted name has =
    let made : finite.from_entries (entries_of (map names_line (file_lines octets))) ≡ table =
    table-is (first_refusal [] (map names_line (file_lines octets))) _ table is in
    found-shown dotted name (entries_of (map names_line (file_lines octets))) (entries-shown (file_lines octets))
    (sym (finite.get-from_entries nat_list_cmp_total (entries_of (map names_line (file_lines octets))) dotted)
    ∙ ap (λ (t : NamesValue). finite.get t dotted) made ∙ has)
