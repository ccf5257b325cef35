-- The names file: lines of an object identifier and its name.
use Rattle.std.specs.Prelude.{ℕ, ◌+◌, ◌==◌, Bool, false, ◌&&◌, ◌||◌, not, nat_le, nat_lt, if◌then◌else◌}
use Rattle.std.specs.Prelude.{List, [], ◌∷◌, ◌++◌, length, map, flat_map, slice_index, Option, Some}
use Rattle.std.specs.Prelude.{None, Result, Ok, Err}
use Rattle.std.specs.Char.{is_ascii_digit}
use Rattle.std.specs.List.{list_all, list_any, onto_first, slice_split, before_first, after_first}
use Rattle.std.specs.Option.{option_map_or, option_or}
use Rattle.std.specs.Ordering.{nat_cmp}
use Rattle.std.specs.Cmp.Lexicographic.{slice_cmp}
use Rattle.std.specs.Str.{bytes_eq}
use Rattle.std.specs.Str.Lines.{strip_carriage_return}
use Rattle.std.specs.Str.Parse.{digits_value}
use Rattle.std.specs.Coded.{Coded, coded_list, coded_ℕ}
use Rattle.std.specs.FinMap as finite
use Rattle.tlv_value.specs.Units.{is_printable}
use Rattle.tlv_value.specs.declared.names.fault.NamesFault.{NamesFault}
use Rattle.tlv_value.specs.declared.names.fault.NamesFault.TheVariants.{BadOid, BadName, Repeated, TooLarge}

-- what a names file gives: a finite map from dotted texts to names. The first argument of `FinMap` is the order of the
-- dotted texts, octet by octet; the second is the type of the names
abbrev pub NamesValue : Type 0
NamesValue = finite.FinMap (slice_cmp nat_cmp) (List ℕ)

-- how the kit codes such a table, for `Model`
abbrev pub table_code : Coded NamesValue
table_code = finite.code (coded_list coded_ℕ) (coded_list coded_ℕ)

-- a dotted text and its name
abbrev pub Entry : Type 0
Entry = List ℕ × List ℕ

-- a line is the octets up to an LF (0a) or the end; after a last LF there is none
abbrev pub file_lines : List ℕ → List (List ℕ)
file_lines [] = []
file_lines (x ∷ xs) = if x == 0x0a then [] ∷ file_lines xs else onto_first x (file_lines xs)

-- a space (20) or a tab (09)
abbrev pub is_blank : ℕ → Bool
is_blank x = (x == 0x20) || (x == 0x09)

abbrev pub without_first_blanks : List ℕ → List ℕ
without_first_blanks [] = []
without_first_blanks (x ∷ xs) = if is_blank x then without_first_blanks xs else x ∷ xs

abbrev pub without_last_blanks : List ℕ → List ℕ
without_last_blanks [] = []
without_last_blanks (x ∷ xs) = if list_all is_blank (x ∷ xs) then [] else x ∷ without_last_blanks xs

abbrev pub without_outer_blanks : List ℕ → List ℕ
without_outer_blanks octets = without_last_blanks (without_first_blanks octets)

-- digits without a leading zero (30); 0 itself is an arc
abbrev pub is_arc : List ℕ → Bool
is_arc part =
    not (length part == 0)
    && list_all is_ascii_digit part
    && ((length part == 1) || not (slice_index part 0 == 0x30))

-- X.660: the first arc is 0, 1 or 2, and if it is 0 or 1, the second is at most 39
abbrev pub may_begin : List ℕ → List ℕ → Bool
may_begin first second =
    (digits_value 10 first == 2) || (nat_lt (digits_value 10 first) 2 && nat_le (digits_value 10 second) 39)

abbrev pub are_first_arcs : List (List ℕ) → Bool
are_first_arcs [] = false
are_first_arcs (first ∷ []) = false
are_first_arcs (first ∷ second ∷ more) = may_begin first second

-- the parts between dots (2e)
abbrev pub dotted_parts : List ℕ → List (List ℕ)
dotted_parts text = slice_split (λ x. x == 0x2e) text

-- two or more arcs, with dots between them
abbrev pub is_dotted : List ℕ → Bool
is_dotted text = list_all is_arc (dotted_parts text) && are_first_arcs (dotted_parts text)

-- one or more printable octets
abbrev pub is_name : List ℕ → Bool
is_name text = not (length text == 0) && list_all is_printable text

-- what a line of a names file says
pub data NamesLine : Type 0 where
  -- nothing: it is blank or a comment
  no_entry : NamesLine
  -- a dotted text, and its name
  entry : List ℕ → List ℕ → NamesLine
  no_object_identifier : NamesLine
  no_name : NamesLine
  long_line : NamesLine

-- what a line with these two parts says
abbrev pub pair_line : List ℕ → List ℕ → NamesLine
pair_line dotted name =
    if is_dotted dotted
    then (if is_name name then entry dotted name else no_name)
    else no_object_identifier

-- 23 is #, the mark of a comment
abbrev pub entry_line : List ℕ → NamesLine
entry_line [] = no_entry
entry_line (x ∷ xs) =
    if x == 0x23 then no_entry
    else pair_line (before_first is_blank (x ∷ xs)) (without_first_blanks (after_first is_blank (x ∷ xs)))

-- the largest number of octets in a line, its CR included
abbrev pub line_limit : ℕ
line_limit = 400

-- what a line says; a line with more octets is not checked further
abbrev pub names_line : List ℕ → NamesLine
names_line octets =
    if nat_lt line_limit (length octets) then long_line
    else entry_line (without_outer_blanks (strip_carriage_return octets))

abbrev pub line_entries : NamesLine → List Entry
line_entries (entry dotted name) = (dotted, name) ∷ []
line_entries _ = []

abbrev pub entries_of : List NamesLine → List Entry
entries_of lines = flat_map line_entries lines

-- one of the entries has the dotted text
abbrev pub has_entry : List ℕ → List Entry → Bool
has_entry dotted entries = list_any (λ e. bytes_eq dotted e.0) entries

-- the largest number of entries in a table
abbrev pub entry_limit : ℕ
entry_limit = 65536

-- why a line below others is refused, if it is; lines are numbered from 1
abbrev pub line_refusal : List NamesLine → NamesLine → Option NamesFault
line_refusal above no_entry = None
line_refusal above (entry dotted name) =
    if has_entry dotted (entries_of above) then Some (Repeated (length above + 1))
    else (if nat_le entry_limit (length (entries_of above)) then Some TooLarge else None)
line_refusal above no_object_identifier = Some (BadOid (length above + 1))
line_refusal above no_name = Some (BadName (length above + 1))
line_refusal above long_line = Some TooLarge

-- the first refusal among lines below others
abbrev pub first_refusal : List NamesLine → List NamesLine → Option NamesFault
first_refusal above [] = None
first_refusal above (line ∷ below) =
    option_or (line_refusal above line) (first_refusal (above ++ line ∷ []) below)

abbrev pub table_of : List NamesLine → Result NamesValue NamesFault
table_of lines = option_map_or Err (first_refusal [] lines) (Ok (finite.from_entries (entries_of lines)))

-- what the octets of a names file say: the table of all lines, or the first refusal
abbrev pub names_of : List ℕ → Result NamesValue NamesFault
names_of octets = table_of (map names_line (file_lines octets))
