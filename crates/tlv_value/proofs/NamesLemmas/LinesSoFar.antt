-- How far a names file is read.
use Rattle.std.proofs.Common.{◌≡◌, ℕ, ◌+◌, ◌<◌, ◌==◌, true, false, List, [], ◌∷◌, ◌++◌, length, map, take, drop, refl}
use Rattle.std.proofs.Common.{sym, ap, subst, ◌∙◌, arith, append_assoc, append-nil, length-append}
use Rattle.std.specs.Prelude.{Some, None, Result, Ok, Err, is_some, nat_le, String, Vec, string_bytes}
use Rattle.std.specs.List.{position_or_len}
use Rattle.std.specs.Option.{option_map_or}
use Rattle.std.specs.Result.{IsErrOf}
use Rattle.std.specs.HashMap.{HashMap}
use Rattle.std.specs.FinMap as finite
use Rattle.std.proofs.lemmas.Bool.{le-leb, lt-leb}
use Rattle.std.proofs.lemmas.List.{nil_from_length}
use Rattle.tlv_value.specs.Names.{Entry, NamesLine, NamesValue, entries_of, entry, first_refusal, has_entry}
use Rattle.tlv_value.specs.Names.{line_entries, file_lines, long_line, entry_limit, names_line, names_of, no_entry}
use Rattle.tlv_value.specs.Names.{no_name, no_object_identifier, line_refusal}
use Rattle.tlv_value.specs.NamesFields.{table_with, texts_in}
use Rattle.tlv_value.specs.Private.NamesSteps.{AddsLine, IsTableOf}
use Rattle.tlv_value.specs.declared.names.fault.NamesFault.{NamesFault}
use Rattle.tlv_value.specs.declared.names.fault.NamesFault.TheVariants.{BadOid, BadName, Repeated, TooLarge, ReadFailed}
use Rattle.tlv_value.specs.declared.names.fault.NamesFault.TheVariants.{Memory}
use Rattle.tlv_value.proofs.NamesLemmas.Texts.{first_line}
use Rattle.tlv_value.proofs.NamesLemmas.Tables.{among-table, table-push}

-- the table or refusal of lines that are below others
abbrev pub judgement : List NamesLine → List NamesLine → Result NamesValue NamesFault
judgement above below =
    option_map_or Err (first_refusal above below) (Ok (table_with (entries_of (above ++ below))))

-- so many lines are read, none is refused, and these are their entries
pub record LinesSoFar (octets rest : List ℕ) (number : ℕ) (es : List Entry) : Type 0 where
  above : List NamesLine
  same : names_of octets ≡ judgement above (map names_line (file_lines rest))
  count : length above ≡ number
  table : table_with es ≡ table_with (entries_of above)
  size : length es ≡ length (entries_of above)

entries-push : (above : List NamesLine) (line : NamesLine)
    → entries_of (above ++ line ∷ []) ≡ entries_of above ++ line_entries line
entries-push [] line = append-nil (line_entries line)
entries-push (x ∷ above) line =
    ap (λ (es : List Entry). line_entries x ++ es) (entries-push above line)
    ∙ sym (append_assoc (line_entries x) (entries_of above) (line_entries line))

judgement-more : (above below : List NamesLine) (line : NamesLine) → line_refusal above line ≡ None
    → judgement above (line ∷ below) ≡ judgement (above ++ line ∷ []) below
judgement-more above below line h = rw (h, append_assoc above (line ∷ []) below) refl

judgement-refused : (above below : List NamesLine) (line : NamesLine) (fault : NamesFault)
    → line_refusal above line ≡ Some fault → judgement above (line ∷ below) ≡ Err fault
judgement-refused above below line fault h = rw h refl

start-at : (octets : List ℕ) (es : List Entry) → es ≡ [] → LinesSoFar octets octets 0 es
start-at octets es e = record { above = []; same = refl; count = refl; table = ap table_with e; size = ap length e }

pub lines-start : {Z S : Type 0} (octets : List ℕ) (m : HashMap (String Z) (Vec ℕ Z) S) → m.entries ≡ []
    → LinesSoFar octets octets 0 (texts_in m)
lines-start {Z} octets m e =
    start-at octets (texts_in m)
    (ap (λ (es : List (String Z × Vec ℕ Z)). map {B = Entry} (λ e. (string_bytes e.0, e.1.items)) es) e)

pub lines-all : (octets rest : List ℕ) (number : ℕ) (es : List Entry) → LinesSoFar octets rest number es → length rest
    ≡ 0
    → names_of octets ≡ Ok (table_with es)
lines-all octets rest number es s h =
    let none : rest ≡ [] = nil_from_length rest h in
    s.same ∙ ap (λ (xs : List ℕ). judgement s.above (map names_line (file_lines xs))) none
    ∙ ap (λ (ls : List NamesLine). Ok (table_with (entries_of ls))) (append-nil s.above) ∙ ap Ok (sym s.table)

-- the next line
pub next_line : (rest : List ℕ) (end : ℕ) → 0 < length rest → end ≡ position_or_len (λ x. x == 10) rest
    → map names_line (file_lines rest) ≡ names_line (take end rest) ∷ map names_line (file_lines (drop (end + 1) rest))
next_line rest end h e =
    ap (map names_line) (first_line rest h)
    ∙ ap (λ n. names_line (take n rest) ∷ map names_line (file_lines (drop (n + 1) rest))) (sym e)

lines-next : (octets rest below : List ℕ) (number : ℕ) (es new : List Entry) (line : NamesLine)
    (s : LinesSoFar octets rest number es)
    → map names_line (file_lines rest) ≡ line ∷ map names_line (file_lines below) → line_refusal s.above line ≡ None
    → table_with new ≡ table_with (entries_of s.above ++ line_entries line)
    → length new ≡ length (entries_of s.above ++ line_entries line)
    → LinesSoFar octets below (number + 1) new
lines-next octets rest below number es new line s e h t l = record {
  above = s.above ++ line ∷ [];
  same = s.same ∙ ap (judgement s.above) e ∙ judgement-more s.above (map names_line (file_lines below)) line h;
  count = let n : length s.above ≡ number = s.count in length-append s.above (line ∷ []) ∙ ap (λ n. n + 1) n;
  table = t ∙ ap table_with (sym (entries-push s.above line));
  size = l ∙ ap length (sym (entries-push s.above line));
}

among-above : (octets rest : List ℕ) (number : ℕ) (es : List Entry) (s : LinesSoFar octets rest number es) (q : List ℕ)
    → has_entry q (entries_of s.above) ≡ has_entry q es
among-above octets rest number es s q =
    among-table q (entries_of s.above) ∙ ap (λ (m : NamesValue). is_some (finite.get m q)) (sym s.table)
    ∙ sym (among-table q es)

-- the line is taken
pub line-taken : {T : Type 0} (octets rest below : List ℕ) (number : ℕ) (es new : List Entry) (u : T) (line : NamesLine)
    (s : LinesSoFar octets rest number es)
    → map names_line (file_lines rest) ≡ line ∷ map names_line (file_lines below)
    → AddsLine (number + 1) line es new (Ok u) → LinesSoFar octets below (number + 1) new
line-taken octets rest below number es new u no_entry s e a =
    lines-next octets rest below number es new no_entry s e refl
    (ap table_with a.1 ∙ s.table ∙ ap table_with (sym (append-nil (entries_of s.above))))
    (ap length a.1 ∙ s.size ∙ ap length (sym (append-nil (entries_of s.above))))
line-taken octets rest below number es new u (entry dotted name) s e a =
    let absent : has_entry dotted es ≡ false = a.0 in
    let few : nat_le entry_limit (length (entries_of s.above)) ≡ false =
    lt-leb entry_limit (length (entries_of s.above)) (omega (arith, a.1, s.size)) in
    let none : has_entry dotted (entries_of s.above) ≡ false = among-above octets rest number es s dotted ∙ absent in
    lines-next octets rest below number es new (entry dotted name) s e
    (rw (none, few) refl)
    (a.2 ∙ ap (λ (m : NamesValue). finite.insert m dotted name) s.table
    ∙ sym (table-push (entries_of s.above) dotted name none))
    (a.3 ∙ ap (λ n. n + 1) s.size ∙ sym (length-append (entries_of s.above) ((dotted, name) ∷ [])))
line-taken octets rest below number es new u no_object_identifier s e a = absurd (cc)
line-taken octets rest below number es new u no_name s e a = absurd (cc)
line-taken octets rest below number es new u long_line s e a = absurd (cc)

line-refusal : (octets rest below : List ℕ) (number : ℕ) (es : List Entry) (line : NamesLine) (fault : NamesFault)
    (s : LinesSoFar octets rest number es)
    → map names_line (file_lines rest) ≡ line ∷ map names_line (file_lines below)
    → line_refusal s.above line ≡ Some fault → names_of octets ≡ Err fault
line-refusal octets rest below number es line fault s e h =
    s.same ∙ ap (judgement s.above) e ∙ judgement-refused s.above (map names_line (file_lines below)) line fault h

same-fault : {T : Type 0} (a b : NamesFault) → IsErrOf {T = T} (Err a) b → a ≡ b
same-fault a b e = cc

-- the line is refused
pub line-refused_table : {Z S : Type 0} (T : Type 0) (octets rest below : List ℕ) (number : ℕ)
    (old new : HashMap (String Z) (Vec ℕ Z) S) (fault : NamesFault) (line : NamesLine)
    (s : LinesSoFar octets rest number (texts_in old))
    → map names_line (file_lines rest) ≡ line ∷ map names_line (file_lines below)
    → AddsLine {T = T} (number + 1) line (texts_in old) (texts_in new) (Err fault)
    → IsTableOf {Z = Z} {S = S} octets (Err fault)
line-refused_table T octets rest below number old new fault no_entry s e a = absurd (let h : false ≡ true = a.0 in cc)
line-refused_table T octets rest below number old new (BadOid n) (entry dotted name) s e a = absurd a
line-refused_table T octets rest below number old new (BadName n) (entry dotted name) s e a = absurd a
line-refused_table T octets rest below number old new (Repeated n) (entry dotted name) s e a =
    let known : has_entry dotted (texts_in old) ≡ true = a.0 in
    let line_number : length s.above + 1 ≡ n = ap (λ n. n + 1) s.count ∙ sym a.1 in
    line-refusal octets rest below number (texts_in old) (entry dotted name) (Repeated n) s e
    (rw (among-above octets rest number (texts_in old) s dotted, known, line_number) refl)
line-refused_table T octets rest below number old new TooLarge (entry dotted name) s e a =
    let absent : has_entry dotted (texts_in old) ≡ false = a.0 in
    let many : nat_le entry_limit (length (entries_of s.above)) ≡ true =
    le-leb entry_limit (length (entries_of s.above)) (omega (arith, a.1, s.size)) in
    line-refusal octets rest below number (texts_in old) (entry dotted name) TooLarge s e
    (rw (among-above octets rest number (texts_in old) s dotted, absent, many) refl)
line-refused_table T octets rest below number old new ReadFailed (entry dotted name) s e a = absurd a
line-refused_table T octets rest below number old new Memory (entry dotted name) s e a = tt
line-refused_table {Z} {S} T octets rest below number old new fault no_object_identifier s e a =
    subst (λ f. IsTableOf {Z = Z} {S = S} octets (Err f)) (sym (same-fault fault (BadOid (number + 1)) a))
    (line-refusal octets rest below number (texts_in old) no_object_identifier (BadOid (number + 1)) s e
    (ap (λ n. Some (BadOid (n + 1))) s.count))
line-refused_table {Z} {S} T octets rest below number old new fault no_name s e a =
    subst (λ f. IsTableOf {Z = Z} {S = S} octets (Err f)) (sym (same-fault fault (BadName (number + 1)) a))
    (line-refusal octets rest below number (texts_in old) no_name (BadName (number + 1)) s e
    (ap (λ n. Some (BadName (n + 1))) s.count))
line-refused_table {Z} {S} T octets rest below number old new fault long_line s e a =
    subst (λ f. IsTableOf {Z = Z} {S = S} octets (Err f)) (sym (same-fault fault TooLarge a))
    (line-refusal octets rest below number (texts_in old) long_line TooLarge s e refl)
