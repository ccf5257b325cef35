-- Steps of reading the rows of a dump.
use Rattle.std.proofs.Common.{◌≡◌, ℕ, ◌+◌, ◌-◌, ◌≤◌, Bool, true, false, List, [], ◌∷◌, ◌++◌, length, refl, ap, sym}
use Rattle.std.proofs.Common.{◌∙◌, append_assoc, arith, subst, Option, Some, None}
use Rattle.std.specs.List.{list_all}
use Rattle.std.specs.Prelude.{if◌then◌else◌}
use Rattle.std.proofs.lemmas.Bool.{eq-eqb, ne_eqb}
use Rattle.std.proofs.lemmas.List.{append-nil}
use Rattle.tlv_text.proofs.DumpOutputLemmas.{added-both, repeated-once}
use Rattle.tlv_text.specs.Dump.{DumpPlace, Step, first_then, dump_place_after, dump_place_at, rows_read}
use Rattle.tlv_text.specs.TextRead.{PartRead, refused_with}
use Rattle.tlv_text.specs.Dump.{dump_line_step, dump_row_step, dump_step_then, is_full, octets_repeated, times_before}
use Rattle.tlv_text.specs.Dump.{octets_or_none, times_in, with_row}
use Rattle.tlv_text.specs.DumpLines.{LineKind, RowRead, TextLine, is_dump_blank, line_kind, new_text_line}
use Rattle.tlv_text.specs.DumpPairs.{dump_row_octets, octets_if}
use Rattle.tlv_text.specs.Private.DumpSteps.{IsAdded, IsFirstRow, IsTaken, RowHolds, Reads, dump_place_of}
use Rattle.tlv_text.specs.Private.PairSteps.{pair_octets}
use Rattle.tlv_text.specs.declared.dump.Reading.{Reading}
use Rattle.tlv_text.specs.declared.dump.lines.Radix.{Radix}
use Rattle.tlv_text.specs.declared.dump.output.Output.{Output}
use Rattle.tlv_text.specs.declared.dump.rows.LastRow.{LastRow}
use Rattle.tlv_text.specs.declared.dump.rows.Phase.{Phase}

-- octets are added of what is read, and the others remain
pub record IsDumpReadSoFar (all others : PartRead) (old new : Output) : Type 0 where
  pub so_far : List ℕ
  pub added : IsAdded so_far old new
  pub are : all.octets ≡ so_far ++ others.octets
  pub left : all.left ≡ others.left

-- a row comes at the offset that follows
at-next : (size offset more : ℕ) (place : DumpPlace) → place.offset ≤ offset → more ≡ offset - place.offset
    → more ≡ length place.octets → times_in size Phase.Row place offset ≡ Some 0
at-next size offset more place le m same =
    rw (eq-eqb offset (place.offset + length place.octets) (omega arith)) refl

not-at_next : (size offset more : ℕ) (place : DumpPlace) → place.offset ≤ offset → more ≡ offset - place.offset
    → (more ≡ length place.octets → ⊥) → times_in size Phase.Row place offset ≡ None
not-at_next size offset more place le m other =
    rw (ne_eqb offset (place.offset + length place.octets) (λ e. other (omega arith))) refl

pub row-at_next : (size offset more : ℕ) (place : DumpPlace) → place.phase ≡ Phase.Row → place.offset ≤ offset
    → more ≡ offset - place.offset → more ≡ length place.octets → Some 0 ≡ times_before size place offset
row-at_next size offset more place e le m same =
    sym (ap (λ (p : Phase). times_in size p place offset) e ∙ at-next size offset more place le m same)

pub row-not_next : (size offset more : ℕ) (place : DumpPlace) → place.phase ≡ Phase.Row → place.offset ≤ offset
    → more ≡ offset - place.offset → (more ≡ length place.octets → ⊥) → None ≡ times_before size place offset
row-not_next size offset more place e le m other =
    sym (ap (λ (p : Phase). times_in size p place offset) e ∙ not-at_next size offset more place le m other)

-- ---- a line after the first row

line-read : (radix : Radix) (size left : ℕ) (place : DumpPlace) (line : List ℕ) (lines : List TextLine)
    (found : Option Step) → found ≡ dump_line_step size place left (line_kind radix line)
    → rows_read radix size place (new_text_line line left ∷ lines)
    ≡ dump_step_then found left (rows_read radix size (dump_place_after found place) lines)
line-read radix size left place line lines found e =
    ap (λ (n : Option Step). dump_step_then n left (rows_read radix size (dump_place_after n place) lines)) (sym e)

-- a line that is not taken
pub not-taken : (found : Option Step) (fits : Bool) (row : LastRow) (old new : Output) → fits ≡ false
    → IsTaken found fits row old new → (found ≡ None) × (old ≡ new)
not-taken (Some s) true row old new e t = cc e
not-taken (Some s) false row old new e t = absurd t
not-taken None true row old new e t = absurd t
not-taken None false row old new e t = (refl, t)

pub line-refused : (all more : PartRead) (radix : Radix) (size left : ℕ) (last row : LastRow) (line : List ℕ)
    (kind : LineKind) (lines : List TextLine) (fits : Bool) (x y z : Output)
    → IsDumpReadSoFar all more x y → more ≡ rows_read radix size (dump_place_of last) (new_text_line line left ∷ lines)
    → kind ≡ line_kind radix line → fits ≡ false
    → IsTaken (dump_line_step size (dump_place_of last) left kind) fits row y z → IsDumpReadSoFar all (refused_with left) x z
line-refused all more radix size left last row line kind lines fits x y z i e k f t =
    let n = not-taken (dump_line_step size (dump_place_of last) left kind) fits row y z f t in
    let found : None ≡ dump_line_step size (dump_place_of last) left (line_kind radix line) =
    sym n.0 ∙ ap (dump_line_step size (dump_place_of last) left) k in
    let same : more ≡ refused_with left = e ∙ line-read radix size left (dump_place_of last) line lines None found in
    subst (λ (out : Output). IsDumpReadSoFar all (refused_with left) x out) n.1
    (subst (λ (r : PartRead). IsDumpReadSoFar all r x y) same i)

pub is-taken : (found : Option Step) (fits : Bool) (row : LastRow) (old new : Output) → fits ≡ true
    → IsTaken found fits row old new
    → (s : Step) × (found ≡ Some s) × (dump_place_of row ≡ s.place) × IsAdded s.octets old new
is-taken (Some s) true row old new e t = (s, refl, t.0, t.1)
is-taken (Some s) false row old new e t = absurd t
is-taken None true row old new e t = absurd t
is-taken None false row old new e t = cc e

pub line-taken : (all more : PartRead) (radix : Radix) (size left : ℕ) (last row : LastRow) (line : List ℕ)
    (kind : LineKind) (lines : List TextLine) (fits : Bool) (x y z : Output)
    → IsDumpReadSoFar all more x y → more ≡ rows_read radix size (dump_place_of last) (new_text_line line left ∷ lines)
    → kind ≡ line_kind radix line → fits ≡ true
    → IsTaken (dump_line_step size (dump_place_of last) left kind) fits row y z
    → IsDumpReadSoFar all (rows_read radix size (dump_place_of row) lines) x z
line-taken all more radix size left last row line kind lines fits x y z i e k f t =
    let n = is-taken (dump_line_step size (dump_place_of last) left kind) fits row y z f t in
    let s : Step = n.0 in
    let found : Some s ≡ dump_line_step size (dump_place_of last) left (line_kind radix line) =
    sym n.1 ∙ ap (dump_line_step size (dump_place_of last) left) k in
    let rest : PartRead = rows_read radix size (dump_place_of row) lines in
    let same : more ≡ dump_step_then (Some s) left rest =
    e ∙ line-read radix size left (dump_place_of last) line lines (Some s) found
    ∙ ap (λ (p : DumpPlace). dump_step_then (Some s) left (rows_read radix size p lines)) (sym n.2) in
    record {
      so_far = i.so_far ++ s.octets;
      added = added-both i.so_far s.octets x y z i.added n.3;
      are = i.are ∙ ap (λ (r : PartRead). i.so_far ++ r.octets) same ∙ sym (append_assoc i.so_far s.octets rest.octets);
      left = i.left ∙ ap (λ (r : PartRead). r.left) same;
    }

-- a row with pairs
pub row-taken : (size times : ℕ) (place : DumpPlace) (r : RowRead) (row : LastRow) (x y z : Output)
    → dump_place_of row ≡ dump_place_at Phase.Row r.offset (pair_octets row.digits.items)
    → Some times ≡ times_before size place r.offset → list_all is_dump_blank r.rest ≡ false → is_full size place ≡ true
    → Some (pair_octets row.digits.items) ≡ dump_row_octets size r → IsAdded (octets_repeated times place.octets) x y
    → IsAdded (pair_octets row.digits.items) y z
    → IsTaken (dump_row_step size place r (times_before size place r.offset)) true row x z
row-taken size times place r row x y z at_row found pairs full octets first second =
    let before : List ℕ = octets_repeated times place.octets in
    let by : Bool → Bool → Option (List ℕ) → Option Step = λ blank is_full_row more.
    if blank then Some (record { octets = before; place = record place { phase = Phase.End } })
    else (if is_full_row then with_row before r.offset more else None) in
    let step : dump_row_step size place r (Some times) ≡ by false true (Some (pair_octets row.digits.items)) =
    ap (λ (b : Bool). by b (is_full size place) (dump_row_octets size r)) pairs
    ∙ ap (λ (b : Bool). by false b (dump_row_octets size r)) full
    ∙ ap (by false true) (sym octets) in
    subst (λ (s : Option Step). IsTaken s true row x z)
    (sym (ap (dump_row_step size place r) (sym found) ∙ step))
    (at_row, added-both before (pair_octets row.digits.items) x y z first second)

-- what is read of all lines
pub all-read : (all more : PartRead) (x y : Output) → IsDumpReadSoFar all more x y → more.octets ≡ []
    → IsAdded all.octets x y
all-read all more x y i none =
    let are : all.octets ≡ i.so_far =
    i.are ∙ ap (λ (t : List ℕ). i.so_far ++ t) none ∙ append-nil i.so_far in
    subst (λ (t : List ℕ). IsAdded t x y) (sym are) i.added

-- ---- the first row

pub first-added : (fits : Bool) (octets : List ℕ) (old new : Output) → IsAdded octets old new
    → IsFirstRow (octets_if fits octets) fits old new
first-added true octets old new added = added
first-added false octets old new added = record {}

pub first-refused : (limit : ℕ) (first : Option (List ℕ)) (fits : Bool) (x y : Output) (left : ℕ) (more : PartRead)
    (reading : Reading) → fits ≡ false → IsFirstRow first fits x y → Reads limit (refused_with left) reading
    → Reads limit (first_then first left more) reading
first-refused limit (Some octets) true x y left more reading e t r = cc e
first-refused limit (Some octets) false x y left more reading e t r = absurd t
first-refused limit None true x y left more reading e t r = absurd t
first-refused limit None false x y left more reading e t r = r

pub first-read : (limit : ℕ) (first : Option (List ℕ)) (fits : Bool) (x y : Output) (left : ℕ) (more : PartRead)
    (reading : Reading) → fits ≡ true → IsFirstRow first fits x y → RowHolds limit x []
    → IsAdded more.octets y reading.output → reading.left ≡ more.left → Reads limit (first_then first left more) reading
first-read limit (Some octets) true x y left more reading e t h a l =
    record { output = a limit octets (t limit [] h); left = l }
first-read limit (Some octets) false x y left more reading e t h a l = absurd t
first-read limit None true x y left more reading e t h a l = absurd t
first-read limit None false x y left more reading e t h a l = cc e

-- the same for a row among others, whose octets are the first ones
pub first-among : (limit : ℕ) (found : Option (List ℕ)) (row : List ℕ) (x y : Output) (left offset : ℕ)
    (read : DumpPlace → PartRead) (reading : Reading) → Some row ≡ found → RowHolds limit x []
    → IsAdded (octets_repeated 1 row) x y → IsAdded (read (dump_place_at Phase.Row offset row)).octets y reading.output
    → reading.left ≡ (read (dump_place_at Phase.Row offset row)).left
    → Reads limit (first_then found left (read (dump_place_at Phase.Row offset (octets_or_none found)))) reading
first-among limit found row x y left offset read reading is h t a l =
    subst
    (λ (f : Option (List ℕ)).
    Reads limit (first_then f left (read (dump_place_at Phase.Row offset (octets_or_none f)))) reading)
    is
    (record {
      output = a limit row (subst (λ (o : List ℕ). RowHolds limit y o) (repeated-once row) (t limit [] h));
      left = l;
    })

-- the place of a row without digits
pub place-of_none : (phase : Phase) (offset : ℕ) (digits : List ℕ) → digits ≡ []
    → dump_place_at phase offset (pair_octets digits) ≡ dump_place_at phase offset []
place-of_none phase offset digits e = ap (λ (d : List ℕ). dump_place_at phase offset (pair_octets d)) e
