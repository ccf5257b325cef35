-- Contents are cut into rows in one way alone: the rows of a cut are those that octets fill one after another. So what
-- is kept of them between pieces can be said of the cut.
use Rattle.std.proofs.Common.{◌≡◌, inl, inr, ℕ, ◌+◌, ◌<◌, ◌≤◌, Bool, true, false, List, [], ◌∷◌, ◌++◌, length, get_or}
use Rattle.std.proofs.Common.{refl, sym, ap, ap₂, ◌∙◌, arith, append_assoc, append-nil, length-append}
use Rattle.std.proofs.Math.Seq.{drop-append_seam, get_or-append_seam, take-append_seam}
use Rattle.std.proofs.lemmas.Bool.{eqb-true}
use Rattle.std.proofs.lemmas.Bool.Decides.{nat_tests}
use Rattle.std.proofs.lemmas.List.{get_or_append_left}
use Rattle.std.specs.Prelude.{eqb, if◌then◌else◌, All}
use Rattle.std.specs.List.{concat}
use Rattle.std.proofs.lemmas.List.Elements.{All-head, All-tail}
use Rattle.tlv_io.specs.Cuts.{AreFull, IsFull, IsRow, last_rows}
use Rattle.tlv_io.proofs.CutOf.{nil-or}
use Rattle.tlv_head.specs.declared.kind.Kind.{Kind}
use Rattle.tlv_value.specs.RowSizes.{character_length, row_size, IsOpenRow}
use Rattle.tlv_value.specs.Laws.{RowsHaveOneCut}
use Rattle.tlv_value.specs.Private.Room.{HaveRoom}
use Rattle.tlv_value.proofs.RowLemmas.FilledRows.{row_begun, rows_filled}
use Rattle.tlv_value.proofs.RowLemmas.RowsFilled.{last-row, rows-are_cut, rows-filled}
use Rattle.tlv_value.specs.Rows.{full_rows_in, rows_of}
use Rattle.tlv_value.specs.RowsSoFar.{full_rows, open_row, open_row_in}
use Rattle.tlv_value.proofs.RowLemmas.RowSteps.{FillsRow, begun-open, rest-stays_in_row, none-open, one_fits, open-room}
use Rattle.tlv_value.proofs.RowLemmas.RowSteps.{steps-join}
use Rattle.tlv_value.proofs.RowLemmas.RowSteps.{next_row}

module _ (kind : Kind) where
  abbrev Row : List ℕ → Type 0
  Row row = IsRow (row_size kind) (character_length kind) row

  has-octet : (row : List ℕ) → Row row → 1 ≤ length row
  has-octet row r = nil-or row r.some

  -- each octet of a row has room after those before it
  row-room : (row rest : List ℕ) → Row row
      → HaveRoom kind 0 (row ++ rest) (length row)
  row-room row rest r i h =
      let same : get_or (row ++ rest) i 0 ≡ get_or row i 0 = get_or_append_left row rest 0 i h in
      let room = r.splits_none i h in
      rw same (grind (arith, nat_tests))

  -- a row that is full by the condition on rows
  as-filled : (row next rest : List ℕ) → 1 ≤ length next → IsFull (row_size kind) (character_length kind) row next
      → FillsRow kind [] (length row) (row ++ (next ++ rest))
  as-filled row next rest h (inl e) = inl (omega arith)
  as-filled row [] rest h (inr f) = absurd (omega arith)
  as-filled row (x ∷ next) rest h (inr f) =
      let next-octet : get_or (row ++ x ∷ (next ++ rest)) (length row) 0 ≡ x =
      get_or-append_seam row x (next ++ rest) 0 in
      let place : 0 + length row ≡ length row = omega arith in
      inr (omega (arith, length-append row (x ∷ (next ++ rest))), rw (place, next-octet) (grind (arith, nat_tests)))

  -- the rows that octets fill, and the row that has then begun
  abbrev AreParts : List ℕ → List (List ℕ) → List ℕ → Type 0
  AreParts octets rows row = (rows_filled kind [] octets ≡ rows) × (row_begun kind [] octets ≡ row)

  -- a full row, and the rows of the octets after it
  parts-first : (row rest : List ℕ) (rows : List (List ℕ)) (last : List ℕ)
      → Row row → FillsRow kind [] (length row) (row ++ rest)
      → AreParts rest rows last
      → AreParts (row ++ rest) (row ∷ rows) last
  parts-first row rest rows last r f more =
      let z = one_fits kind in
      let s = r.short in
      let t =
      next_row kind [] (length row) (row ++ rest) (row-room row rest r) (omega arith)
      (omega (arith, length-append row rest)) (omega arith) f in
      rw (t.0, t.1, take-append_seam row rest, drop-append_seam row rest)
      (ap (λ (x : List (List ℕ)). row ∷ x) more.0, more.1)

  -- a last row
  parts-last : (row : List ℕ) (full : Bool) → eqb (length row) (row_size kind) ≡ full
      → Row row
      → AreParts (row ++ []) (if full then row ∷ [] else []) (if full then [] else row)
  parts-last row true e r =
      let n : length row ≡ row_size kind = eqb-true (length row) (row_size kind) e in
      parts-first row [] [] [] r (inl (omega arith)) (refl, refl)
  parts-last row false e r =
      let s = r.short in
      let room : HaveRoom kind 0 row (length row) = rw (append-nil row) at (row-room row [] r) in
      let short : length row < row_size kind = grind (arith, nat_tests) in
      rw (append-nil row) (rest-stays_in_row kind [] row room (omega arith))

  -- the parts of a cut
  parts : (rows : List (List ℕ)) → All Row rows → AreFull (row_size kind) (character_length kind) rows
      → AreParts (concat rows) (full_rows_in kind rows) (open_row_in kind rows)
  parts [] each full = (refl, refl)
  parts (row ∷ []) each full = parts-last row (eqb (length row) (row_size kind)) refl (All-head Row row [] each)
  parts (row ∷ next ∷ rows) each full =
      let after = All-tail Row row (next ∷ rows) each in
      parts-first row (concat (next ∷ rows)) (full_rows_in kind (next ∷ rows)) (open_row_in kind (next ∷ rows))
      (All-head Row row (next ∷ rows) each)
      (as-filled row next (concat rows) (has-octet next (All-head Row next rows after)) full.0)
      (parts (next ∷ rows) after full.1)

  -- its full rows and the octets of the last one are all of it
  last-part : (row : List ℕ) (full : Bool) → 1 ≤ length row
      → (if full then row ∷ [] else []) ++ last_rows (if full then [] else row) ≡ row ∷ []
  last-part row true h = refl
  last-part row false h = last-row row h

  all-parts : (rows : List (List ℕ)) → All Row rows → full_rows_in kind rows ++ last_rows (open_row_in kind rows) ≡ rows
  all-parts [] each = refl
  all-parts (row ∷ []) each =
      last-part row (eqb (length row) (row_size kind)) (has-octet row (All-head Row row [] each))
  all-parts (row ∷ next ∷ rows) each =
      ap (λ (x : List (List ℕ)). row ∷ x) (all-parts (next ∷ rows) (All-tail Row row (next ∷ rows) each))

pub rows-one-cut : RowsHaveOneCut
rows-one-cut kind octets rows cut =
    let p = rw cut.together at (parts kind rows cut.each cut.full) in
    sym (all-parts kind rows cut.each)
    ∙ ap₂ (λ (full : List (List ℕ)) (last : List ℕ). full ++ last_rows last) (sym p.0) (sym p.1)
    ∙ sym (rows-filled kind octets)

-- ---- what is kept between pieces

-- the rows that octets fill, and the row that they then begin, are the full rows of the cut and its last one
pub cut-parts : (kind : Kind) (octets : List ℕ)
    → (rows_filled kind [] octets ≡ full_rows_in kind (rows_of kind octets))
    × (row_begun kind [] octets ≡ open_row_in kind (rows_of kind octets))
cut-parts kind octets =
    let cut = rows-are_cut kind octets in
    rw cut.together at (parts kind (rows_of kind octets) cut.each cut.full)

-- all rows: the full ones, and the last
pub rows-parts : (kind : Kind) (octets : List ℕ)
    → rows_of kind octets ≡ full_rows kind [] octets ++ last_rows (open_row kind [] octets)
rows-parts kind octets = sym (all-parts kind (rows_of kind octets) (rows-are_cut kind octets).each)

-- so it is after an open row
pub open-parts : (kind : Kind) (row octets : List ℕ) → IsOpenRow kind row
    → (rows_filled kind row octets ≡ full_rows kind row octets) × (row_begun kind row octets ≡ open_row kind row octets)
open-parts kind row octets begun =
    let short = begun.short in
    let k = rest-stays_in_row kind [] row (open-room kind row begun) (omega arith) in
    let j = steps-join kind [] row octets in
    let p = cut-parts kind (row ++ octets) in
    let filled = ap₂ (λ (rows : List (List ℕ)) (r : List ℕ). rows ++ rows_filled kind r octets) k.0 k.1 in
    let last = ap (λ (r : List ℕ). row_begun kind r octets) k.1 in
    (sym (j.0 ∙ filled) ∙ p.0, sym (j.1 ∙ last) ∙ p.1)

-- two pieces in order have the rows of one
pub rows-join : (kind : Kind) (row x y : List ℕ)
    → (full_rows kind row (x ++ y) ≡ full_rows kind row x ++ full_rows kind (open_row kind row x) y)
    × (open_row kind row (x ++ y) ≡ open_row kind (open_row kind row x) y)
rows-join kind row x y =
    let cut = cut-parts kind (row ++ x) in
    let all = cut-parts kind ((row ++ x) ++ y) in
    let j = steps-join kind [] (row ++ x) y in
    let p = open-parts kind (row_begun kind [] (row ++ x)) y (begun-open kind [] (row ++ x) (none-open kind)) in
    let one : (row ++ x) ++ y ≡ row ++ (x ++ y) = append_assoc row x y in
    let full = ap₂ (λ (rows : List (List ℕ)) (r : List ℕ). rows ++ full_rows kind r y) cut.0 cut.1 in
    let begun = ap (λ (r : List ℕ). open_row kind r y) cut.1 in
    let joined = ap (λ (rows : List (List ℕ)). rows_filled kind [] (row ++ x) ++ rows) p.0 in
    (rw (← one) (sym all.0 ∙ j.0 ∙ joined ∙ full), rw (← one) (sym all.1 ∙ j.1 ∙ p.1 ∙ begun))
