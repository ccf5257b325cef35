-- Rows of octets, and their lines, one after another.
use Rattle.std.proofs.Common.{◌≡◌, ◌<◌, inl, inr, ℕ, zero, suc, ◌+◌, Bool, true, false, ◌++◌, ◌∷◌, [], List, length}
use Rattle.std.proofs.Common.{arith, refl, sym, ap, ◌∙◌, append_assoc}
use Rattle.std.specs.Prelude.{Option, Some, None, codes, eqb, flat_map, map, nat_lt}
use Rattle.std.specs.Option.{option_map_or}
use Rattle.std.proofs.lemmas.Bool.{cases_Bool}
use Rattle.std.proofs.lemmas.Bool.Decides.{nat_tests}
use Rattle.tlv_io.specs.Cuts.{last_rows}
use Rattle.tlv_head.specs.declared.kind.Kind.{Kind}
use Rattle.tlv_value.specs.declared.layout.Layout.{Layout}
use Rattle.tlv_value.specs.Layout.{inner_line, shown_rows}
use Rattle.tlv_value.specs.Rows.{rows_of}
use Rattle.tlv_value.specs.RowsSoFar.{full_rows, open_row}
use Rattle.tlv_value.specs.TextBeside.{row_text_with, shown_row_lines_with}
use Rattle.tlv_value.specs.ValueTextState.{row_by_limit, row_line, row_lines}
use Rattle.tlv_value.proofs.RowLemmas.OneCut.{rows-parts}

-- ---- rows with a number of others before them, and all rows

-- of no rows none is shown, and no dots
no-rows : (limit : Option ℕ) → shown_rows limit [] ≡ []
no-rows None = refl
no-rows (Some limit) = let b : nat_lt limit 0 ≡ false = grind (arith, nat_tests) in rw b refl

-- a row below the limit
row-below : (limit : ℕ) (text : List ℕ) (texts : List (List ℕ))
    → shown_rows (Some (suc limit)) (text ∷ texts) ≡ text ∷ shown_rows (Some limit) texts
row-below limit text texts =
    elim (cases_Bool (nat_lt limit (length texts))) [
      | inl more ↦
          let b : nat_lt (suc limit) (length (text ∷ texts)) ≡ true = grind (arith, nat_tests, more) in
          rw (b, more) refl
      | inr no_more ↦
          let b : nat_lt (suc limit) (length (text ∷ texts)) ≡ false = grind (arith, nat_tests, no_more) in
          rw (b, no_more) refl
    ]

-- the row at the limit
row-at : (text : List ℕ) (texts : List (List ℕ)) → shown_rows (Some 0) (text ∷ texts) ≡ codes "..." ∷ []
row-at text texts = let b : nat_lt 0 (length (text ∷ texts)) ≡ true = grind (arith, nat_tests) in rw b refl

module _ (line_of text_of : List ℕ → List ℕ) where
  -- what `row_lines` is for any limit, line and text
  abbrev counted : Option ℕ → ℕ → List (List ℕ) → List ℕ
  counted limit i [] = []
  counted limit i (row ∷ rows) =
      option_map_or line_of (row_by_limit limit i (text_of row)) [] ++ counted limit (i + 1) rows

  counted-unlimited : (i : ℕ) (rows : List (List ℕ)) → counted None i rows ≡ flat_map line_of (map text_of rows)
  counted-unlimited i [] = refl
  counted-unlimited i (row ∷ rows) =
      ap (λ (t : List ℕ). line_of (text_of row) ++ t) (counted-unlimited (i + 1) rows)

  -- after the row at the limit there are no lines
  counted-after : (limit i : ℕ) (rows : List (List ℕ)) → limit < i → counted (Some limit) i rows ≡ []
  counted-after limit i [] after = refl
  counted-after limit i (row ∷ rows) after =
      let b : nat_lt i limit ≡ false = grind (arith, nat_tests) in
      let c : eqb i limit ≡ false = grind (arith, nat_tests) in
      rw (b, c) (counted-after limit (i + 1) rows (omega (arith, after)))

  -- with i rows before them: the limit for the rows that follow is what is left of it
  counted-limited : (i left : ℕ) (rows : List (List ℕ))
      → counted (Some (i + left)) i rows ≡ flat_map line_of (shown_rows (Some left) (map text_of rows))
  counted-limited i left [] = ap (flat_map line_of) (sym (no-rows (Some left)))
  counted-limited i zero (row ∷ rows) =
      let b : nat_lt i (i + 0) ≡ false = grind (arith, nat_tests) in
      let c : eqb i (i + 0) ≡ true = grind (arith, nat_tests) in
      rw (b, c)
      (ap (λ (t : List ℕ). line_of (codes "...") ++ t) (counted-after (i + 0) (i + 1) rows (omega arith))
      ∙ ap (flat_map line_of) (sym (row-at (text_of row) (map text_of rows))))
  counted-limited i (suc left) (row ∷ rows) =
      let b : nat_lt i (i + suc left) ≡ true = grind (arith, nat_tests) in
      let e : i + suc left ≡ i + 1 + left = omega arith in
      rw b
      (ap (λ (t : List ℕ). line_of (text_of row) ++ t)
      (ap (λ (limit : ℕ). counted (Some limit) (i + 1) rows) e ∙ counted-limited (i + 1) left rows)
      ∙ ap (flat_map line_of) (sym (row-below left (text_of row) (map text_of rows))))

  -- with no rows before them
  counted-all : (limit : Option ℕ) (rows : List (List ℕ))
      → counted limit 0 rows ≡ flat_map line_of (shown_rows limit (map text_of rows))
  counted-all None rows = counted-unlimited 0 rows
  counted-all (Some limit) rows =
      let e : limit ≡ 0 + limit = omega arith in
      ap (λ (n : ℕ). counted (Some n) 0 rows) e ∙ counted-limited 0 limit rows

row_lines-counted : (with_text : Bool) (kind : Kind) (layout : Layout) (i : ℕ) (rows : List (List ℕ))
    → row_lines with_text kind layout i rows
    ≡ counted (inner_line layout) (row_text_with with_text kind) layout.limit i rows
row_lines-counted with_text kind layout i [] = refl
row_lines-counted with_text kind layout i (row ∷ rows) =
    ap (λ (t : List ℕ). row_line layout i (row_text_with with_text kind row) ++ t)
    (row_lines-counted with_text kind layout (i + 1) rows)

-- with no rows before them
pub row_lines-all : (with_text : Bool) (kind : Kind) (layout : Layout) (rows : List (List ℕ))
    → row_lines with_text kind layout 0 rows ≡ shown_row_lines_with with_text kind layout rows
row_lines-all with_text kind layout rows =
    row_lines-counted with_text kind layout 0 rows
    ∙ counted-all (inner_line layout) (row_text_with with_text kind) layout.limit rows

-- no rows
pub no-row_lines : (with_text : Bool) (kind : Kind) (layout : Layout) → shown_row_lines_with with_text kind layout [] ≡ []
no-row_lines with_text kind layout = ap (flat_map (inner_line layout)) (no-rows layout.limit)

-- ---- rows, and others after them

pub row_lines-append : (with_text : Bool) (kind : Kind) (layout : Layout) (i : ℕ) (xs ys : List (List ℕ))
    → row_lines with_text kind layout i (xs ++ ys) ≡ row_lines with_text kind layout i xs ++ row_lines with_text kind layout (i + length xs) ys
row_lines-append with_text kind layout i [] ys = let e : i + 0 ≡ i = omega arith in rw e refl
row_lines-append with_text kind layout i (x ∷ xs) ys =
    let e : i + 1 + length xs ≡ i + length (x ∷ xs) = omega arith in
    ap (λ (t : List ℕ). row_line layout i (row_text_with with_text kind x) ++ t)
    (row_lines-append with_text kind layout (i + 1) xs ys
    ∙ ap (λ (n : ℕ). row_lines with_text kind layout (i + 1) xs ++ row_lines with_text kind layout n ys) e)
    ∙ sym (append_assoc (row_line layout i (row_text_with with_text kind x)) (row_lines with_text kind layout (i + 1) xs)
    (row_lines with_text kind layout (i + length (x ∷ xs)) ys))

-- all rows, and the last
pub rows-split : (with_text : Bool) (kind : Kind) (layout : Layout) (octets : List ℕ)
    → row_lines with_text kind layout 0 (full_rows kind [] octets)
    ++ row_lines with_text kind layout (length (full_rows kind [] octets)) (last_rows (open_row kind [] octets))
    ≡ shown_row_lines_with with_text kind layout (rows_of kind octets)
rows-split with_text kind layout octets =
    let e : 0 + length (full_rows kind [] octets) ≡ length (full_rows kind [] octets) = omega arith in
    ap (λ (n : ℕ). row_lines with_text kind layout 0 (full_rows kind [] octets)
    ++ row_lines with_text kind layout n (last_rows (open_row kind [] octets)))
    (sym e)
    ∙ sym (row_lines-append with_text kind layout 0 (full_rows kind [] octets) (last_rows (open_row kind [] octets)))
    ∙ ap (row_lines with_text kind layout 0) (sym (rows-parts kind octets))
    ∙ row_lines-all with_text kind layout (rows_of kind octets)
