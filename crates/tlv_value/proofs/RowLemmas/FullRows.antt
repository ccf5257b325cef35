-- Full rows of pairs of digits, from where their octets are.
use Rattle.std.proofs.Common.{◌≡◌, inl, ℕ, zero, suc, ◌+◌, ◌-◌, ◌*◌, ◌/◌, ◌<◌, ◌≤◌, Bool, false, true, List, [], ◌∷◌, ◌++◌}
use Rattle.std.proofs.Common.{length, take, drop, get_or, refl, sym, ap, ap₂, ◌∙◌, arith, append_assoc, append-nil}
use Rattle.std.proofs.Common.{length-append, length-drop, take-append-drop}
use Rattle.std.specs.Prelude.{None, eqb}
use Rattle.std.proofs.lemmas.Bool.Decides.{nat_tests}
use Rattle.std.proofs.lemmas.List.{drop-drop, replicate_more, take_more}
use Rattle.std.proofs.lemmas.Grind.{flat_map-append}
use Rattle.std.specs.Simd.{first_chunks}
use Rattle.tlv_io.specs.Cuts.{last_rows}
use Rattle.tlv_head.specs.declared.kind.Kind.{Kind}
use Rattle.tlv_head.specs.declared.kind.Kind.TheVariants.{Octets, Boolean, Integer, Bits, Object, Relative, Text, Utf8}
use Rattle.tlv_head.specs.declared.kind.Kind.TheVariants.{Ucs2, Ucs4}
use Rattle.tlv_value.specs.declared.layout.Layout.{Layout}
use Rattle.tlv_value.specs.RowSizes.{character_length, row_size}
use Rattle.tlv_head.specs.Kind.{is_text}
use Rattle.tlv_value.specs.Layout.{spaces}
use Rattle.tlv_value.specs.Private.Room.{HaveRoom}
use Rattle.tlv_value.specs.Private.Rows.{pair_row_line, pair_row_lines, row_margin}
use Rattle.tlv_value.specs.Rows.{rows_of}
use Rattle.tlv_value.proofs.RowLemmas.FilledRows.{row_begun, rows_filled}
use Rattle.tlv_value.proofs.RowLemmas.RowsFilled.{rows-filled}
use Rattle.tlv_value.specs.TextBeside.{row_text_with, shown_row_lines_with}
use Rattle.tlv_value.specs.ValueTextState.{row_line, row_lines}
use Rattle.tlv_value.specs.Private.UndottedText.{line_pairs}
use Rattle.tlv_value.proofs.TextLemmas.RowLines.{row_lines-all, row_lines-append}
use Rattle.tlv_value.proofs.RowLemmas.RowSteps.{rest-stays_in_row, next_row}

-- ---- kinds whose rows have 16 octets

not_text : (kind : Kind) → row_size kind ≡ 16 → is_text kind ≡ false
not_text Octets e = refl
not_text Boolean e = refl
not_text Integer e = refl
not_text Bits e = refl
not_text Object e = refl
not_text Relative e = refl
not_text Text e = absurd (omega (arith, e))
not_text Utf8 e = absurd (omega (arith, e))
not_text Ucs2 e = absurd (omega (arith, e))
not_text Ucs4 e = absurd (omega (arith, e))

one_each : (kind : Kind) (x : ℕ) → row_size kind ≡ 16 → character_length kind x ≡ 1
one_each Octets x e = refl
one_each Boolean x e = refl
one_each Integer x e = refl
one_each Bits x e = refl
one_each Object x e = refl
one_each Relative x e = refl
one_each Text x e = refl
one_each Utf8 x e = absurd (omega (arith, e))
one_each Ucs2 x e = refl
one_each Ucs4 x e = refl

module _ (kind : Kind) (short : row_size kind ≡ 16) where
  room : (n : ℕ) (octets : List ℕ) → n ≤ 16 → HaveRoom kind 0 octets n
  room n octets few i h = rw (one_each kind (get_or octets i 0) short, short) (grind (arith, nat_tests))

  first_row : (octets : List ℕ) → 16 ≤ length octets
      → (rows_filled kind [] octets ≡ take 16 octets ∷ rows_filled kind [] (drop 16 octets))
      × (row_begun kind [] octets ≡ row_begun kind [] (drop 16 octets))
  first_row octets h =
      next_row kind [] 16 octets (room 16 octets (omega arith)) (omega (arith, short)) h (omega (arith, short))
      (inl (omega (arith, short)))

  -- so many rows
  rows_first : (n : ℕ) (octets : List ℕ) → n * 16 ≤ length octets
      → (rows_filled kind [] octets ≡ first_chunks 16 n octets ++ rows_filled kind [] (drop (n * 16) octets))
      × (row_begun kind [] octets ≡ row_begun kind [] (drop (n * 16) octets))
  rows_first zero octets h = (refl, refl)
  rows_first (suc n) octets h =
      let t = first_row octets (omega (arith, h)) in
      let more = rows_first n (drop 16 octets) (omega (arith, h, length-drop 16 octets)) in
      let e : drop (n * 16) (drop 16 octets) ≡ drop (suc n * 16) octets =
      drop-drop (n * 16) 16 octets ∙ ap (λ (k : ℕ). drop k octets) (omega arith) in (
        t.0
            ∙ ap (λ (l : List (List ℕ)). take 16 octets ∷ l)
            (more.0 ∙ ap (λ (l : List ℕ). first_chunks 16 n (drop 16 octets) ++ rows_filled kind [] l) e),
        t.1 ∙ more.1 ∙ ap (row_begun kind []) e,
      )

  -- all rows: the full ones, and the last
  pub rows_cut : (octets : List ℕ)
      → rows_of kind octets
      ≡ first_chunks 16 (length octets / 16) octets ++ last_rows (drop (length octets / 16 * 16) octets)
  rows_cut octets =
      let n : ℕ = length octets / 16 in
      let more : List ℕ = drop (n * 16) octets in
      let l : length more < 16 = omega (arith, length-drop (n * 16) octets) in
      let t = rows_first n octets (omega arith) in
      let k = rest-stays_in_row kind [] more (room (length more) more (omega (arith, l))) (omega (arith, l, short)) in
      rows-filled kind octets
      ∙ ap (λ (r : List (List ℕ)). r ++ last_rows (row_begun kind [] octets))
      (t.0 ∙ ap (λ (r : List (List ℕ)). first_chunks 16 n octets ++ r) k.0 ∙ append-nil (first_chunks 16 n octets))
      ∙ ap (λ (r : List ℕ). first_chunks 16 n octets ++ last_rows r) (t.1 ∙ k.1)

  module _ (with_text : Bool) (layout : Layout) (endless : layout.limit ≡ None) where
    -- their lines, if there is no limit to rows
    lines_of : (i : ℕ) (rows : List (List ℕ)) → row_lines with_text kind layout i rows ≡ pair_row_lines with_text layout rows
    lines_of i [] = refl
    lines_of i (row ∷ rows) =
        let one : row_line layout i (row_text_with with_text kind row) ≡ pair_row_line with_text layout row =
        rw (endless, not_text kind short) refl in
        ap₂ (λ (k l : List ℕ). k ++ l) one (lines_of (i + 1) rows)

    -- the full rows of octets, and what is left of them
    abbrev pub SplitsFullRows : ℕ → List ℕ → List (List ℕ) → List ℕ → Type 0
    SplitsFullRows i octets rows more =
        (row_lines with_text kind layout i (rows_filled kind [] octets)
        ≡ pair_row_lines with_text layout rows ++ row_lines with_text kind layout (i + length rows) (rows_filled kind [] more))
        × (row_begun kind [] octets ≡ row_begun kind [] more)
        × (length (rows_filled kind [] octets) ≡ length rows + length (rows_filled kind [] more))

    pub splits-full_rows : (i : ℕ) (octets : List ℕ) (rows : List (List ℕ)) (more : List ℕ)
        → rows ≡ first_chunks 16 (length octets / 16) octets → more ≡ drop (length octets / 16 * 16) octets
        → SplitsFullRows i octets rows more
    splits-full_rows i octets rows more e f =
        let t = rows_first (length octets / 16) octets (omega arith) in
        let all : rows_filled kind [] octets ≡ rows ++ rows_filled kind [] more = rw (e, f) t.0 in (
          ap (row_lines with_text kind layout i) all ∙ row_lines-append with_text kind layout i rows (rows_filled kind [] more)
              ∙ ap (λ (l : List ℕ). l ++ row_lines with_text kind layout (i + length rows) (rows_filled kind [] more))
              (lines_of i rows),
          rw f t.1,
          ap length all ∙ length-append rows (rows_filled kind [] more),
        )

-- the lines of all rows, if there is no limit to them
pub pair_lines : (kind : Kind) → row_size kind ≡ 16 → (with_text : Bool) (layout : Layout) → layout.limit ≡ None → (octets : List ℕ)
    → pair_row_lines with_text layout (rows_of Octets octets)
    ≡ shown_row_lines_with with_text kind layout (rows_of kind octets)
pair_lines kind short with_text layout endless octets =
    ap (pair_row_lines with_text layout) (rows_cut Octets refl octets ∙ sym (rows_cut kind short octets))
    ∙ sym (lines_of kind short with_text layout endless 0 (rows_of kind octets))
    ∙ row_lines-all with_text kind layout (rows_of kind octets)

-- ---- the line of a full row

-- pairs, each after a space, and pairs with spaces between them
pairs_joined : (with_text : Bool) (x : ℕ) (xs : List ℕ)
    → line_pairs with_text (x ∷ xs) ≡ 32 ∷ row_text_with with_text Octets (x ∷ xs)
pairs_joined false x xs = refl
pairs_joined true x xs = refl

pub full_line_added : (with_text : Bool) (layout : Layout) (old row : List ℕ) (n : ℕ)
    → spaces n ≡ row_margin layout → 2 ≤ n → length row ≡ 16
    → old ++ spaces (n - 1) ++ line_pairs with_text row ++ 10 ∷ [] ≡ old ++ pair_row_line with_text layout row
full_line_added with_text layout old [] n e some whole = absurd (omega (arith, whole))
full_line_added with_text layout old (x ∷ xs) n e some whole =
    let text : List ℕ = row_text_with with_text Octets (x ∷ xs) in
    let indent : spaces (n - 1) ++ 32 ∷ [] ≡ row_margin layout =
    replicate_more (n - 1) 32 ∙ ap spaces (omega (arith, some)) ∙ e in
    ap (λ (l : List ℕ). old ++ spaces (n - 1) ++ l ++ 10 ∷ []) (pairs_joined with_text x xs)
    ∙ joined (spaces (n - 1)) text
    ∙ ap (λ (l : List ℕ). old ++ (l ++ text ++ 10 ∷ [])) indent
  where
    joined : (indent text : List ℕ)
        → old ++ indent ++ (32 ∷ text) ++ 10 ∷ [] ≡ old ++ (indent ++ 32 ∷ [] ++ text ++ 10 ∷ [])
    joined indent text = simp append_assoc refl

-- the lines of the full rows, and that of the last
pub lines_cut : (with_text : Bool) (layout : Layout) (octets : List ℕ) (rows : List (List ℕ)) (more : List ℕ)
    → rows ≡ first_chunks 16 (length octets / 16) octets → more ≡ drop (length octets / 16 * 16) octets
    → pair_row_lines with_text layout rows ++ pair_row_lines with_text layout (last_rows more)
    ≡ pair_row_lines with_text layout (rows_of Octets octets)
lines_cut with_text layout octets rows more e f =
    sym (flat_map-append (pair_row_line with_text layout) rows (last_rows more))
    ∙ ap (pair_row_lines with_text layout) (rw (e, f) (sym (rows_cut Octets refl octets)))

-- the line of the last, if there is one
pub last_line : (with_text : Bool) (layout : Layout) (row : List ℕ) → eqb (length row) 0 ≡ false
    → pair_row_line with_text layout row ≡ pair_row_lines with_text layout (last_rows row)
last_line with_text layout [] some = absurd (grind (arith, nat_tests))
last_line with_text layout (x ∷ xs) some = sym (append-nil (pair_row_line with_text layout (x ∷ xs)))

pub no_last_line : (with_text : Bool) (layout : Layout) (shown row : List ℕ) → eqb (length row) 0 ≡ true
    → shown ≡ shown ++ pair_row_lines with_text layout (last_rows row)
no_last_line with_text layout shown [] none = sym (append-nil shown)
no_last_line with_text layout shown (x ∷ xs) none = absurd (grind (arith, nat_tests))

-- ---- line by line

module _ (with_text : Bool) (layout : Layout) where
  -- one row more
  pub lines_more : (rows : List (List ℕ)) (i : ℕ) → i < length rows
      → pair_row_lines with_text layout (take i rows) ++ pair_row_line with_text layout (get_or rows i [])
      ≡ pair_row_lines with_text layout (take (i + 1) rows)
  lines_more rows i h =
      sym (ap (pair_row_lines with_text layout) (take_more rows i [] h)
      ∙ flat_map-append (pair_row_line with_text layout) (take i rows) (get_or rows i [] ∷ [])
      ∙ ap (λ (l : List ℕ). pair_row_lines with_text layout (take i rows) ++ l)
      (append-nil (pair_row_line with_text layout (get_or rows i []))))

  -- the first rows, and those after them
  pub lines_split : (rows : List (List ℕ)) (i : ℕ)
      → pair_row_lines with_text layout (take i rows) ++ pair_row_lines with_text layout (drop i rows) ≡ pair_row_lines with_text layout rows
  lines_split rows i =
      sym (flat_map-append (pair_row_line with_text layout) (take i rows) (drop i rows))
      ∙ ap (pair_row_lines with_text layout) (take-append-drop i rows)
