-- The rows of octets are those that fill one after another, and a last one. So they are a cut.
use Rattle.std.proofs.Common.{◌≡◌, inl, inr, ℕ, ◌+◌, ◌≤◌, false, List, [], ◌∷◌, ◌++◌, length, refl, sym, ap}
use Rattle.std.proofs.Common.{ap₂, ◌∙◌, arith, length-append}
use Rattle.std.proofs.lemmas.Bool.{cases_Bool}
use Rattle.std.proofs.lemmas.Bool.Decides.{nat_tests}
use Rattle.std.specs.Int.{is_in_range}
use Rattle.std.specs.Prelude.{eqb}
use Rattle.tlv_io.specs.Cuts.{IsCut, last_rows}
use Rattle.tlv_io.proofs.CutOf.{least-if, rows-cut}
use Rattle.tlv_head.specs.declared.kind.Kind.{Kind}
use Rattle.tlv_head.specs.declared.kind.Kind.TheVariants.{Utf8}
use Rattle.tlv_value.specs.RowSizes.{character_length, has_room, row_size}
use Rattle.tlv_value.specs.Rows.{rows_from, rows_of}
use Rattle.tlv_value.proofs.RowLemmas.FilledRows.{row_begun, rows_filled}
use Rattle.tlv_value.proofs.RowLemmas.RowSteps.{begun-begins, character_fits, filled-begins, one_fits}

pub last-row : (row : List ℕ) → 1 ≤ length row → last_rows row ≡ row ∷ []
last-row [] h = absurd (omega arith)
last-row (x ∷ row) h = refl

-- an octet is to be kept in one row with itself
some-kept : (kind : Kind) (x : ℕ) → 1 ≤ character_length kind x
some-kept Utf8 x =
    least-if (is_in_range 0xc2 0xdf x) 1 2 _ (omega arith)
    (least-if (is_in_range 0xe0 0xef x) 1 3 _ (omega arith)
    (least-if (is_in_range 0xf0 0xf4 x) 1 4 1 (omega arith) (omega arith)))
some-kept kind x = omega arith

module _ (kind : Kind) where
  -- so a row with all its octets has no room
  no-room : (n x : ℕ) → n ≡ row_size kind → has_room kind n x ≡ false
  no-room n x full = let some = some-kept kind x in grind (arith, nat_tests)

  -- the rows that octets fill after a row that has begun, and a last one
  abbrev all_filled : List ℕ → List ℕ → List (List ℕ)
  all_filled row octets = rows_filled kind row octets ++ last_rows (row_begun kind row octets)

  -- an octet that begins the next row
  filled-next : (x : ℕ) (octets : List ℕ) → all_filled (x ∷ []) octets ≡ all_filled [] (x ∷ octets)
  filled-next x octets =
      ap₂ (λ (rows : List (List ℕ)) (row : List ℕ). rows ++ last_rows row) (sym (filled-begins kind x octets))
      (sym (begun-begins kind x octets))

  filled-full : (row octets : List ℕ) → 1 ≤ length row → length row ≡ row_size kind
      → all_filled row octets ≡ row ∷ all_filled [] octets
  filled-full row [] some full = last-row row some
  filled-full row (x ∷ octets) some full =
      rw (no-room (length row) x full)
      (ap (λ (rows : List (List ℕ)). row ∷ rows) (filled-next x octets))

  from-filled : (row octets : List ℕ) → 1 ≤ length row → length row ≤ row_size kind
      → rows_from kind row octets ≡ all_filled row octets
  from-filled row [] some short = sym (last-row row some)
  from-filled row (x ∷ octets) some short =
      let more : List ℕ = row ++ x ∷ [] in
      let n : length more ≡ length row + 1 = length-append row (x ∷ []) in
      let character = some-kept kind x in
      elim (cases_Bool (has_room kind (length row) x)) [
        | inl room ↦
            let one : length row + 1 ≤ row_size kind = grind (arith, nat_tests) in
            let from = from-filled more octets (omega (arith, n)) (omega (arith, n, one)) in
            elim (cases_Bool (eqb (length row + 1) (row_size kind))) [
              | inl last ↦
                  let full : length more ≡ row_size kind = grind (arith, nat_tests) in
                  rw (room, last) (from ∙ filled-full more octets (omega (arith, n)) full)
              | inr not_last ↦ rw (room, not_last) from
            ]
        | inr no_room ↦
            rw no_room
            (ap (λ (rows : List (List ℕ)). row ∷ rows) (from-filled (x ∷ []) octets (omega arith) (one_fits kind)))
      ]

pub rows-filled : (kind : Kind) (octets : List ℕ)
    → rows_of kind octets ≡ rows_filled kind [] octets ++ last_rows (row_begun kind [] octets)
rows-filled kind [] = refl
rows-filled kind (x ∷ octets) =
    from-filled kind (x ∷ []) octets (omega arith) (one_fits kind) ∙ filled-next kind x octets

pub rows-are_cut : (kind : Kind) (octets : List ℕ)
    → IsCut (row_size kind) (character_length kind) octets (rows_of kind octets)
rows-are_cut kind octets =
    rw (rows-filled kind octets) (rows-cut (row_size kind) (character_length kind) (one_fits kind) (character_fits kind) octets)
