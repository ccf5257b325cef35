-- The rows that octets fill one after another, octet by octet, are a cut of them.
use Rattle.std.proofs.Common.{◌≡◌, ◌≢◌, ◌⊎◌, inl, inr, ℕ, zero, suc, ◌+◌, ◌<◌, ◌≤◌, Bool, true, false, List, [], ◌∷◌}
use Rattle.std.proofs.Common.{◌++◌, length, get_or, refl, ap, ◌∙◌, arith, ⊎_elim, append_assoc, length-append}
use Rattle.std.specs.Prelude.{eqb, nat_le, if◌then◌else◌, All}
use Rattle.std.specs.List.{concat}
use Rattle.std.proofs.lemmas.List.Elements.{All-cons, All-nil}
use Rattle.std.specs.Int.{is_in_range}
use Rattle.std.proofs.lemmas.Bool.{eqb-true, leb-true}
use Rattle.std.proofs.lemmas.Bool.Decides.{nat_tests}
use Rattle.tlv_io.specs.Cuts.{AreFull, IsCut, IsFull, IsRow, last_rows, utf8_length}

-- ---- octet by octet

module _ (size : ℕ) (wanted : ℕ → ℕ) where
  -- after so many octets of a row there is room for the octet x, and for those that are to be kept in one row with it
  abbrev pub has_room_by : ℕ → ℕ → Bool
  has_room_by octets x = nat_le (octets + wanted x) size

  -- the row is full with one octet more
  abbrev lacks_one_octet : List ℕ → Bool
  lacks_one_octet row = eqb (length row + 1) size

  -- the rows that octets fill after a row that has begun: a row is full with its last octet, or with the octet after it
  -- that has no room in it
  abbrev pub rows_filled_by : List ℕ → List ℕ → List (List ℕ)
  rows_filled_by row [] = []
  rows_filled_by row (x ∷ xs) =
      let more = row ++ x ∷ [] in
      if has_room_by (length row) x
      then (if lacks_one_octet row then more ∷ rows_filled_by [] xs else rows_filled_by more xs)
      else row ∷ rows_filled_by (x ∷ []) xs

  -- the row that has then begun
  abbrev pub row_begun_by : List ℕ → List ℕ → List ℕ
  row_begun_by row [] = row
  row_begun_by row (x ∷ xs) =
      if has_room_by (length row) x
      then (if lacks_one_octet row then row_begun_by [] xs else row_begun_by (row ++ x ∷ []) xs)
      else row_begun_by (x ∷ []) xs

-- ---- premises

-- if both numbers are at most this, the chosen one is
pub most-if : (test : Bool) (m n most : ℕ) → m ≤ most → n ≤ most → (if test then m else n) ≤ most
most-if true m n most h g = h
most-if false m n most h g = g

-- if both are at least this, it is
pub least-if : (test : Bool) (least m n : ℕ) → least ≤ m → least ≤ n → least ≤ (if test then m else n)
least-if true least m n h g = h
least-if false least m n h g = g

-- there is room for the first octet of a row
pub room-first : (size : ℕ) (wanted : ℕ → ℕ) → ((x : ℕ) → wanted x ≤ size) → (x : ℕ)
    → has_room_by size wanted 0 x ≡ true
room-first size wanted fits x = let h = fits x in grind (arith, nat_tests)

-- ---- octets of rows

pub nil-or : (row : List ℕ) → (row ≡ [] → ⊥) → 1 ≤ length row
nil-or [] f = absurd (f refl)
nil-or (x ∷ row) f = omega arith

some-not : (row : List ℕ) → 1 ≤ length row → row ≢ []
some-not [] h = λ e. absurd (omega arith)
some-not (x ∷ row) h = λ e. cc

get-left : (row : List ℕ) (x i : ℕ) → i < length row → get_or (row ++ x ∷ []) i 0 ≡ get_or row i 0
get-left [] x i h = absurd (omega arith)
get-left (y ∷ row) x zero h = refl
get-left (y ∷ row) x (suc i) h = get-left row x i (omega arith)

get-last : (row : List ℕ) (x : ℕ) → get_or (row ++ x ∷ []) (length row) 0 ≡ x
get-last [] x = refl
get-last (y ∷ row) x = get-last row x

-- ---- a row with room

module _ (size : ℕ) (wanted : ℕ → ℕ) where
  -- no octet wants more than what a row has left
  abbrev pub AllFit : List ℕ → Type 0
  AllFit row = (i : ℕ) → i < length row → i + wanted (get_or row i 0) ≤ size

  split-at : (i n : ℕ) (b : Bool) → eqb i n ≡ b → i < n + 1 → (i < n) ⊎ (i ≡ n)
  split-at i n true e h = inr (eqb-true i n e)
  split-at i n false e h = inl (grind (arith, nat_tests))

  below-or_last : (i n : ℕ) → i < n + 1 → (i < n) ⊎ (i ≡ n)
  below-or_last i n h = split-at i n (eqb i n) refl h

  pub fit-more : (row : List ℕ) (x : ℕ) → AllFit row → has_room_by size wanted (length row) x ≡ true
      → AllFit (row ++ x ∷ [])
  fit-more row x f r i h =
      let room : length row + wanted x ≤ size =
      leb-true (length row + wanted x) size r in
      let before : i < length row + 1 = omega (arith, length-append row (x ∷ [])) in
      ⊎_elim
      (λ (g : i < length row). rw (get-left row x i g) (f i g))
      (λ (g : i ≡ length row). rw (g, get-last row x) room)
      (below-or_last i (length row) before)

-- ---- the cut

module _ (size : ℕ) (wanted : ℕ → ℕ) (some : 1 ≤ size) (fits : (x : ℕ) → wanted x ≤ size) where
  first-room : (x : ℕ) → has_room_by size wanted 0 x ≡ true
  first-room x = room-first size wanted fits x

  abbrev HeadIs : ℕ → List (List ℕ) → Type 0
  HeadIs x [] = ⊥
  HeadIs x (row ∷ rows) = get_or row 0 0 ≡ x

  record CutOn (row xs : List ℕ) (rows : List (List ℕ)) : Type 0 where
    together : concat rows ≡ row ++ xs
    each : All (IsRow size wanted) rows
    full : AreFull size wanted rows
    head : 1 ≤ length row → HeadIs (get_or row 0 0) rows

  is-row : (row : List ℕ) → AllFit size wanted row → length row ≤ size → 1 ≤ length row → IsRow size wanted row
  is-row row f h s = record { some = some-not row s; short = h; splits_none = f }

  full-before : (row : List ℕ) (rows : List (List ℕ)) → AreFull size wanted rows
      → ((next : List ℕ) (more : List (List ℕ)) → rows ≡ next ∷ more → IsFull size wanted row next)
      → AreFull size wanted (row ∷ rows)
  full-before row [] f g = tt
  full-before row (next ∷ rows) f g = (g next rows refl, f)

  head-of : (x : ℕ) (rows : List (List ℕ)) (next : List ℕ) (more : List (List ℕ)) → rows ≡ next ∷ more
      → HeadIs x rows → get_or next 0 0 ≡ x
  head-of x rows next more e h = rw e at h

  cut-end : (row : List ℕ) → AllFit size wanted row → length row < size → CutOn row [] (last_rows row)
  cut-end [] f h = record {
    together = refl;
    each = All-nil (IsRow size wanted);
    full = tt;
    head = λ s. absurd (omega arith);
  }
  cut-end (x ∷ row) f h = record {
    together = refl;
    each =
        All-cons (IsRow size wanted) (x ∷ row) [] (is-row (x ∷ row) f (omega arith) (omega arith))
        (All-nil (IsRow size wanted));
    full = tt;
    head = λ s. refl;
  }

  head-more : (row : List ℕ) (x : ℕ) (rows : List (List ℕ)) → HeadIs (get_or (row ++ x ∷ []) 0 0) rows
      → 1 ≤ length row → HeadIs (get_or row 0 0) rows
  head-more [] x rows h s = absurd (omega arith)
  head-more (y ∷ row) x rows h s = h

  -- the rows of octets after a row that has begun
  abbrev rows_after_row : List ℕ → List ℕ → List (List ℕ)
  rows_after_row row xs = rows_filled_by size wanted row xs ++ last_rows (row_begun_by size wanted row xs)

  cut-at : (row : List ℕ) (x : ℕ) (xs : List ℕ) (room last : Bool)
      → has_room_by size wanted (length row) x ≡ room → eqb (length row + 1) size ≡ last
      → AllFit size wanted row → length row < size
      → ((r : List ℕ) → AllFit size wanted r → length r < size → CutOn r xs (rows_after_row r xs))
      → CutOn row (x ∷ xs)
      ((if room
      then (if last then (row ++ x ∷ []) ∷ rows_filled_by size wanted [] xs
      else rows_filled_by size wanted (row ++ x ∷ []) xs)
      else row ∷ rows_filled_by size wanted (x ∷ []) xs)
      ++ last_rows (if room
      then (if last then row_begun_by size wanted [] xs else row_begun_by size wanted (row ++ x ∷ []) xs)
      else row_begun_by size wanted (x ∷ []) xs))
  cut-at row x xs true true r l f h more =
      let z = some in
      let n : length (row ++ x ∷ []) ≡ size =
      length-append row (x ∷ []) ∙ eqb-true (length row + 1) size l in
      let c = more [] (λ i g. absurd (omega arith)) (omega arith) in
      let rows = rows_after_row [] xs in
      record {
        together = ap (λ (t : List ℕ). (row ++ x ∷ []) ++ t) c.together ∙ append_assoc row (x ∷ []) xs;
        each =
            All-cons (IsRow size wanted) (row ++ x ∷ []) rows
            (is-row (row ++ x ∷ []) (fit-more size wanted row x f r) (omega (arith, n)) (omega (arith, n))) c.each;
        full = full-before (row ++ x ∷ []) rows c.full (λ next rest e. inl n);
        head = λ s. head-more row x ((row ++ x ∷ []) ∷ rows) refl s;
      }
  cut-at row x xs true false r l f h more =
      let e : length row + 1 < size = grind (arith, nat_tests) in
      let n : length (row ++ x ∷ []) < size = omega (arith, length-append row (x ∷ [])) in
      let c = more (row ++ x ∷ []) (fit-more size wanted row x f r) n in
      let rows = rows_after_row (row ++ x ∷ []) xs in
      record {
        together = c.together ∙ append_assoc row (x ∷ []) xs;
        each = c.each;
        full = c.full;
        head = λ s. head-more row x rows (c.head (omega (arith, length-append row (x ∷ [])))) s;
      }
  cut-at row x xs false last r l f h more =
      let z = some in
      let s : 1 ≤ length row =
      nil-or row (λ e. let q = first-room x in let p : has_room_by size wanted 0 x ≡ false = rw e at r in cc) in
      let fit : AllFit size wanted (x ∷ []) = fit-more size wanted [] x (λ i g. absurd (omega arith)) (first-room x) in
      let c = more (x ∷ []) fit (omega arith) in
      let rows = rows_after_row (x ∷ []) xs in
      let none : size < length row + wanted x = grind (arith, nat_tests) in
      record {
        together = ap (λ (t : List ℕ). row ++ t) c.together;
        each = All-cons (IsRow size wanted) row rows (is-row row f (omega arith) s) c.each;
        full =
            full-before row rows c.full
            (λ next rest e. inr (rw (head-of x rows next rest e (c.head (omega arith))) none));
        head = λ t. refl;
      }

  cut-on : (row xs : List ℕ) → AllFit size wanted row → length row < size → CutOn row xs (rows_after_row row xs)
  cut-on row [] f h = cut-end row f h
  cut-on row (x ∷ xs) f h =
      cut-at row x xs (has_room_by size wanted (length row) x) (eqb (length row + 1) size) refl refl f h
      (λ r g k. cut-on r xs g k)

  pub rows-cut : (octets : List ℕ) → IsCut size wanted octets (rows_after_row [] octets)
  rows-cut octets =
      let z = some in
      let c = cut-on [] octets (λ i g. absurd (omega arith)) (omega arith) in
      record { together = c.together; each = c.each; full = c.full }

-- ---- rows of two sizes

pub row-some : (long : Bool) → 1 ≤ (if long then 64 else 16)
row-some long = least-if long 1 64 16 (omega arith) (omega arith)

-- a row of 64 octets has room for any character of UTF-8
pub character-fits : (x : ℕ) → utf8_length x ≤ 64
character-fits x =
    most-if (is_in_range 0xc2 0xdf x) 2 _ 64 (omega arith)
    (most-if (is_in_range 0xe0 0xef x) 3 _ 64 (omega arith)
    (most-if (is_in_range 0xf0 0xf4 x) 4 1 64 (omega arith) (omega arith)))
