-- Rows as octets fill them, part by part.
use Rattle.std.proofs.Common.{◌≡◌, ◌⊎◌, inl, inr, ℕ, zero, suc, ◌+◌, ◌<◌, ◌≤◌, Bool, true, false, List, [], ◌∷◌, ◌++◌}
use Rattle.std.proofs.Common.{length, take, drop, get_or, refl, sym, ap, ◌∙◌, arith, append_assoc, append-nil}
use Rattle.std.proofs.Common.{length-append}
use Rattle.std.proofs.lemmas.Bool.Decides.{nat_tests}
use Rattle.std.proofs.lemmas.List.{take_all}
use Rattle.std.specs.Prelude.{eqb, if◌then◌else◌}
use Rattle.tlv_io.proofs.CutOf.{character-fits, fit-more, room-first, row-some}
use Rattle.tlv_head.specs.declared.kind.Kind.{Kind}
use Rattle.tlv_head.specs.declared.kind.Kind.TheVariants.{Octets, Boolean, Integer, Bits, Object, Relative, Text, Utf8}
use Rattle.tlv_head.specs.declared.kind.Kind.TheVariants.{Ucs2, Ucs4}
use Rattle.tlv_value.specs.RowSizes.{IsOpenRow, character_length, has_room, row_size}
use Rattle.tlv_head.specs.Kind.{is_text}
use Rattle.tlv_value.specs.Private.Room.{HaveRoom}
use Rattle.tlv_value.proofs.RowLemmas.FilledRows.{row_begun, rows_filled}

-- any row has room for an octet,
pub one_fits : (kind : Kind) → 1 ≤ row_size kind
one_fits kind = row-some (is_text kind)

-- and for what is to be in one row with it
pub character_fits : (kind : Kind) (x : ℕ) → character_length kind x ≤ row_size kind
character_fits Utf8 x = character-fits x
character_fits kind x = one_fits kind

-- the first octet of a row is not its last
first-open : (kind : Kind) → eqb 1 (row_size kind) ≡ false
first-open Octets = refl
first-open Boolean = refl
first-open Integer = refl
first-open Bits = refl
first-open Object = refl
first-open Relative = refl
first-open Text = refl
first-open Utf8 = refl
first-open Ucs2 = refl
first-open Ucs4 = refl

-- there is room for the first octet of a row
first-room : (kind : Kind) (x : ℕ) → has_room kind 0 x ≡ true
first-room kind x = room-first (row_size kind) (character_length kind) (character_fits kind) x

module _ (kind : Kind) where
  pub filled-begins : (x : ℕ) (xs : List ℕ) → rows_filled kind [] (x ∷ xs) ≡ rows_filled kind (x ∷ []) xs
  filled-begins x xs = rw (first-room kind x, first-open kind) refl

  pub begun-begins : (x : ℕ) (xs : List ℕ) → row_begun kind [] (x ∷ xs) ≡ row_begun kind (x ∷ []) xs
  begun-begins x xs = rw (first-room kind x, first-open kind) refl

  -- the row is full with these octets, or has no room for the octet after them
  abbrev pub FillsRow : List ℕ → ℕ → List ℕ → Type 0
  FillsRow row m rest =
      (length row + m ≡ row_size kind)
      ⊎ ((m < length rest) × (has_room kind (length row + m) (get_or rest m 0) ≡ false))

  abbrev CompletesRow : List ℕ → ℕ → List ℕ → Type 0
  CompletesRow row m rest =
      (rows_filled kind row rest ≡ (row ++ take m rest) ∷ rows_filled kind [] (drop m rest))
      × (row_begun kind row rest ≡ row_begun kind [] (drop m rest))

  pub shift-room : (row : List ℕ) (m x : ℕ) (xs : List ℕ) → HaveRoom kind (length row) (x ∷ xs) (suc m)
      → HaveRoom kind (length (row ++ x ∷ [])) xs m
  shift-room row m x xs room i h =
      let l : length (row ++ x ∷ []) + i ≡ length row + suc i = omega (arith, length-append row (x ∷ [])) in
      rw l (room (suc i) (omega arith))

  shift-filled : (row : List ℕ) (m x : ℕ) (xs : List ℕ) → FillsRow row (suc m) (x ∷ xs) → FillsRow (row ++ x ∷ []) m xs
  shift-filled row m x xs (inl e) = inl (omega (arith, length-append row (x ∷ [])))
  shift-filled row m x xs (inr e) =
      let l : length (row ++ x ∷ []) + m ≡ length row + suc m = omega (arith, length-append row (x ∷ [])) in
      inr (omega arith, rw l e.1)

  -- none of the octets
  turn-none : (row rest : List ℕ) → length row < row_size kind → FillsRow row 0 rest → CompletesRow row 0 rest
  turn-none row rest h (inl e) = absurd (omega arith)
  turn-none row [] h (inr e) = absurd (omega arith)
  turn-none row (x ∷ xs) h (inr e) =
      let l : length row + 0 ≡ length row = omega arith in
      let r : has_room kind (length row) x ≡ false = rw l at e.1 in
      (rw (r, append-nil row, filled-begins x xs) refl, rw (r, begun-begins x xs) refl)

  -- the first octet, if it is the last of the row and if it is not
  turn-one : (row : List ℕ) (m x : ℕ) (xs : List ℕ) (last : Bool) → eqb (length row + 1) (row_size kind) ≡ last
      → has_room kind (length row) x ≡ true
      → length row + suc m ≤ row_size kind
      → (length row + 1 < row_size kind → CompletesRow (row ++ x ∷ []) m xs)
      → CompletesRow row (suc m) (x ∷ xs)
  turn-one row m x xs true e r h more =
      let z : m ≡ 0 = grind (arith, nat_tests) in
      rw (r, e, z) (refl, refl)
  turn-one row m x xs false e r h more =
      let t = more (grind (arith, nat_tests)) in
      rw (r, e)
      (t.0 ∙ ap (λ (y : List ℕ). y ∷ rows_filled kind [] (drop m xs)) (append_assoc row (x ∷ []) (take m xs)), t.1)

  -- a row is filled: it is put, and the next begins
  pub next_row : (row : List ℕ) (m : ℕ) (rest : List ℕ) → HaveRoom kind (length row) rest m
      → length row + m ≤ row_size kind → m ≤ length rest → length row < row_size kind
      → FillsRow row m rest → CompletesRow row m rest
  next_row row zero rest room h w b f = turn-none row rest b f
  next_row row (suc m) [] room h w b f = absurd (omega arith)
  next_row row (suc m) (x ∷ xs) room h w b f =
      let l : length row + 0 ≡ length row = omega arith in
      turn-one row m x xs (eqb (length row + 1) (row_size kind)) refl (rw l at (room 0 (omega arith))) h
      (λ more. next_row (row ++ x ∷ []) m xs (shift-room row m x xs room) (omega (arith, length-append row (x ∷ [])))
      (omega arith) (omega (arith, length-append row (x ∷ []))) (shift-filled row m x xs f))

  -- all of the octets stay in the row that has begun
  pub rest-stays_in_row : (row rest : List ℕ) → HaveRoom kind (length row) rest (length rest)
      → length row + length rest < row_size kind
      → (rows_filled kind row rest ≡ []) × (row_begun kind row rest ≡ row ++ rest)
  rest-stays_in_row row [] room h = (refl, sym (append-nil row))
  rest-stays_in_row row (x ∷ xs) room h =
      let l : length row + 0 ≡ length row = omega arith in
      let r : has_room kind (length row) x ≡ true = rw l at (room 0 (omega arith)) in
      let e : eqb (length row + 1) (row_size kind) ≡ false = grind (arith, nat_tests) in
      let t =
      rest-stays_in_row (row ++ x ∷ []) xs (shift-room row (length xs) x xs room)
      (omega (arith, length-append row (x ∷ []))) in
      rw (r, e) (t.0, t.1 ∙ append_assoc row (x ∷ []) xs)

  part-fills_row : (row : List ℕ) (m : ℕ) (rest : List ℕ) → (length row + m ≡ row_size kind) ⊎ (m < length rest)
      → (m < length rest → has_room kind (length row + m) (get_or rest m 0) ≡ false) → FillsRow row m rest
  part-fills_row row m rest (inl e) next = inl e
  part-fills_row row m rest (inr h) next = inr (h, next h)

  -- a row is filled, as the loop has it
  pub row-filled_in_loop : (n : ℕ) (row : List ℕ) (m : ℕ) (rest part more : List ℕ) → n ≡ length row → part
      ≡ take m rest
      → more ≡ drop m rest
      → HaveRoom kind n rest m → n + m ≤ row_size kind → m ≤ length rest → n < row_size kind
      → (m < length rest → has_room kind (n + m) (get_or rest m 0) ≡ false)
      → (n + m ≡ row_size kind) ⊎ (m < length rest)
      → (rows_filled kind row rest ≡ (row ++ part) ∷ rows_filled kind [] more)
      × (row_begun kind row rest ≡ row_begun kind [] more)
  row-filled_in_loop n row m rest part more e p q room h w b next f =
      rw (p, q)
      (next_row row m rest (rw e at room) (rw e at h) w (rw e at b)
      (part-fills_row row m rest (rw e at f) (rw e at next)))

  -- the row that has begun goes on, as the loop has it
  pub row-kept_in_loop : (n : ℕ) (row : List ℕ) (m : ℕ) (rest part : List ℕ) → n ≡ length row → part ≡ take m rest
      → HaveRoom kind n rest m → length rest ≤ m → m ≤ length rest → n + m < row_size kind
      → (rows_filled kind row rest ≡ []) × (row_begun kind row rest ≡ row ++ part)
  row-kept_in_loop n row m rest part e p room h g w =
      let all : part ≡ rest = p ∙ take_all m rest h in
      let l : m ≡ length rest = omega arith in
      let r : HaveRoom kind (length row) rest (length rest) = rw (e, l) at room in
      let t = rest-stays_in_row row rest r (omega arith) in
      (t.0, t.1 ∙ ap (λ (x : List ℕ). row ++ x) (sym all))

  -- a row that is filled has octets
  pub filled_row-some : (n m : ℕ) (rest : List ℕ) → n < row_size kind
      → (m < length rest → has_room kind (n + m) (get_or rest m 0) ≡ false)
      → (n + m ≡ row_size kind) ⊎ (m < length rest) → 1 ≤ n + m
  filled_row-some n m rest b next (inl e) = omega arith
  filled_row-some zero zero rest b next (inr h) = let r = first-room kind (get_or rest 0 0) in let f = next h in cc
  filled_row-some zero (suc m) rest b next (inr h) = omega arith
  filled_row-some (suc n) m rest b next (inr h) = omega arith

  -- ---- two pieces

  abbrev AreStepsJoined : List ℕ → List ℕ → List ℕ → Type 0
  AreStepsJoined row x y =
      (rows_filled kind row (x ++ y) ≡ rows_filled kind row x ++ rows_filled kind (row_begun kind row x) y)
      × (row_begun kind row (x ++ y) ≡ row_begun kind (row_begun kind row x) y)

  -- one octet of the first piece
  steps-join_at : (row : List ℕ) (z : ℕ) (x y : List ℕ) (room last : Bool) → ((r : List ℕ) → AreStepsJoined r x y)
      → ((if room
      then (if last then (row ++ z ∷ []) ∷ rows_filled kind [] (x ++ y)
      else rows_filled kind (row ++ z ∷ []) (x ++ y))
      else row ∷ rows_filled kind (z ∷ []) (x ++ y))
      ≡ (if room then (if last then (row ++ z ∷ []) ∷ rows_filled kind [] x else rows_filled kind (row ++ z ∷ []) x)
      else row ∷ rows_filled kind (z ∷ []) x)
      ++ rows_filled kind
      (if room then (if last then row_begun kind [] x else row_begun kind (row ++ z ∷ []) x)
      else row_begun kind (z ∷ []) x)
      y)
      × ((if room then (if last then row_begun kind [] (x ++ y) else row_begun kind (row ++ z ∷ []) (x ++ y))
      else row_begun kind (z ∷ []) (x ++ y))
      ≡ row_begun kind
      (if room then (if last then row_begun kind [] x else row_begun kind (row ++ z ∷ []) x)
      else row_begun kind (z ∷ []) x)
      y)
  steps-join_at row z x y true true more = (ap (λ (t : List (List ℕ)). (row ++ z ∷ []) ∷ t) (more []).0, (more []).1)
  steps-join_at row z x y true false more = more (row ++ z ∷ [])
  steps-join_at row z x y false last more = (ap (λ (t : List (List ℕ)). row ∷ t) (more (z ∷ [])).0, (more (z ∷ [])).1)

  pub steps-join : (row x y : List ℕ) → AreStepsJoined row x y
  steps-join row [] y = (refl, refl)
  steps-join row (z ∷ x) y =
      steps-join_at row z x y (has_room kind (length row) z) (eqb (length row + 1) (row_size kind))
      (λ r. steps-join r x y)

  -- ---- a row that has begun

  -- no octets
  pub none-open : IsOpenRow kind []
  none-open = record { short = let h = one_fits kind in omega arith; splits_none = λ i h. absurd (omega arith) }

  -- each of its octets has room after those before it
  pub open-room : (row : List ℕ) → IsOpenRow kind row → HaveRoom kind 0 row (length row)
  open-room row o i h = let room = o.splits_none i h in grind (arith, nat_tests)

  -- one octet more
  open-one : (row : List ℕ) (x : ℕ) → IsOpenRow kind row → has_room kind (length row) x ≡ true
      → length row + 1 < row_size kind → IsOpenRow kind (row ++ x ∷ [])
  open-one row x o room h = record {
    short = omega (arith, length-append row (x ∷ []));
    splits_none = fit-more (row_size kind) (character_length kind) row x o.splits_none room;
  }

  -- the first octet
  one-open : (x : ℕ) → IsOpenRow kind (x ∷ [])
  one-open x =
      let e = first-open kind in
      let f = one_fits kind in
      open-one [] x none-open (first-room kind x) (grind (arith, nat_tests))

  -- more octets, if they have room
  open-more : (row rest : List ℕ) → IsOpenRow kind row → HaveRoom kind (length row) rest (length rest)
      → length row + length rest < row_size kind → IsOpenRow kind (row ++ rest)
  open-more row [] o room h = rw (append-nil row) o
  open-more row (x ∷ xs) o room h =
      let l : length row + 0 ≡ length row = omega arith in
      let r : has_room kind (length row) x ≡ true = rw l at (room 0 (omega arith)) in
      let one = open-one row x o r (omega arith) in
      rw (← append_assoc row (x ∷ []) xs)
      (open-more (row ++ x ∷ []) xs one (shift-room row (length xs) x xs room)
      (omega (arith, length-append row (x ∷ []))))

  -- the same, as the loop has it
  pub kept-open : (n : ℕ) (row : List ℕ) (m : ℕ) (rest part : List ℕ) → IsOpenRow kind row → n ≡ length row
      → part ≡ take m rest → HaveRoom kind n rest m → length rest ≤ m → m ≤ length rest → n + m < row_size kind
      → IsOpenRow kind (row ++ part)
  kept-open n row m rest part o e p room h g w =
      let all : part ≡ rest = p ∙ take_all m rest h in
      let l : m ≡ length rest = omega arith in
      let r : HaveRoom kind (length row) rest (length rest) = rw (e, l) at room in
      rw all (open-more row rest o r (omega arith))

  begun-open_from : (row : List ℕ) (x : ℕ) (xs : List ℕ) (room last : Bool) → has_room kind (length row) x ≡ room
      → eqb (length row + 1) (row_size kind) ≡ last → IsOpenRow kind row
      → ((r : List ℕ) → IsOpenRow kind r → IsOpenRow kind (row_begun kind r xs))
      → IsOpenRow kind
      (if room then (if last then row_begun kind [] xs else row_begun kind (row ++ x ∷ []) xs)
      else row_begun kind (x ∷ []) xs)
  begun-open_from row x xs true true r l o more = more [] none-open
  begun-open_from row x xs true false r l o more =
      let h = o.short in
      more (row ++ x ∷ []) (open-one row x o r (grind (arith, nat_tests)))
  begun-open_from row x xs false last r l o more = more (x ∷ []) (one-open x)

  -- the row that octets after it begin is open too
  pub begun-open : (row xs : List ℕ) → IsOpenRow kind row → IsOpenRow kind (row_begun kind row xs)
  begun-open row [] o = o
  begun-open row (x ∷ xs) o =
      begun-open_from row x xs (has_room kind (length row) x) (eqb (length row + 1) (row_size kind)) refl refl o
      (λ r q. begun-open r xs q)
