-- UTF-8, row by row.
use Rattle.std.specs.List.{list_all}
use Rattle.std.proofs.Common.{◌≡◌, ◌↔◌, ℕ, zero, suc, ◌+◌, ◌/◌, ◌%◌, ◌<◌, ◌≤◌, Bool, true, false, List, [], ◌∷◌, ◌++◌}
use Rattle.std.proofs.Common.{length, get_or, refl, sym, ap, ap₂, ◌∙◌, arith, ⊎_elim, append_assoc, append-nil}
use Rattle.std.proofs.Common.{length-append}
use Rattle.std.specs.Prelude.{◌&&◌, IsUtf8, eqb, ltb, nat_le, cond, if◌then◌else◌}
use Rattle.std.specs.Str.{is_utf8}
use Rattle.std.proofs.Math.Bool.{and-true}
use lib.Utf8.{scalar, scalar_cases, scalars, encode, encodes}
use Rattle.std.proofs.lemmas.Bool.{ltb-true, leb-true}
use Rattle.std.proofs.lemmas.Bool.Decides.{nat_tests}
use Rattle.std.proofs.lemmas.Str.{IsUtf8-append, IsUtf8-encode, IsUtf8-nil, IsUtf8-from_is_utf8, is_utf8-from_IsUtf8}
use Rattle.tlv_io.specs.Cuts.{last_rows, utf8_length}
use Rattle.tlv_head.specs.declared.kind.Kind.TheVariants.{Utf8}
use Rattle.tlv_value.specs.RowSizes.{has_room}
use Rattle.tlv_value.specs.Private.Room.{HaveRoom}
use Rattle.tlv_value.proofs.RowLemmas.FilledRows.{row_begun, rows_filled}
use Rattle.tlv_value.specs.Rows.{rows_of}
use Rattle.tlv_value.specs.RowsSoFar.{full_rows, open_row}
use Rattle.tlv_value.proofs.TextLemmas.Arcs.{and_right}
use Rattle.tlv_value.proofs.RowLemmas.OneCut.{cut-parts}
use Rattle.tlv_value.proofs.RowLemmas.RowsFilled.{rows-filled}
use Rattle.tlv_value.proofs.RowLemmas.RowSteps.{begun-begins, filled-begins, shift-room}

and_left : (a b : Bool) → (a && b) ≡ true → a ≡ true
and_left true b e = refl
and_left false b e = cc

and-assoc : (a b c : Bool) → (a && (b && c)) ≡ ((a && b) && c)
and-assoc true b c = refl
and-assoc false b c = refl

-- ---- rows that are well-formed make contents that are

joined_at : (row : List ℕ) (x : ℕ) (xs : List ℕ) (room last : Bool)
    → ((r : List ℕ) → list_all is_utf8 (rows_filled Utf8 r xs) ≡ true → IsUtf8 (row_begun Utf8 r xs) → IsUtf8 (r ++ xs))
    → list_all is_utf8
    (if room then (if last then (row ++ x ∷ []) ∷ rows_filled Utf8 [] xs else rows_filled Utf8 (row ++ x ∷ []) xs)
    else row ∷ rows_filled Utf8 (x ∷ []) xs)
    ≡ true
    → IsUtf8
    (if room then (if last then row_begun Utf8 [] xs else row_begun Utf8 (row ++ x ∷ []) xs)
    else row_begun Utf8 (x ∷ []) xs)
    → IsUtf8 (row ++ x ∷ xs)
joined_at row x xs true true more e u =
    let first : IsUtf8 (row ++ x ∷ []) =
    IsUtf8-from_is_utf8 (row ++ x ∷ [])
    (and_left (is_utf8 (row ++ x ∷ [])) (list_all is_utf8 (rows_filled Utf8 [] xs)) e) in
    let rest : IsUtf8 xs =
    more [] (and_right (is_utf8 (row ++ x ∷ [])) (list_all is_utf8 (rows_filled Utf8 [] xs)) e) u in
    rw (← append_assoc row (x ∷ []) xs) (IsUtf8-append (row ++ x ∷ []) xs first rest)
joined_at row x xs true false more e u = rw (← append_assoc row (x ∷ []) xs) (more (row ++ x ∷ []) e u)
joined_at row x xs false last more e u =
    IsUtf8-append row (x ∷ xs)
    (IsUtf8-from_is_utf8 row (and_left (is_utf8 row) (list_all is_utf8 (rows_filled Utf8 (x ∷ []) xs)) e))
    (more (x ∷ []) (and_right (is_utf8 row) (list_all is_utf8 (rows_filled Utf8 (x ∷ []) xs)) e) u)

rows-utf8 : (row xs : List ℕ) → list_all is_utf8 (rows_filled Utf8 row xs) ≡ true → IsUtf8 (row_begun Utf8 row xs)
    → IsUtf8 (row ++ xs)
rows-utf8 row [] e u = rw (append-nil row) u
rows-utf8 row (x ∷ xs) e u =
    joined_at row x xs (has_room Utf8 (length row) x) (eqb (length row + 1) 64) (λ r. rows-utf8 r xs) e u

-- ---- and the other way round, character by character

-- the octets after the first of a character
abbrev IsTail : List ℕ → Type 0
IsTail ys = (i : ℕ) → i < length ys → utf8_length (get_or ys i 0) ≡ 1

-- a character: its first octet announces it, and the others announce nothing
pub record IsUnit (u : List ℕ) : Type 0 where
  pub first : ℕ
  pub tail : List ℕ
  pub octets : u ≡ first ∷ tail
  pub announced_length : utf8_length first ≡ suc (length tail)
  pub quiet : IsTail tail
  pub few : length tail ≤ 3

tail-one : (a : ℕ) → utf8_length a ≡ 1 → IsTail (a ∷ [])
tail-one a e zero h = e
tail-one a e (suc i) h = absurd (omega arith)

tail-more : (a : ℕ) (ys : List ℕ) → utf8_length a ≡ 1 → IsTail ys → IsTail (a ∷ ys)
tail-more a ys e t zero h = e
tail-more a ys e t (suc i) h = t i (omega arith)

tail-nil : IsTail []
tail-nil i h = absurd (omega arith)

-- an octet from 80 to bf announces nothing
tail-quiet : (n : ℕ) → utf8_length (128 + n % 64) ≡ 1
tail-quiet n = grind (arith, nat_tests)

lead-of_one : (c : ℕ) → c < 128 → utf8_length c ≡ 1
lead-of_one c h = grind (arith, nat_tests)

lead-of_two : (c : ℕ) → 128 ≤ c → c < 2048 → utf8_length (192 + c / 64) ≡ 2
lead-of_two c h g = grind (arith, nat_tests)

lead-of_three : (c : ℕ) → 2048 ≤ c → c < 65536 → utf8_length (224 + c / 4096) ≡ 3
lead-of_three c h g = grind (arith, nat_tests)

lead-of_four : (c : ℕ) → 65536 ≤ c → c < 1114112 → utf8_length (240 + c / 262144) ≡ 4
lead-of_four c h g = grind (arith, nat_tests)

encode-at : (c : ℕ) (a b d : Bool) → ltb c 128 ≡ a → ltb c 2048 ≡ b → ltb c 65536 ≡ d → c < 1114112
    → IsUnit
    (cond a (c ∷ [])
    (cond b ((192 + c / 64) ∷ (128 + c % 64) ∷ [])
    (cond d ((224 + c / 4096) ∷ (128 + c / 64 % 64) ∷ (128 + c % 64) ∷ [])
    ((240 + c / 262144) ∷ (128 + c / 4096 % 64) ∷ (128 + c / 64 % 64) ∷ (128 + c % 64) ∷ []))))
encode-at c true b d e f g h = record {
  first = c;
  tail = [];
  octets = refl;
  announced_length = lead-of_one c (ltb-true c 128 e);
  quiet = tail-nil;
  few = omega arith;
}
encode-at c false true d e f g h = record {
  first = 192 + c / 64;
  tail = (128 + c % 64) ∷ [];
  octets = refl;
  announced_length = lead-of_two c (grind (arith, nat_tests)) (ltb-true c 2048 f);
  quiet = tail-one (128 + c % 64) (tail-quiet c);
  few = omega arith;
}
encode-at c false false true e f g h = record {
  first = 224 + c / 4096;
  tail = (128 + c / 64 % 64) ∷ (128 + c % 64) ∷ [];
  octets = refl;
  announced_length = lead-of_three c (grind (arith, nat_tests)) (ltb-true c 65536 g);
  quiet =
      tail-more (128 + c / 64 % 64) ((128 + c % 64) ∷ []) (tail-quiet (c / 64))
      (tail-one (128 + c % 64) (tail-quiet c));
  few = omega arith;
}
encode-at c false false false e f g h = record {
  first = 240 + c / 262144;
  tail = (128 + c / 4096 % 64) ∷ (128 + c / 64 % 64) ∷ (128 + c % 64) ∷ [];
  octets = refl;
  announced_length = lead-of_four c (grind (arith, nat_tests)) h;
  quiet =
      tail-more (128 + c / 4096 % 64) ((128 + c / 64 % 64) ∷ (128 + c % 64) ∷ []) (tail-quiet (c / 4096))
      (tail-more (128 + c / 64 % 64) ((128 + c % 64) ∷ []) (tail-quiet (c / 64))
      (tail-one (128 + c % 64) (tail-quiet c)));
  few = omega arith;
}

scalar-bound : (c : ℕ) → scalar c ≡ true → c < 1114112
scalar-bound c e =
    ⊎_elim (λ (h : c < 55296). omega (arith, h)) (λ (h : (57344 ≤ c) × (c < 1114112)). h.1) (scalar_cases c e)

encode-unit : (c : ℕ) → scalar c ≡ true → IsUnit (encode c)
unfolding encode
encode-unit c e = encode-at c (ltb c 128) (ltb c 2048) (ltb c 65536) refl refl refl (scalar-bound c e)

-- a unit has room if its first octet has
room-unit : (n x : ℕ) (tail : List ℕ) → utf8_length x ≡ suc (length tail) → IsTail tail → n + suc (length tail) ≤ 64
    → HaveRoom Utf8 n (x ∷ tail) (suc (length tail))
room-unit n x tail a q h zero g = rw a (grind (arith, nat_tests))
room-unit n x tail a q h (suc i) g = rw (q i (omega arith)) (grind (arith, nat_tests))

abbrev PartExtendsRow : List ℕ → List ℕ → List ℕ → Type 0
PartExtendsRow row part rest =
    (rows_filled Utf8 row (part ++ rest) ≡ rows_filled Utf8 (row ++ part) rest)
    × (row_begun Utf8 row (part ++ rest) ≡ row_begun Utf8 (row ++ part) rest)

part-extends_row : (row part rest : List ℕ) → HaveRoom Utf8 (length row) part (length part)
    → length row + length part < 64
    → PartExtendsRow row part rest
part-extends_row row [] rest room h = rw (append-nil row) (refl, refl)
part-extends_row row (x ∷ xs) rest room h =
    let l : length row + 0 ≡ length row = omega arith in
    let r : has_room Utf8 (length row) x ≡ true = rw l at (room 0 (omega arith)) in
    let e : eqb (length row + 1) 64 ≡ false = grind (arith, nat_tests) in
    let t =
    part-extends_row (row ++ x ∷ []) xs rest (shift-room Utf8 row (length xs) x xs room)
    (omega (arith, length-append row (x ∷ []))) in
    let a = append_assoc row (x ∷ []) xs in
    rw (r, e) (t.0 ∙ ap (λ (w : List ℕ). rows_filled Utf8 w rest) a, t.1 ∙ ap (λ (w : List ℕ). row_begun Utf8 w rest) a)

abbrev PartCompletesRow : List ℕ → List ℕ → List ℕ → Type 0
PartCompletesRow row part rest =
    (rows_filled Utf8 row (part ++ rest) ≡ (row ++ part) ∷ rows_filled Utf8 [] rest)
    × (row_begun Utf8 row (part ++ rest) ≡ row_begun Utf8 [] rest)

fill-up : (row part rest : List ℕ) → HaveRoom Utf8 (length row) part (length part) → length row + length part ≡ 64
    → 1 ≤ length part → PartCompletesRow row part rest
fill-up row [] rest room h some = absurd (omega arith)
fill-up row (x ∷ []) rest room h some =
    let l : length row + 0 ≡ length row = omega arith in
    let r : has_room Utf8 (length row) x ≡ true = rw l at (room 0 (omega arith)) in
    let e : eqb (length row + 1) 64 ≡ true = grind (arith, nat_tests) in
    rw (r, e) (refl, refl)
fill-up row (x ∷ y ∷ xs) rest room h some =
    let l : length row + 0 ≡ length row = omega arith in
    let r : has_room Utf8 (length row) x ≡ true = rw l at (room 0 (omega arith)) in
    let e : eqb (length row + 1) 64 ≡ false = grind (arith, nat_tests) in
    let t =
    fill-up (row ++ x ∷ []) (y ∷ xs) rest (shift-room Utf8 row (length (y ∷ xs)) x (y ∷ xs) room)
    (omega (arith, length-append row (x ∷ []))) (omega arith) in
    let a = append_assoc row (x ∷ []) (y ∷ xs) in
    rw (r, e) (t.0 ∙ ap (λ (w : List ℕ). w ∷ rows_filled Utf8 [] rest) a, t.1)

-- all rows and the row that has begun are well-formed
abbrev AreFormed : List ℕ → List ℕ → Type 0
AreFormed row xs = (list_all is_utf8 (rows_filled Utf8 row xs) ≡ true) × IsUtf8 (row_begun Utf8 row xs)

put_row : (row : List ℕ) (rows all : List (List ℕ)) → IsUtf8 row → list_all is_utf8 rows ≡ true → all ≡ row ∷ rows
    → list_all is_utf8 all ≡ true
put_row row rows all u e f = rw (f, is_utf8-from_IsUtf8 row u) e

module _ (row : List ℕ) (x : ℕ) (tail rest : List ℕ) (announced_length : utf8_length x ≡ suc (length tail))
    (quiet : IsTail tail) (few : length tail ≤ 3)
    (v : IsUtf8 (x ∷ tail)) (u : IsUtf8 row) (h : length row < 64)
    (more : (r : List ℕ) → IsUtf8 r → length r < 64 → AreFormed r rest) where
  -- a character after the row that has begun
  unit-within : (full : Bool) → eqb (length row + suc (length tail)) 64 ≡ full → length row + suc (length tail) ≤ 64
      → AreFormed row ((x ∷ tail) ++ rest)
  unit-within false e l =
      let f =
      part-extends_row row (x ∷ tail) rest (room-unit (length row) x tail announced_length quiet l)
      (grind (arith, nat_tests)) in
      let g =
      more (row ++ x ∷ tail) (IsUtf8-append row (x ∷ tail) u v)
      (let w : length row + suc (length tail) < 64 =
      grind (arith, nat_tests) in omega (arith, length-append row (x ∷ tail))) in
      (ap (list_all is_utf8) f.0 ∙ g.0, rw f.1 g.1)
  unit-within true e l =
      let f =
      fill-up row (x ∷ tail) rest (room-unit (length row) x tail announced_length quiet l)
      (grind (arith, nat_tests)) (omega arith) in
      let g = more [] IsUtf8-nil (omega arith) in (
        put_row (row ++ x ∷ tail) (rows_filled Utf8 [] rest) (rows_filled Utf8 row ((x ∷ tail) ++ rest))
            (IsUtf8-append row (x ∷ tail) u v) g.0 f.0,
        rw f.1 g.1,
      )

  -- a character that begins a row
  unit-after : has_room Utf8 (length row) x ≡ false → AreFormed row ((x ∷ tail) ++ rest)
  unit-after r =
      let f =
      part-extends_row [] (x ∷ tail) rest (room-unit 0 x tail announced_length quiet (omega arith)) (omega arith) in
      let g = more (x ∷ tail) v (omega arith) in
      let p : rows_filled Utf8 row ((x ∷ tail) ++ rest) ≡ row ∷ rows_filled Utf8 (x ∷ tail) rest =
      rw r (ap (λ (t : List (List ℕ)). row ∷ t) (sym (filled-begins Utf8 x (tail ++ rest)) ∙ f.0)) in
      let q : row_begun Utf8 row ((x ∷ tail) ++ rest) ≡ row_begun Utf8 (x ∷ tail) rest =
      rw r (sym (begun-begins Utf8 x (tail ++ rest)) ∙ f.1) in
      (put_row row (rows_filled Utf8 (x ∷ tail) rest) (rows_filled Utf8 row ((x ∷ tail) ++ rest)) u g.0 p, rw q g.1)

  unit-step : (room : Bool) → nat_le (length row + suc (length tail)) 64 ≡ room → AreFormed row ((x ∷ tail) ++ rest)
  unit-step true e =
      unit-within (eqb (length row + suc (length tail)) 64) refl (leb-true (length row + suc (length tail)) 64 e)
  unit-step false e = unit-after (rw announced_length e)

encodes-formed : (row cs : List ℕ) → scalars cs ≡ true → IsUtf8 row → length row < 64 → AreFormed row (encodes cs)
encodes-formed row [] e u h = (refl, u)
encodes-formed row (c ∷ cs) e u h =
    let one : scalar c ≡ true = and_left (scalar c) (scalars cs) e in
    let w = encode-unit c one in
    let v : IsUtf8 (w.first ∷ w.tail) = rw (← w.octets) (IsUtf8-encode c one) in
    rw w.octets
    (unit-step row w.first w.tail (encodes cs) w.announced_length w.quiet w.few v u h
    (λ r v g. encodes-formed r cs (and_right (scalar c) (scalars cs) e) v g)
    (nat_le (length row + suc (length w.tail)) 64) refl)

same-bool : (a b : Bool) → (a ≡ true → b ≡ true) → (b ≡ true → a ≡ true) → a ≡ b
same-bool true true f g = refl
same-bool false false f g = refl
same-bool true false f g = sym (f refl)
same-bool false true f g = g refl

all-formed : (c : List ℕ) → IsUtf8 c → AreFormed [] c
all-formed c u = rw (← u.1.1) (encodes-formed [] u.0 u.1.0 IsUtf8-nil (omega arith))

steps-formed : (c : List ℕ)
    → ((true && list_all is_utf8 (rows_filled Utf8 [] c)) && is_utf8 (row_begun Utf8 [] c)) ≡ is_utf8 c
steps-formed c =
    same-bool (list_all is_utf8 (rows_filled Utf8 [] c) && is_utf8 (row_begun Utf8 [] c)) (is_utf8 c)
    (λ e. is_utf8-from_IsUtf8 c
    (rows-utf8 [] c (and_left (list_all is_utf8 (rows_filled Utf8 [] c)) (is_utf8 (row_begun Utf8 [] c)) e)
    (IsUtf8-from_is_utf8 (row_begun Utf8 [] c)
    (and_right (list_all is_utf8 (rows_filled Utf8 [] c)) (is_utf8 (row_begun Utf8 [] c)) e))))
    (λ e. let a =
    all-formed c (IsUtf8-from_is_utf8 c e) in rw (a.0, is_utf8-from_IsUtf8 (row_begun Utf8 [] c) a.1) refl)

-- the rows of all octets, and the last one, which need not be full
pub rows-formed_at : (c : List ℕ)
    → ((true && list_all is_utf8 (full_rows Utf8 [] c)) && is_utf8 (open_row Utf8 [] c)) ≡ is_utf8 c
rows-formed_at c =
    let p = cut-parts Utf8 c in
    ap₂ (λ (rows : List (List ℕ)) (row : List ℕ). list_all is_utf8 rows && is_utf8 row) (sym p.0) (sym p.1)
    ∙ steps-formed c

utf8-append : (rows more : List (List ℕ))
    → list_all is_utf8 (rows ++ more) ≡ (list_all is_utf8 rows && list_all is_utf8 more)
utf8-append [] more = refl
utf8-append (row ∷ rows) more =
    ap (λ (b : Bool). is_utf8 row && b) (utf8-append rows more)
    ∙ and-assoc (is_utf8 row) (list_all is_utf8 rows) (list_all is_utf8 more)

last-formed : (row : List ℕ) → list_all is_utf8 (last_rows row) ≡ is_utf8 row
last-formed [] = sym (is_utf8-from_IsUtf8 [] IsUtf8-nil)
last-formed (x ∷ row) = and-true (is_utf8 (x ∷ row))

rows-all : (c : List ℕ) → list_all is_utf8 (rows_of Utf8 c) ≡ is_utf8 c
rows-all c =
    ap (λ (rows : List (List ℕ)). list_all is_utf8 rows) (rows-filled Utf8 c)
    ∙ utf8-append (rows_filled Utf8 [] c) (last_rows (row_begun Utf8 [] c))
    ∙ ap (λ (b : Bool). list_all is_utf8 (rows_filled Utf8 [] c) && b) (last-formed (row_begun Utf8 [] c))
    ∙ steps-formed c

pub rows-formed : (octets : List ℕ) → IsUtf8 octets ↔ (list_all is_utf8 (rows_of Utf8 octets) ≡ true)
rows-formed octets =
    (λ u. rows-all octets ∙ is_utf8-from_IsUtf8 octets u, λ e. IsUtf8-from_is_utf8 octets (sym (rows-all octets) ∙ e))
