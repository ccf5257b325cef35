-- The columns of an offset, and those of others that have the same digits but for a few.
use Rattle.std.proofs.Common.{◌≡◌, ◌∙◌, ℕ, ◌+◌, ◌-◌, ◌/◌, ◌%◌, ◌^◌, ◌<◌, ◌≤◌, List, [], ◌∷◌, ◌++◌}
use Rattle.std.proofs.Common.{ap, ap₂, append_assoc, arith, bit_or, decimal, drop, get_or, length}
use Rattle.std.proofs.Common.{length-append, map, refl, set, slice_index_or, suc, sym, take, zero, ⊎_elim}
use Rattle.std.specs.Int.Bits.{or_zero_r}
use Rattle.std.specs.List.{range_with_len}
use Rattle.std.proofs.lemmas.Bool.{cases_lt}
use Rattle.std.proofs.lemmas.Fmt.{decimal_digit, length-decimal-le}
use Rattle.std.proofs.lemmas.List.{length-take-le, set-append_right}
use Rattle.std.proofs.lemmas.List.FromFn.{get_or-map-range_with_len}
use Rattle.itoa.proofs.Decimal.{decimal_pair, decimal_two, pair}
use Rattle.tlv_io.specs.LineTexts.{at_right, columns, spaces}
use Rattle.tlv_io.specs.Private.OffsetText.{zero_bit_of}
use Rattle.tlv_io.proofs.HeldTexts.{right_end, right-size}

-- ---- two digits

abbrev with_bit : ℕ → List ℕ → List ℕ
with_bit bit l = bit_or (slice_index_or l 0 0) bit ∷ slice_index_or l 1 0 ∷ []

bits : map (λ (d : ℕ). bit_or (48 + d) 16) (range_with_len 0 10) ≡ map (λ (d : ℕ). 48 + d) (range_with_len 0 10)
bits = refl

digit-has_bit : (d : ℕ) → d < 10 → bit_or (48 + d) 16 ≡ 48 + d
digit-has_bit d few =
    sym (get_or-map-range_with_len (λ (k : ℕ). bit_or (48 + k) 16) 0 10 d d 0 few (omega arith))
    ∙ ap (λ (l : List ℕ). get_or l d 0) bits
    ∙ get_or-map-range_with_len (λ (k : ℕ). 48 + k) 0 10 d d 0 few (omega arith)

pub two_digits-of : (n : ℕ) (places : List ℕ) → n < 100 → places ≡ at_right 2 (decimal n)
    → bit_or (slice_index_or places 0 0) 16 ∷ slice_index_or places 1 0 ∷ [] ≡ pair n
two_digits-of n places few is = ⊎_elim
    (λ (low : n < 10).
    let tens : 0 ≡ n / 10 = omega (arith, low) in
    let ones : n ≡ n % 10 = omega (arith, low) in
    ap (with_bit 16) (is ∙ ap (at_right 2) (decimal_digit n low))
    ∙ ap₂ (λ (x y : ℕ). (48 + x) ∷ (48 + y) ∷ []) tens ones)
    (λ (high : 10 ≤ n).
    let digit : n / 10 < 10 = omega (arith, few) in
    ap (with_bit 16) (is ∙ ap (at_right 2) (decimal_two n high few))
    ∙ ap (λ (tens : ℕ). tens ∷ (48 + n % 10) ∷ []) (digit-has_bit (n / 10) digit))
    (cases_lt n 10)

-- two places, of which none is changed
no_bit : (n : ℕ) (places : List ℕ) → n < 100 → places ≡ at_right 2 (decimal n) → with_bit 0 places ≡ at_right 2 (decimal n)
no_bit n places few is = ⊎_elim
    (λ (low : n < 10).
    let digits : at_right 2 (decimal n) ≡ 32 ∷ (48 + n) ∷ [] = ap (at_right 2) (decimal_digit n low) in
    ap (with_bit 0) (is ∙ digits) ∙ sym digits)
    (λ (high : 10 ≤ n).
    let digits : at_right 2 (decimal n) ≡ pair n = ap (at_right 2) (decimal_two n high few) in
    ap (with_bit 0) (is ∙ digits) ∙ ap (λ (tens : ℕ). tens ∷ (48 + n % 10) ∷ []) (or_zero_r (48 + n / 10)) ∙ sym digits)
    (cases_lt n 10)

-- ---- digits and the columns after them

-- what stands after the offset, if there is no size
abbrev pub no_size : List ℕ
no_size = spaces 7 ++ 58 ∷ 32 ∷ []

columns-no_size : (n : ℕ) → columns n [] ≡ at_right 8 (decimal n) ++ no_size
columns-no_size n =
    append_assoc (at_right 8 (decimal n) ++ 32 ∷ []) (spaces 6) (58 ∷ 32 ∷ [])
    ∙ append_assoc (at_right 8 (decimal n)) (32 ∷ []) (spaces 6 ++ 58 ∷ 32 ∷ [])

-- two more digits take two more places
wider : (places : ℕ) (xs ys : List ℕ) → length ys ≡ 2 → length xs ≤ places
    → at_right places xs ++ ys ≡ at_right (places + 2) (xs ++ ys)
wider places xs ys two few =
    let left : places - length xs ≡ places + 2 - length (xs ++ ys) = omega (arith, length-append xs ys, two, few) in
    append_assoc (spaces (places - length xs)) xs ys ∙ ap (λ (n : ℕ). spaces n ++ (xs ++ ys)) left

-- an offset below 100 in eight places: six spaces, and two places
first_hundred : (n : ℕ) → n < 100 → at_right 8 (decimal n) ≡ spaces 6 ++ at_right 2 (decimal n)
first_hundred n few = ⊎_elim
    (λ (low : n < 10).
    ap (at_right 8) (decimal_digit n low)
    ∙ sym (ap (λ (l : List ℕ). spaces 6 ++ at_right 2 l) (decimal_digit n low)))
    (λ (high : 10 ≤ n).
    ap (at_right 8) (decimal_two n high few)
    ∙ sym (ap (λ (l : List ℕ). spaces 6 ++ at_right 2 l) (decimal_two n high few)))
    (cases_lt n 10)

-- an offset in eight places: its hundreds, and two digits
hundreds : (n : ℕ) → 100 ≤ n → n < 100000000
    → at_right 8 (decimal n) ≡ at_right 6 (decimal (n / 100)) ++ pair (n % 100)
hundreds n many few =
    let below : n / 100 < 1000000 = omega (arith, few) in
    let short : length (decimal (n / 100)) ≤ 6 = length-decimal-le 6 (n / 100) (omega arith) below (omega (arith, below)) in
    let fits : n < 2 ^ 64 = omega (arith, few) in
    ap (at_right 8) (decimal_pair n many fits) ∙ sym (wider 6 (decimal (n / 100)) (pair (n % 100)) refl short)

hundreds-size : (n : ℕ) → n < 100000000 → length (at_right 6 (decimal (n / 100))) ≡ 6
hundreds-size n few =
    let below : n / 100 < 1000000 = omega (arith, few) in
    right-size 6 (decimal (n / 100)) (length-decimal-le 6 (n / 100) (omega arith) below (omega (arith, below)))

-- two octets were written over two others
two_set : (prefix rest : List ℕ) (at a b c d : ℕ) → length prefix ≡ at
    → set (set (prefix ++ (a ∷ b ∷ rest)) at c) (at + 1) d ≡ prefix ++ (c ∷ d ∷ rest)
two_set prefix rest at a b c d size =
    let none : at - at ≡ 0 = omega arith in
    let one : at + 1 - at ≡ 1 = omega arith in
    ap (λ (l : List ℕ). set l (at + 1) d)
    (set-append_right prefix (a ∷ b ∷ rest) at at c size (omega arith)
    ∙ ap (λ (n : ℕ). prefix ++ set (a ∷ b ∷ rest) n c) none)
    ∙ set-append_right prefix (c ∷ b ∷ rest) at (at + 1) d size (omega arith)
    ∙ ap (λ (n : ℕ). prefix ++ set (c ∷ b ∷ rest) n d) one

-- ---- the last two digits of an offset

-- over those of another that has the same hundreds
last_of_many : (first last start : ℕ) (old text tail digits : List ℕ) → start ≤ length old
    → 100 ≤ first → first < 100000000 → first % 100 ≡ 0 → last < 100
    → text ≡ columns first [] → digits ≡ pair last
    → set (set (take start old ++ (text ++ tail)) (start + 6) (get_or digits 0 0)) (start + 7) (get_or digits 1 0)
    ≡ take start old ++ (columns (first + last) [] ++ tail)
last_of_many first last start old text tail digits within many few zeros short is ends =
    let offset : ℕ = first + last in
    let below : offset < 100000000 = omega (arith, few, zeros, short) in
    let some : 100 ≤ offset = omega (arith, many) in
    let same : first / 100 ≡ offset / 100 = omega (arith, zeros, short) in
    let rest : last ≡ offset % 100 = omega (arith, zeros, short) in
    let front : List ℕ = at_right 6 (decimal (offset / 100)) in
    let before : List ℕ = take start old ++ front in
    let more : List ℕ = no_size ++ tail in
    let size : length before ≡ start + 6 =
    omega (arith, length-append (take start old) front, length-take-le start old within, hundreds-size offset below) in
    let old_pair : List ℕ = pair (first % 100) in
    let parts : columns first [] ≡ (front ++ old_pair) ++ no_size =
    columns-no_size first
    ∙ ap (λ (l : List ℕ). l ++ no_size)
    (hundreds first many few ∙ ap (λ (n : ℕ). at_right 6 (decimal n) ++ old_pair) same) in
    let there : take start old ++ (text ++ tail) ≡ before ++ (old_pair ++ more) =
    ap (λ (l : List ℕ). take start old ++ (l ++ tail)) (is ∙ parts)
    ∙ simp append_assoc refl in
    let next : start + 7 ≡ start + 6 + 1 = omega arith in
    let new_pair : List ℕ = pair (offset % 100) in
    ap₂ (λ (l : List ℕ) (n : ℕ). set (set l (start + 6) (get_or digits 0 0)) n (get_or digits 1 0)) there next
    ∙ two_set before more (start + 6) _ _ (get_or digits 0 0) (get_or digits 1 0) size
    ∙ ap (λ (l : List ℕ). before ++ (get_or l 0 0 ∷ get_or l 1 0 ∷ more)) (ends ∙ ap pair rest)
    ∙ simp append_assoc refl
    ∙ ap (λ (l : List ℕ). take start old ++ (l ++ tail))
    (ap (λ (l : List ℕ). l ++ no_size) (sym (hundreds offset some below)) ∙ sym (columns-no_size offset))

-- two places over those of the offset 0
last_of_none : (last start : ℕ) (old text tail places : List ℕ) → start ≤ length old → last < 100
    → text ≡ columns 0 [] → places ≡ at_right 2 (decimal last)
    → set (set (take start old ++ (text ++ tail)) (start + 6) (bit_or (slice_index_or places 0 0) 0)) (start + 7)
    (slice_index_or places 1 0)
    ≡ take start old ++ (columns last [] ++ tail)
last_of_none last start old text tail places within short is ends =
    let before : List ℕ = take start old ++ spaces 6 in
    let more : List ℕ = no_size ++ tail in
    let x : ℕ = bit_or (slice_index_or places 0 0) 0 in
    let y : ℕ = slice_index_or places 1 0 in
    let size : length before ≡ start + 6 =
    omega (arith, length-append (take start old) (spaces 6), length-take-le start old within) in
    let parts : columns 0 [] ≡ (spaces 6 ++ 32 ∷ 48 ∷ []) ++ no_size =
    columns-no_size 0
    ∙ ap (λ (l : List ℕ). l ++ no_size)
    (first_hundred 0 (omega arith) ∙ ap (λ (l : List ℕ). spaces 6 ++ at_right 2 l) (decimal_digit 0 (omega arith))) in
    let there : take start old ++ (text ++ tail) ≡ before ++ (32 ∷ 48 ∷ more) =
    ap (λ (l : List ℕ). take start old ++ (l ++ tail)) (is ∙ parts)
    ∙ simp append_assoc refl in
    let next : start + 7 ≡ start + 6 + 1 = omega arith in
    ap₂ (λ (l : List ℕ) (n : ℕ). set (set l (start + 6) x) n y) there next
    ∙ two_set before more (start + 6) 32 48 x y size
    ∙ ap (λ (l : List ℕ). before ++ (l ++ more)) (no_bit last places short ends)
    ∙ simp append_assoc refl
    ∙ ap (λ (l : List ℕ). take start old ++ (l ++ tail))
    (ap (λ (l : List ℕ). l ++ no_size) (sym (first_hundred last short)) ∙ sym (columns-no_size last))

pub bit-of_none : (n : ℕ) → n ≤ 0 → 0 ≡ zero_bit_of n
bit-of_none zero none = refl
bit-of_none (suc k) none = omega (arith, none)

pub bit-of_some : (n : ℕ) → 0 < n → 16 ≡ zero_bit_of n
bit-of_some zero some = omega (arith, some)
bit-of_some (suc k) some = refl

-- the last two digits, over those of another offset that has the same hundreds
pub last_digits : (first last start bit : ℕ) (old text tail places : List ℕ) → start ≤ length old
    → first < 100000000 → first % 100 ≡ 0 → last < 100
    → text ≡ columns first [] → bit ≡ zero_bit_of first → places ≡ at_right 2 (decimal last)
    → set (set (take start old ++ (text ++ tail)) (start + 6) (bit_or (slice_index_or places 0 0) bit)) (start + 7)
    (slice_index_or places 1 0)
    ≡ take start old ++ (columns (first + last) [] ++ tail)
last_digits zero last start bit old text tail places within few zeros short is none ends =
    let offset : last ≡ 0 + last = omega arith in
    ap (λ (b : ℕ). set (set (take start old ++ (text ++ tail)) (start + 6) (bit_or (slice_index_or places 0 0) b))
    (start + 7) (slice_index_or places 1 0)) none
    ∙ last_of_none last start old text tail places within short is ends
    ∙ ap (λ (n : ℕ). take start old ++ (columns n [] ++ tail)) offset
last_digits (suc k) last start bit old text tail places within few zeros short is some ends =
    let many : 100 ≤ suc k = omega (arith, zeros) in
    ap (λ (b : ℕ). set (set (take start old ++ (text ++ tail)) (start + 6) (bit_or (slice_index_or places 0 0) b))
    (start + 7) (slice_index_or places 1 0)) some
    ∙ last_of_many (suc k) last start old text tail (with_bit 16 places) within many few zeros short is
    (two_digits-of last places short ends)

-- ---- other columns

-- an offset in eight places: four digits, two, and zeros
ten_thousands : (n : ℕ) → 10000 ≤ n → n < 100000000 → n % 100 ≡ 0
    → at_right 8 (decimal n) ≡ at_right 4 (decimal (n / 10000)) ++ (pair (n / 100 % 100) ++ 48 ∷ 48 ∷ [])
ten_thousands n many few zeros =
    let below : n / 100 < 1000000 = omega (arith, few) in
    let less : n / 10000 < 10000 = omega (arith, few) in
    let short : length (decimal (n / 10000)) ≤ 4 = length-decimal-le 4 (n / 10000) (omega arith) less (omega (arith, less)) in
    let fits : n / 100 < 2 ^ 64 = omega (arith, few) in
    let some : 100 ≤ n / 100 = omega (arith, many) in
    let digits : List ℕ = pair (n / 100 % 100) in
    let quotient : n / 100 / 100 ≡ n / 10000 = omega arith in
    hundreds n (omega (arith, many)) few
    ∙ ap₂ (λ (l : List ℕ) (k : ℕ). at_right 6 l ++ pair k) (decimal_pair (n / 100) some fits) zeros
    ∙ ap (λ (k : ℕ). at_right 6 (decimal k ++ digits) ++ 48 ∷ 48 ∷ []) quotient
    ∙ ap (λ (l : List ℕ). l ++ 48 ∷ 48 ∷ []) (sym (wider 4 (decimal (n / 10000)) digits refl short))
    ∙ append_assoc (at_right 4 (decimal (n / 10000))) digits (48 ∷ 48 ∷ [])

-- two digits before the zeros, over those of another offset
pub digits_before : (first n : ℕ) (text digits : List ℕ) → 10000 ≤ first → first < 100000000 → n < 100000000
    → first % 100 ≡ 0 → n % 100 ≡ 0 → n / 10000 ≡ first / 10000
    → text ≡ columns first [] → digits ≡ pair (n / 100 % 100)
    → set (set text 4 (get_or digits 0 0)) 5 (get_or digits 1 0) ≡ columns n []
digits_before first n text digits many few below zeros others same is ends =
    let some : 10000 ≤ n = omega (arith, many, same) in
    let front : List ℕ = at_right 4 (decimal (n / 10000)) in
    let more : List ℕ = 48 ∷ 48 ∷ no_size in
    let less : n / 10000 < 10000 = omega (arith, below) in
    let size : length front ≡ 4 =
    right-size 4 (decimal (n / 10000)) (length-decimal-le 4 (n / 10000) (omega arith) less (omega (arith, less))) in
    let old_pair : List ℕ = pair (first / 100 % 100) in
    let new_pair : List ℕ = pair (n / 100 % 100) in
    let there : text ≡ front ++ (old_pair ++ more) =
    is ∙ columns-no_size first
    ∙ ap (λ (l : List ℕ). l ++ no_size)
    (ten_thousands first many few zeros
    ∙ ap (λ (k : ℕ). at_right 4 (decimal k) ++ (old_pair ++ 48 ∷ 48 ∷ [])) (sym same))
    ∙ append_assoc front (old_pair ++ 48 ∷ 48 ∷ []) no_size in
    ap (λ (l : List ℕ). set (set l 4 (get_or digits 0 0)) 5 (get_or digits 1 0)) there
    ∙ two_set front more 4 _ _ (get_or digits 0 0) (get_or digits 1 0) size
    ∙ ap (λ (l : List ℕ). front ++ (get_or l 0 0 ∷ get_or l 1 0 ∷ more)) ends
    ∙ sym (append_assoc front (new_pair ++ 48 ∷ 48 ∷ []) no_size)
    ∙ ap (λ (l : List ℕ). l ++ no_size) (sym (ten_thousands n some below others))
    ∙ sym (columns-no_size n)

-- all digits, over spaces
pub all_digits : (n start : ℕ) (new : List ℕ) → n < 100000000 → start + length (decimal n) ≡ 8
    → take start new ≡ take start (spaces 8 ++ no_size) → drop start new ≡ decimal n ++ no_size
    → new ≡ columns n []
all_digits n start new below e kept written =
    let short : length (decimal n) ≤ 8 = length-decimal-le 8 n (omega arith) below (omega (arith, below)) in
    right_end (spaces 8 ++ no_size) new [] (decimal n) no_size start 8 refl short e kept written
    ∙ sym (columns-no_size n)

-- the columns of the offset 0
pub columns-first : columns 0 [] ≡ spaces 7 ++ 48 ∷ no_size
columns-first = columns-no_size 0 ∙ ap (λ (l : List ℕ). at_right 8 l ++ no_size) (decimal_digit 0 (omega arith))
