-- Texts that are written after the octets held.
use Rattle.std.proofs.Common.{◌≡◌, ℕ, ◌+◌, ◌-◌, ◌*◌, ◌/◌, ◌<◌, ◌≤◌, ◌^◌, List, [], ◌∷◌, ◌++◌, length, take, drop}
use Rattle.std.proofs.Common.{get_or, decimal, replicate, set, refl, sym, ap, ap₂, ◌∙◌, arith, append_assoc, append-nil}
use Rattle.std.proofs.Common.{length-append, take-append-drop, suc, zero}
use Rattle.std.proofs.Math.Seq.{drop-append-add, drop-append_seam, take-add, take-append-add, take-append_seam}
use Rattle.std.proofs.lemmas.Fmt.{decimal_digit, length-decimal-le}
use Rattle.std.proofs.lemmas.List.{drop-drop, length-replicate, length-take-le, replicate-append-replicate}
use Rattle.std.proofs.lemmas.List.{set-append_right, take-append-le, take-replicate, take-take, take_all, take_more}
use Rattle.hex.specs.Hex.{encode_lower, lower_digits}
use Rattle.hex.proofs.HexLemmas.{length-encode_with}
use Rattle.itoa.proofs.Decimal.{decimal_two, length_one, length_step_wide, pair}
use Rattle.tlv_io.specs.LineTexts.{at_right, spaced_pairs, spaces}

-- ---- texts that were added

-- the first columns of a line, one after the other
pub columns_added : (old one two three new first second : List ℕ) → one ≡ old ++ first → two ≡ one ++ 32 ∷ []
    → three ≡ two ++ second → new ≡ three ++ 58 ∷ 32 ∷ []
    → new ≡ old ++ (first ++ 32 ∷ [] ++ second ++ 58 ∷ 32 ∷ [])
columns_added old one two three new first second p q r s = rw (s, r, q, p) (simp append_assoc refl)

-- how long they make what is held
pub length-added : (old new text : List ℕ) → new ≡ old ++ text → length new ≡ length old + length text
length-added old new text e = ap length e ∙ length-append old text

-- as many octets as are held are those that are held
pub held_up_to : (octets held : List ℕ) (len count : ℕ) → take len octets ≡ held → count ≡ length held
    → len ≤ length octets → take count octets ≡ held
held_up_to octets held len count is size within =
    ap (λ (n : ℕ). take n octets) (size ∙ sym (ap length is) ∙ length-take-le len octets within) ∙ is

-- ---- a text after the octets that stay

-- the rest was lent, and a text was written to its first places
pub part_written : (old part text : List ℕ) (at n : ℕ) → at ≤ length old → take n part ≡ text
    → take (at + n) (take at old ++ part) ≡ take at old ++ text
part_written old part text at n within e =
    let size : length (take at old) ≡ at = length-take-le at old within in
    ap (λ (k : ℕ). take (k + n) (take at old ++ part)) (sym size) ∙ take-append-add (take at old) part n
    ∙ ap (λ (l : List ℕ). take at old ++ l) e

-- of which more was lent than the text takes
pub prefix_written : (old part tail text : List ℕ) (at n : ℕ) → at ≤ length old → n ≤ length part → take n part ≡ text
    → take (at + n) (take at old ++ (part ++ tail)) ≡ take at old ++ text
prefix_written old part tail text at n within long e =
    part_written old (part ++ tail) text at n within (take-append-le n part tail long ∙ e)

-- a text was written after what stays
pub text_written : (new prefix text rest : List ℕ) (start n : ℕ) → take start new ≡ prefix
    → drop start new ≡ text ++ rest → n ≡ start + length text → take n new ≡ prefix ++ text
text_written new prefix text rest start n kept written e =
    ap (λ (k : ℕ). take k new) e ∙ take-add start (length text) new
    ∙ ap₂ (λ (k l : List ℕ). k ++ take (length text) l) kept written
    ∙ ap (λ (l : List ℕ). prefix ++ l) (take-append_seam text rest)

-- a long text is as it is
pub right_long : (places : ℕ) (text : List ℕ) → places ≤ length text → at_right places text ≡ text
right_long places text long =
    let none : places - length text ≡ 0 = omega (arith, long) in ap (λ (n : ℕ). spaces n ++ text) none

-- ---- spaces

-- so many of them hold as many as are wanted
pub spaces_prefix : (count room : ℕ) (pad tail : List ℕ) → pad ≡ spaces room → count ≤ room
    → take count (pad ++ tail) ≡ spaces count
spaces_prefix count room pad tail e few =
    ap (λ (l : List ℕ). take count (l ++ tail)) e
    ∙ take-append-le count (spaces room) tail (omega (arith, length-replicate {A = ℕ} room 32, few))
    ∙ take-replicate count room 32 few

-- 32 more
pub spaces_step : (to pad tail : List ℕ) (done : ℕ) → done ≤ length to → pad ≡ replicate 32 32
    → take done to ≡ spaces done → take (done + 32) (take done to ++ (pad ++ tail)) ≡ spaces (done + 32)
spaces_step to pad tail done within e is =
    let more : List ℕ = replicate 32 32 in
    part_written to (pad ++ tail) more done 32 within (spaces_prefix 32 32 pad tail e (omega arith))
    ∙ ap (λ (l : List ℕ). l ++ more) is
    ∙ replicate-append-replicate done 32 32

-- of more of them, as many as are wanted
pub spaces_of_more : (count done : ℕ) (to : List ℕ) → count ≤ done → take done to ≡ spaces done
    → take count to ≡ spaces count
spaces_of_more count done to more e =
    sym (take-take count done to more) ∙ ap (take count) e ∙ take-replicate count done 32 more

-- a text was written to the right end of so many places, over the first of more spaces
pub right_written : (old new tail text rest pad : List ℕ) (at start end places room : ℕ) → at ≤ length old
    → places ≤ room → start ≡ at + (places - length text) → end ≡ start + length text → pad ≡ spaces room
    → take start new ≡ take start (take at old ++ (pad ++ tail)) → drop start new ≡ text ++ rest
    → take end new ≡ take at old ++ at_right places text
right_written old new tail text rest pad at start end places room within few from e is kept written =
    let left : ℕ = places - length text in
    let blank = spaces_prefix left room pad tail is (omega (arith, few)) in
    let taken : take start new ≡ take at old ++ spaces left =
    kept ∙ ap (λ (k : ℕ). take k (take at old ++ (pad ++ tail))) from
    ∙ part_written old (pad ++ tail) (spaces left) at left within blank in
    text_written new (take at old ++ spaces left) text rest start end taken written e
    ∙ append_assoc (take at old) (spaces left) text

-- ---- the first columns of a line

-- a text was written to the right end of so many spaces
pub right_end : (old new prefix text tail : List ℕ) (start places : ℕ) → old ≡ prefix ++ (spaces places ++ tail)
    → length text ≤ places → start + length text ≡ length prefix + places
    → take start new ≡ take start old → drop start new ≡ text ++ drop (length prefix + places) old
    → new ≡ prefix ++ (at_right places text ++ tail)
right_end old new prefix text tail start places is short e kept written =
    let left : ℕ = places - length text in
    let from : start ≡ length prefix + left = omega (arith, e, short) in
    let size : length (spaces places) ≡ places = length-replicate places 32 in
    let blank : take left (spaces places ++ tail) ≡ spaces left =
    take-append-le left (spaces places) tail (omega (arith, size)) ∙ take-replicate left places 32 (omega arith) in
    let taken : take start old ≡ prefix ++ spaces left =
    ap (take start) is ∙ ap (λ (k : ℕ). take k (prefix ++ (spaces places ++ tail))) from
    ∙ take-append-add prefix (spaces places ++ tail) left ∙ ap (λ (l : List ℕ). prefix ++ l) blank in
    let dropped : drop (length prefix + places) old ≡ tail =
    ap (drop (length prefix + places)) is ∙ drop-append-add prefix (spaces places ++ tail) places
    ∙ ap (λ (k : ℕ). drop k (spaces places ++ tail)) (sym size) ∙ drop-append_seam (spaces places) tail in
    sym (take-append-drop start new)
    ∙ ap₂ (λ (k l : List ℕ). k ++ l) (kept ∙ taken) (written ∙ ap (λ (l : List ℕ). text ++ l) dropped)
    ∙ append_assoc prefix (spaces left) (text ++ tail)
    ∙ ap (λ (l : List ℕ). prefix ++ l) (sym (append_assoc (spaces left) text tail))

-- a text that is not too long takes so many places
pub right-size : (places : ℕ) (text : List ℕ) → length text ≤ places → length (at_right places text) ≡ places
right-size places text short =
    omega
    (arith, length-append (spaces (places - length text)) text, length-replicate {A = ℕ} (places - length text) 32)

-- and a number 20 at most
pub right-short : (places n : ℕ) → places ≤ 20 → n < 2 ^ 64 → length (at_right places (decimal n)) ≤ 20
right-short places n few fits =
    omega (
      arith,
      length-append (spaces (places - length (decimal n))) (decimal n),
      length-replicate {A = ℕ} (places - length (decimal n)) 32,
      length-decimal-le 20 n (omega arith) (omega arith) fits,
    )

-- the octets of a list of two
two-octets : (l : List ℕ) → length l ≡ 2 → get_or l 0 0 ∷ get_or l 1 0 ∷ [] ≡ l
two-octets (x ∷ y ∷ []) e = refl
two-octets [] e = absurd (omega (arith, e))
two-octets (x ∷ []) e = absurd (omega (arith, e))
two-octets (x ∷ y ∷ z ∷ l) e = absurd (omega (arith, e))

-- ---- the digits of a number below 100, from its two places

pub one_digit : (n : ℕ) (places : List ℕ) → n < 10 → places ≡ at_right 2 (decimal n)
    → get_or places 1 0 ∷ [] ≡ decimal n
one_digit n places few is =
    ap (λ (l : List ℕ). get_or l 1 0 ∷ []) (is ∙ ap (at_right 2) (decimal_digit n few)) ∙ sym (decimal_digit n few)

pub two_places_of : (n : ℕ) (places : List ℕ) → 10 ≤ n → n < 100 → places ≡ at_right 2 (decimal n)
    → get_or places 0 0 ∷ get_or places 1 0 ∷ [] ≡ decimal n
two_places_of n places many few is =
    let same : places ≡ pair n = is ∙ ap (at_right 2) (decimal_two n many few) in
    two-octets places (ap length same) ∙ same ∙ sym (decimal_two n many few)

-- ---- a number over six spaces

module _ (old : List ℕ) (start : ℕ) (within : start + 6 ≤ length old) (blank : take 6 (drop start old) ≡ spaces 6) where
  abbrev before : List ℕ
  before = take start old

  abbrev after : List ℕ
  after = drop (start + 6) old

  before-size : length before ≡ start
  before-size = length-take-le start old (omega (arith, within))

  blank-parts : old ≡ before ++ (spaces 6 ++ after)
  blank-parts =
      sym (take-append-drop start old)
      ∙ ap (λ (l : List ℕ). before ++ l)
      (sym (take-append-drop 6 (drop start old))
      ∙ ap₂ (λ (k l : List ℕ). k ++ l) blank (drop-drop 6 start old))

  -- of any number of digits
  pub digits_over : (new text : List ℕ) (from : ℕ) → length text ≤ 6 → from + length text ≡ start + 6
      → take from new ≡ take from old → drop from new ≡ text ++ drop (start + 6) old
      → new ≡ take start old ++ (at_right 6 text ++ drop (start + 6) old)
  digits_over new text from short e kept written =
      right_end old new before text after from 6 blank-parts short (omega (arith, e, before-size)) kept
      (written ∙ ap (λ (n : ℕ). text ++ drop n old) (omega (arith, before-size)))

  -- of two places
  pub places_over : (places text : List ℕ) → places ≡ at_right 2 text → length text ≤ 2
      → set (set old (start + 4) (get_or places 0 0)) (start + 5) (get_or places 1 0)
      ≡ take start old ++ (at_right 6 text ++ drop (start + 6) old)
  places_over places text is short =
      let tens : ℕ = get_or places 0 0 in
      let ones : ℕ = get_or places 1 0 in
      let four : start + 4 - start ≡ 4 = omega arith in
      let five : start + 5 - start ≡ 5 = omega arith in
      let one : set old (start + 4) tens ≡ before ++ (spaces 4 ++ tens ∷ 32 ∷ after) =
      ap (λ (l : List ℕ). set l (start + 4) tens) blank-parts
      ∙ set-append_right before (spaces 6 ++ after) start (start + 4) tens before-size (omega arith)
      ∙ ap (λ (n : ℕ). before ++ set (spaces 6 ++ after) n tens) four in
      let two : length places ≡ 2 = ap length is ∙ right-size 2 text short in
      let wider : spaces 4 ++ at_right 2 text ≡ at_right 6 text =
      sym (append_assoc (spaces 4) (spaces (2 - length text)) text)
      ∙ ap (λ (l : List ℕ). l ++ text) (replicate-append-replicate 4 (2 - length text) 32)
      ∙ ap (λ (n : ℕ). spaces n ++ text) (omega (arith, short)) in
      ap (λ (l : List ℕ). set l (start + 5) ones) one
      ∙ set-append_right before (spaces 4 ++ tens ∷ 32 ∷ after) start (start + 5) ones before-size (omega arith)
      ∙ ap (λ (n : ℕ). before ++ set (spaces 4 ++ tens ∷ 32 ∷ after) n ones) five
      ∙ ap (λ (l : List ℕ). before ++ (spaces 4 ++ (l ++ after))) (two-octets places two ∙ is)
      ∙ ap (λ (l : List ℕ). before ++ l) (sym (append_assoc (spaces 4) (at_right 2 text) after))
      ∙ ap (λ (l : List ℕ). before ++ (l ++ after)) wider

module _ (old first tail : List ℕ) (at : ℕ) (within : at ≤ length old) (short : length first ≤ 8) where
  -- what is before the second column
  abbrev pub first_column : List ℕ
  first_column = take at old ++ (at_right 8 first ++ 32 ∷ [])

  -- and both columns
  abbrev pub columns_of : List ℕ → List ℕ
  columns_of second = at_right 8 first ++ 32 ∷ [] ++ second ++ 58 ∷ 32 ∷ []

  pub first_column-size : length first_column ≡ at + 9
  first_column-size =
      omega (
        arith,
        length-append (take at old) (at_right 8 first ++ 32 ∷ []),
        length-take-le at old within,
        length-append (at_right 8 first) (32 ∷ []),
        right-size 8 first short,
      )

  -- the columns are there, without a size
  pub no_size_written : (middle : List ℕ) → middle ≡ take at old ++ (columns_of (spaces 6) ++ tail)
      → middle ≡ first_column ++ (spaces 6 ++ 58 ∷ 32 ∷ tail)
  no_size_written middle is = is ∙ simp append_assoc refl

  -- both columns are there
  pub columns_there : (new second : List ℕ) → length second ≡ 6 → new ≡ first_column ++ (second ++ 58 ∷ 32 ∷ tail)
      → take (at + 17) new ≡ take at old ++ columns_of second
  columns_there new second six is =
      let whole : List ℕ = take at old ++ columns_of second in
      let same : new ≡ whole ++ tail = is ∙ simp append_assoc refl in
      let size : length (columns_of second) ≡ 17 =
      omega (
        arith,
        length-append (at_right 8 first ++ 32 ∷ [] ++ second) (58 ∷ 32 ∷ []),
        length-append (at_right 8 first ++ 32 ∷ []) second,
        length-append (at_right 8 first) (32 ∷ []),
        right-size 8 first short,
        six,
      ) in
      let all : length whole ≡ at + 17 =
      omega (arith, length-append (take at old) (columns_of second), length-take-le at old within, size) in
      ap₂ take (sym all) same ∙ take-append_seam whole tail

  -- six spaces were left for the second column
  pub six_left : (middle : List ℕ) → middle ≡ first_column ++ (spaces 6 ++ 58 ∷ 32 ∷ tail)
      → take 6 (drop (at + 9) middle) ≡ spaces 6
  six_left middle is =
      ap₂ (λ (n : ℕ) (l : List ℕ). take 6 (drop n l)) (sym first_column-size) is
      ∙ ap (take 6) (drop-append_seam first_column (spaces 6 ++ 58 ∷ 32 ∷ tail))

  -- a size was written to them
  pub size_written : (middle new text : List ℕ) → middle ≡ first_column ++ (spaces 6 ++ 58 ∷ 32 ∷ tail)
      → length text ≤ 6 → new ≡ take (at + 9) middle ++ (at_right 6 text ++ drop (at + 9 + 6) middle)
      → take (at + 17) new ≡ take at old ++ columns_of (at_right 6 text)
  size_written middle new text is few written =
      let rest : List ℕ = spaces 6 ++ 58 ∷ 32 ∷ tail in
      let taken : take (at + 9) middle ≡ first_column =
      ap₂ take (sym first_column-size) is ∙ take-append_seam first_column rest in
      let dropped : drop (at + 9 + 6) middle ≡ 58 ∷ 32 ∷ tail =
      ap₂ (λ (n : ℕ) (l : List ℕ). drop (n + 6) l) (sym first_column-size) is ∙ drop-append-add first_column rest 6 in
      columns_there new (at_right 6 text) (right-size 6 text few)
      (written ∙ ap₂ (λ (k l : List ℕ). k ++ (at_right 6 text ++ l)) taken dropped)

  -- a word was written after the offset
  pub word_written : (middle there word : List ℕ) → middle ≡ first_column ++ (spaces 6 ++ 58 ∷ 32 ∷ tail)
      → length word ≡ 6 → there ≡ word
      → take (at + 17) (take (at + 9) middle ++ (there ++ drop (at + 15 - (at + 9)) (drop (at + 9) middle)))
      ≡ take at old ++ columns_of (at_right 6 word)
  word_written middle there word is six same =
      let rest : List ℕ = spaces 6 ++ 58 ∷ 32 ∷ tail in
      let taken : take (at + 9) middle ≡ first_column =
      ap₂ take (sym first_column-size) is ∙ take-append_seam first_column rest in
      let dropped : drop (at + 15 - (at + 9)) (drop (at + 9) middle) ≡ 58 ∷ 32 ∷ tail =
      drop-drop (at + 15 - (at + 9)) (at + 9) middle
      ∙ ap₂ (λ (n : ℕ) (l : List ℕ). drop n l) (omega (arith, first_column-size)) is
      ∙ drop-append-add first_column rest 6 in
      let t = ap₂ (λ (k l : List ℕ). k ++ l) taken (ap₂ (λ (k l : List ℕ). k ++ l) same dropped) in
      columns_there (take (at + 9) middle ++ (there ++ drop (at + 15 - (at + 9)) (drop (at + 9) middle))) word six t
      ∙ ap (λ (l : List ℕ). take at old ++ columns_of l) (sym (right_long 6 word (omega (arith, six))))

-- ---- how many digits a number has

power_some : (k : ℕ) → 1 ≤ 10 ^ k
power_some zero = omega arith
power_some (suc k) = omega (arith, power_some k)

-- so many as powers of ten say
pub digits_of_power : (k n : ℕ) → n < 2 ^ 64 → 10 ^ k ≤ n → n < 10 * 10 ^ k → k + 1 ≡ length (decimal n)
digits_of_power k n fits from to = sym (by k n (omega arith) from to)
  where
    by : (k n : ℕ) → n < 2 ^ 128 → 10 ^ k ≤ n → n < 10 * 10 ^ k → length (decimal n) ≡ k + 1
    by zero n fits from to = length_one n (omega arith)
    by (suc k) n fits from to =
        omega (
          arith,
          length_step_wide n (omega (arith, power_some k, from)) fits,
          by k (n / 10) (omega arith) (omega (arith, from)) (omega (arith, to)),
        )

-- ---- pairs of digits

pairs-append : (xs ys : List ℕ) → spaced_pairs (xs ++ ys) ≡ spaced_pairs xs ++ spaced_pairs ys
pairs-append [] ys = refl
pairs-append (x ∷ xs) ys =
    ap (λ (l : List ℕ). (32 ∷ encode_lower (x ∷ [])) ++ l) (pairs-append xs ys)
    ∙ sym (append_assoc (32 ∷ encode_lower (x ∷ [])) (spaced_pairs xs) (spaced_pairs ys))

-- one pair more
pairs-more : (octets : List ℕ) (i : ℕ) → i < length octets
    → spaced_pairs (take (i + 1) octets) ≡ spaced_pairs (take i octets) ++ 32 ∷ encode_lower (get_or octets i 0 ∷ [])
pairs-more octets i h =
    ap spaced_pairs (take_more octets i 0 h)
    ∙ pairs-append (take i octets) (get_or octets i 0 ∷ [])
    ∙ ap (λ (l : List ℕ). spaced_pairs (take i octets) ++ 32 ∷ l) (append-nil (encode_lower (get_or octets i 0 ∷ [])))

-- how many octets they are
pub pairs-size : (octets : List ℕ) → length (spaced_pairs octets) ≡ 3 * length octets
pairs-size [] = refl
pairs-size (x ∷ xs) =
    omega (
      arith,
      length-append (32 ∷ encode_lower (x ∷ [])) (spaced_pairs xs),
      length-encode_with lower_digits (x ∷ []),
      pairs-size xs,
    )

-- the pair of octet i, in place of the spaces after the one before it
pub row_step : (octets to pair rest : List ℕ) (i : ℕ) → i < 16 → length octets ≡ 16
    → to ≡ spaced_pairs (take i octets) ++ (spaces (48 - 3 * i) ++ rest)
    → pair ≡ encode_lower (get_or octets i 0 ∷ [])
    → set (set to (3 * i + 1) (get_or pair 0 0)) (3 * i + 2) (get_or pair 1 0)
    ≡ spaced_pairs (take (i + 1) octets) ++ (spaces (48 - 3 * (i + 1)) ++ rest)
row_step octets to pair rest i few whole is p =
    let prefix : List ℕ = spaced_pairs (take i octets) in
    let tail : List ℕ = spaces (48 - 3 * (i + 1)) ++ rest in
    let high : ℕ = get_or pair 0 0 in
    let low : ℕ = get_or pair 1 0 in
    let size : length prefix ≡ 3 * i =
    pairs-size (take i octets) ∙ ap (λ (n : ℕ). 3 * n) (length-take-le i octets (omega arith)) in
    let three : 48 - 3 * i ≡ suc (suc (suc (48 - 3 * (i + 1)))) = omega (arith, few) in
    let t : to ≡ prefix ++ (32 ∷ 32 ∷ 32 ∷ tail) = is ∙ ap (λ (n : ℕ). prefix ++ (spaces n ++ rest)) three in
    let place : 3 * i + 1 - 3 * i ≡ 1 = omega arith in
    let next_place : 3 * i + 2 - 3 * i ≡ 2 = omega arith in
    let one : set to (3 * i + 1) high ≡ prefix ++ (32 ∷ high ∷ 32 ∷ tail) =
    ap (λ (l : List ℕ). set l (3 * i + 1) high) t
    ∙ set-append_right prefix (32 ∷ 32 ∷ 32 ∷ tail) (3 * i) (3 * i + 1) high size (omega arith)
    ∙ ap (λ (n : ℕ). prefix ++ set (32 ∷ 32 ∷ 32 ∷ tail) n high) place in
    let two : length pair ≡ 2 = ap length p ∙ length-encode_with lower_digits (get_or octets i 0 ∷ []) in
    ap (λ (l : List ℕ). set l (3 * i + 2) low) one
    ∙ set-append_right prefix (32 ∷ high ∷ 32 ∷ tail) (3 * i) (3 * i + 2) low size (omega arith)
    ∙ ap (λ (n : ℕ). prefix ++ set (32 ∷ high ∷ 32 ∷ tail) n low) next_place
    ∙ sym (append_assoc prefix (32 ∷ high ∷ low ∷ []) tail)
    ∙ ap (λ (l : List ℕ). (prefix ++ 32 ∷ l) ++ tail) (two-octets pair two ∙ p)
    ∙ ap (λ (l : List ℕ). l ++ tail) (sym (pairs-more octets i (omega arith)))

-- all 16
pub row_whole : (octets to rest : List ℕ) (i : ℕ) → i ≡ 16 → length octets ≡ 16
    → to ≡ spaced_pairs (take i octets) ++ (spaces (48 - 3 * i) ++ rest) → take 48 to ≡ spaced_pairs octets
row_whole octets to rest i last whole is =
    let all : take i octets ≡ octets = take_all i octets (omega arith) in
    let none : 48 - 3 * i ≡ 0 = omega (arith, last) in
    let size : length (spaced_pairs octets) ≡ 48 = omega (arith, pairs-size octets, whole) in
    ap₂ take (sym size) (is ∙ ap₂ (λ (l : List ℕ) (n : ℕ). spaced_pairs l ++ (spaces n ++ rest)) all none)
    ∙ take-append_seam (spaced_pairs octets) rest
