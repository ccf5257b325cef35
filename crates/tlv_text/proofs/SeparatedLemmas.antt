-- A text of pairs, none of which a digit follows at once, has no block of PEM and no row of a dump.
use Rattle.std.proofs.Common.{◌≡◌, ℕ, zero, suc, ◌-◌, ◌==◌, Bool, true, false, ◌&&◌, ◌||◌, List, [], ◌∷◌, ◌++◌}
use Rattle.std.proofs.Common.{drop, length, refl, rules, slice_index, take, inl, inr}
use Rattle.std.specs.Prelude.{if◌then◌else◌, nat_le, not}
use Rattle.std.specs.List.{AllPass, list_all}
use Rattle.std.proofs.lemmas.Bool.{and_parts, cases_Bool}
use Rattle.std.proofs.lemmas.List.Elements.{All-cons, All-drop, All-nil}
use Rattle.std.proofs.lemmas.List.Sums.{list_all-from_AllPass}
use Rattle.hex.specs.Hex.{is_hex_digit}
use Rattle.tlv_text.specs.Dump.{dump_read}
use Rattle.tlv_text.specs.TextRead.{refused_with}
use Rattle.tlv_text.specs.DumpLines.{TextLine, after_blanks, dump_lines, into_line, is_dump_blank, kind_from, line_kind}
use Rattle.tlv_text.specs.DumpLines.{OffsetRead, new_text_line, offset_read, row_of, row_or_other, without_return}
use Rattle.tlv_text.specs.DumpPairs.{begins_digit}
use Rattle.tlv_text.specs.Pairs.{is_between_pairs}
use Rattle.tlv_text.specs.Pem.{HasNoBlock, begin_marker, dashes}
use Rattle.tlv_text.specs.Separated.{are_separated}
use Rattle.tlv_text.specs.declared.dump.lines.Radix.TheVariants.{Hexadecimal}
use Rattle.tlv_text.specs.DumpEnds.{begins_dump_row}
use Rattle.tlv_text.proofs.DumpSignLemmas.{NoneStarts, none-octal, none-read}
use Rattle.tlv_text.proofs.PairReadLemmas.{between-no_digit, between-separated, digit-not_between}
use Rattle.tlv_text.proofs.PairReadLemmas.{digits-separated}

-- ---- its characters

-- what is known of a text that begins with a pair
record BeginsPair (x y : ℕ) (rest : List ℕ) : Type 0 where
  first : is_hex_digit x ≡ true
  second : is_hex_digit y ≡ true
  apart : begins_digit rest ≡ false
  rests : are_separated rest ≡ true

not-true : (b : Bool) → not b ≡ true → b ≡ false
not-true true e = cc e
not-true false e = refl

pair-parts : (x y : ℕ) (rest : List ℕ) → is_between_pairs x ≡ false → are_separated (x ∷ y ∷ rest) ≡ true
    → BeginsPair x y rest
pair-parts x y rest e are =
    let all : (is_hex_digit x && is_hex_digit y && not (begins_digit rest) && are_separated rest) ≡ true =
    rw e at are in
    let begins = and_parts (is_hex_digit x && is_hex_digit y && not (begins_digit rest)) (are_separated rest) all in
    let pair = and_parts (is_hex_digit x && is_hex_digit y) (not (begins_digit rest)) begins.0 in
    let digits = and_parts (is_hex_digit x) (is_hex_digit y) pair.0 in
    record {
      first = digits.0;
      second = digits.1;
      apart = not-true (begins_digit rest) pair.1;
      rests = begins.1;
    }

-- ---- its lines

abbrev LinesAre : List TextLine → Type 0
LinesAre [] = Unit {0}
LinesAre (line ∷ lines) = (are_separated line.characters ≡ true) × LinesAre lines

-- the first line does not begin with a digit
abbrev NoDigitFirst : List TextLine → Type 0
NoDigitFirst [] = Unit {0}
NoDigitFirst (line ∷ lines) = begins_digit line.characters ≡ false

first-into : (x left : ℕ) (lines : List TextLine) → is_hex_digit x ≡ false → NoDigitFirst (into_line x left lines)
first-into x left [] e = e
first-into x left (line ∷ lines) e = e

first-feed : (b : Bool) (x left : ℕ) (lines : List TextLine) → is_hex_digit x ≡ false
    → NoDigitFirst (if b then new_text_line [] left ∷ lines else into_line x left lines)
first-feed true x left lines e = refl
first-feed false x left lines e = first-into x left lines e

first-line : (text : List ℕ) → begins_digit text ≡ false → NoDigitFirst (dump_lines text)
first-line [] e = tt
first-line (x ∷ text) e = first-feed (x == 10) x (length (x ∷ text)) (dump_lines text) e

between-into : (x left : ℕ) (lines : List TextLine) → is_between_pairs x ≡ true → LinesAre lines
    → LinesAre (into_line x left lines)
between-into x left [] e all = (between-separated x [] e refl, tt)
between-into x left (line ∷ lines) e all = (between-separated x line.characters e all.0, all.1)

between-feed : (b : Bool) (x left : ℕ) (lines : List TextLine) → is_between_pairs x ≡ true → LinesAre lines
    → LinesAre (if b then new_text_line [] left ∷ lines else into_line x left lines)
between-feed true x left lines e all = (refl, all)
between-feed false x left lines e all = between-into x left lines e all

last-feed : (b : Bool) (x left : ℕ) → are_separated (x ∷ []) ≡ true
    → LinesAre (if b then new_text_line [] left ∷ [] else into_line x left [])
last-feed true x left e = (refl, tt)
last-feed false x left e = (e, tt)

pair-into : (x y left more : ℕ) (lines : List TextLine) → is_hex_digit x ≡ true → is_hex_digit y ≡ true
    → NoDigitFirst lines → LinesAre lines → LinesAre (into_line x left (into_line y more lines))
pair-into x y left more [] dx dy apart all = (digits-separated x y [] dx dy refl refl, tt)
pair-into x y left more (line ∷ lines) dx dy apart all =
    (digits-separated x y line.characters dx dy apart all.0, all.1)

digit-no_feed : (x : ℕ) → is_hex_digit x ≡ true → (x == 10) ≡ false
digit-no_feed x e = search rules

lines-separated : (text : List ℕ) → are_separated text ≡ true → LinesAre (dump_lines text)
lines-separated [] e = tt
lines-separated (x ∷ []) e = last-feed (x == 10) x 1 e
lines-separated (x ∷ y ∷ rest) e =
    elim (cases_Bool (is_between_pairs x)) [
      | inl b ↦
          between-feed (x == 10) x (length (x ∷ y ∷ rest)) (dump_lines (y ∷ rest)) b
          (lines-separated (y ∷ rest) (rw b at e))
      | inr b ↦
          let p = pair-parts x y rest b e in
          rw (digit-no_feed x p.first, digit-no_feed y p.second)
          (pair-into x y (length (x ∷ y ∷ rest)) (length (y ∷ rest)) (dump_lines rest) p.first p.second
          (first-line rest p.apart) (lines-separated rest p.rests))
    ]

-- ---- what such a line is

take-apart : (n : ℕ) (text : List ℕ) → begins_digit text ≡ false → begins_digit (take n text) ≡ false
take-apart zero text e = refl
take-apart (suc n) [] e = refl
take-apart (suc n) (x ∷ text) e = e

first-one : (x y : ℕ) (rest : List ℕ) → are_separated (x ∷ y ∷ rest) ≡ true → are_separated (x ∷ []) ≡ true
first-one x y rest e =
    elim (cases_Bool (is_between_pairs x)) [
      | inl b ↦ rw b refl
      | inr b ↦ let p = pair-parts x y rest b e in rw (b, p.first) refl
    ]

take-separated : (n : ℕ) (text : List ℕ) → are_separated text ≡ true → are_separated (take n text) ≡ true
take-separated zero text e = refl
take-separated (suc n) [] e = refl
take-separated (suc zero) (x ∷ []) e = e
take-separated (suc (suc n)) (x ∷ []) e = e
take-separated (suc zero) (x ∷ y ∷ rest) e = first-one x y rest e
take-separated (suc (suc n)) (x ∷ y ∷ rest) e =
    elim (cases_Bool (is_between_pairs x)) [
      | inl b ↦ between-separated x (take (suc n) (y ∷ rest)) b (take-separated (suc n) (y ∷ rest) (rw b at e))
      | inr b ↦
          let p = pair-parts x y rest b e in
          digits-separated x y (take n rest) p.first p.second (take-apart n rest p.apart)
          (take-separated n rest p.rests)
    ]

either-separated : (b : Bool) (xs ys : List ℕ) → are_separated xs ≡ true → are_separated ys ≡ true
    → are_separated (if b then xs else ys) ≡ true
either-separated true xs ys f g = f
either-separated false xs ys f g = g

blank-between : (x : ℕ) → is_dump_blank x ≡ true → is_between_pairs x ≡ true
blank-between x e = search rules

blank-rest : (x : ℕ) (text : List ℕ) → is_dump_blank x ≡ true → are_separated (x ∷ text) ≡ true
    → are_separated text ≡ true
blank-rest x [] b e = refl
blank-rest x (y ∷ text) b e = rw (blank-between x b) at e

blanks-separated : (text : List ℕ) → are_separated text ≡ true → are_separated (after_blanks text) ≡ true
blanks-separated [] e = refl
blanks-separated (x ∷ text) e =
    elim (cases_Bool (is_dump_blank x)) [
      | inl b ↦ rw b (blanks-separated text (blank-rest x text b e))
      | inr b ↦ rw b e
    ]

between-no_asterisk : (x : ℕ) → is_between_pairs x ≡ true → (x == 42) ≡ false
between-no_asterisk x e = search rules

digit-no_asterisk : (x : ℕ) → is_hex_digit x ≡ true → (x == 42) ≡ false
digit-no_asterisk x e = search rules

between-no_zero : (x : ℕ) → is_between_pairs x ≡ true → (x == 48) ≡ false
between-no_zero x e = search rules

digit-no_prefix : (x y : ℕ) → is_hex_digit y ≡ true → ((x == 48) && ((y == 120) || (y == 88))) ≡ false
digit-no_prefix x y e = by (x == 48) ((y == 120) || (y == 88)) (no_x y e)
  where
    no_x : (y : ℕ) → is_hex_digit y ≡ true → ((y == 120) || (y == 88)) ≡ false
    no_x y e = search rules

    by : (a b : Bool) → b ≡ false → (a && b) ≡ false
    by true b none = none
    by false b none = refl

-- fewer than four digits are no offset
no-offset : (read : OffsetRead) → nat_le 4 read.count ≡ false → begins_dump_row (row_or_other (row_of read)) ≡ false
no-offset read few = rw few refl

few-after_between : (x : ℕ) (text : List ℕ) → is_between_pairs x ≡ true
    → nat_le 4 (offset_read Hexadecimal 0 0 (x ∷ text)).count ≡ false
few-after_between x text e = rw (between-no_digit x e) refl

few-after_pair : (x y : ℕ) (rest : List ℕ) → is_hex_digit x ≡ true → is_hex_digit y ≡ true → begins_digit rest ≡ false
    → nat_le 4 (offset_read Hexadecimal 0 0 (x ∷ y ∷ rest)).count ≡ false
few-after_pair x y [] dx dy apart = rw (dx, dy) refl
few-after_pair x y (z ∷ rest) dx dy apart = let none : is_hex_digit z ≡ false = apart in rw (dx, dy, none) refl

kind-separated : (text : List ℕ) → are_separated text ≡ true → begins_dump_row (kind_from Hexadecimal text) ≡ false
kind-separated [] e = refl
kind-separated (x ∷ []) e =
    elim (cases_Bool (is_between_pairs x)) [
      | inl b ↦
          rw (between-no_asterisk x b)
          (no-offset (offset_read Hexadecimal 0 0 (x ∷ [])) (few-after_between x [] b))
      | inr b ↦
          let digit : is_hex_digit x ≡ true = rw b at e in
          rw (digit-no_asterisk x digit)
          (no-offset (offset_read Hexadecimal 0 0 (x ∷ [])) (rw digit refl))
    ]
kind-separated (x ∷ y ∷ rest) e =
    elim (cases_Bool (is_between_pairs x)) [
      | inl b ↦
          rw (between-no_asterisk x b, between-no_zero x b)
          (no-offset (offset_read Hexadecimal 0 0 (x ∷ y ∷ rest)) (few-after_between x (y ∷ rest) b))
      | inr b ↦
          let p = pair-parts x y rest b e in
          rw (digit-no_asterisk x p.first, digit-no_prefix x y p.second)
          (no-offset (offset_read Hexadecimal 0 0 (x ∷ y ∷ rest)) (few-after_pair x y rest p.first p.second p.apart))
    ]

line-separated : (line : List ℕ) → are_separated line ≡ true → begins_dump_row (line_kind Hexadecimal line) ≡ false
line-separated line e =
    kind-separated (after_blanks (without_return line))
    (blanks-separated (without_return line)
    (either-separated (slice_index line (length line - 1) == 13) (take (length line - 1) line) line
    (take-separated (length line - 1) line e) e))

none-starts : (lines : List TextLine) → LinesAre lines → NoneStarts lines
none-starts [] all = tt
none-starts (line ∷ lines) all = (line-separated line.characters all.0, none-starts lines all.1)

pub no-row : (text : List ℕ) → are_separated text ≡ true → dump_read text ≡ refused_with 0
no-row text e =
    let none = none-starts (dump_lines text) (lines-separated text e) in
    rw (none-octal (dump_lines text) none) (none-read (dump_lines text) none)

-- ---- no block of PEM

abbrev is_pair_character : ℕ → Bool
is_pair_character x = is_between_pairs x || is_hex_digit x

abbrev IsOne : ℕ → Type 0
IsOne x = is_pair_character x ≡ true

digit-one : (x : ℕ) → is_hex_digit x ≡ true → IsOne x
digit-one x e = rw (digit-not_between x e, e) refl

characters-are : (text : List ℕ) → are_separated text ≡ true → AllPass is_pair_character text
characters-are [] e = All-nil IsOne
characters-are (x ∷ []) e = All-cons IsOne x [] e (All-nil IsOne)
characters-are (x ∷ y ∷ rest) e =
    elim (cases_Bool (is_between_pairs x)) [
      | inl b ↦ All-cons IsOne x (y ∷ rest) (rw b refl) (characters-are (y ∷ rest) (rw b at e))
      | inr b ↦
          let p = pair-parts x y rest b e in
          All-cons IsOne x (y ∷ rest) (digit-one x p.first)
          (All-cons IsOne y rest (digit-one y p.second) (characters-are rest p.rests))
    ]

-- G is neither a digit nor between pairs
marker-not : (rest : List ℕ) → list_all is_pair_character (begin_marker ++ rest) ≡ false
marker-not rest = refl

pub no-block : (text : List ℕ) → are_separated text ≡ true → HasNoBlock text
no-block text e = λ k label after b.
    let all = list_all-from_AllPass is_pair_character (drop k text)
    (All-drop IsOne k text (characters-are text e)) in
    absurd (cc (rw b.spelled at all, marker-not (label ++ (dashes ++ after))))
