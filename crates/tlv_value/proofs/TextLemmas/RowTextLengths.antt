-- No text of a row is longer than its line has room.
use Rattle.std.proofs.Common.{◌≡◌, ℕ, zero, suc, ◌+◌, ◌-◌, ◌*◌, ◌^◌, ◌<◌, ◌≤◌, Bool, true, false, List, [], ◌∷◌, ◌++◌}
use Rattle.std.proofs.Common.{length, take, drop, refl, ap, ◌∙◌, arith, length-append}
use Rattle.std.proofs.lemmas.Bool.Decides.{nat_tests}
use Rattle.std.proofs.lemmas.Bool.{leb-true}
use Rattle.std.proofs.lemmas.Fmt.{length-decimal-le_wide}
use Rattle.std.proofs.lemmas.List.{length-drop, length-map, length-take}
use Rattle.std.specs.List.{list_all}
use Rattle.std.specs.Prelude.{ℤ, pos, negsuc, codes, decimal, FitsSigned}
use Rattle.std.specs.Fmt.{signed_decimal}
use lib.Signed.{mag}
use mir.Syntax.{w128}
use Rattle.tlv_value.specs.Bits.{bits_of}
use Rattle.tlv_value.specs.Number.{twos_complement}
use Rattle.tlv_value.specs.Rows.{rows_of}
use Rattle.tlv_value.proofs.TextLemmas.Numbers.{length-bits, twos-fits_all}
use Rattle.std.specs.Prelude.{eqb, nat_le, ◌&&◌, flat_map, if◌then◌else◌}
use Rattle.hex.specs.Hex.{encode_lower, lower_digits}
use Rattle.hex.proofs.HexLemmas.{length-encode_with}
use Rattle.tlv_head.specs.declared.kind.Kind.{Kind}
use Rattle.tlv_head.specs.declared.kind.Kind.TheVariants.{Octets, Boolean, Integer, Bits, Object, Relative, Text, Utf8}
use Rattle.tlv_head.specs.declared.kind.Kind.TheVariants.{Ucs2, Ucs4}
use Rattle.tlv_value.specs.Units.{escaped_number, escaped_octet, is_printable, octet_text, printable_text, quoted_text}
use Rattle.tlv_value.specs.Units.{first_units, three_octets, unit_size, unit_text, units, utf8_number, without_leading_zeros}
use Rattle.tlv_value.proofs.TextLemmas.UnitSteps.{size-within}
use Rattle.tlv_value.specs.Value.{InPairs, OnLine, Value, Written, bit_count_text, bits_value, boolean_value}
use Rattle.tlv_value.specs.Value.{is_unused_count}
use Rattle.tlv_value.specs.TextBeside.{on_line_text_with, pairs_with_text, text_behind}
use Rattle.tlv_value.specs.Private.UndottedText.{integer_text, line_pairs}
use Rattle.tlv_io.specs.LineTexts.{AddsAtMost}
use Rattle.tlv_io.proofs.HeldTexts.{pairs-size}
use Rattle.tlv_value.specs.Value.{octets_value, spaced_pairs, used_digits, value_on_line}
use Rattle.tlv_value.specs.Private.Rows.{joined_pairs}

-- what was added is at most so long
pub length-grown : (old new text : List ℕ) (n : ℕ) → new ≡ old ++ text → length text ≤ n → length new ≤ length old + n
length-grown old new text n e h = omega (arith, ap length e, length-append old text, h)

-- a text of at most n octets was added
pub adds_short : (old new text : List ℕ) (n : ℕ) → new ≡ old ++ text → length text ≤ n → AddsAtMost n old new text
adds_short old new text n e h = record { text = e; within = length-grown old new text n e h }

abbrev value_with : OnLine → List (List ℕ) → Value
value_with on_line rows = record { on_line = on_line; rows = rows }

pair-length : (x : ℕ) → length (encode_lower (x ∷ [])) ≡ 2
pair-length x = length-encode_with lower_digits (x ∷ [])

printable-short : (x : ℕ) → length (printable_text x) ≤ 4
printable-short x = grind (arith, nat_tests)

escaped-short : (x : ℕ) → length (escaped_octet x) ≤ 4
escaped-short x = omega (arith, pair-length x)

octet-short : (x : ℕ) → length (octet_text x) ≤ 4
octet-short x =
    elim (is_printable x) as (λ b. length (if b then printable_text x else escaped_octet x) ≤ 4)
    [ true ↦ printable-short x | false ↦ escaped-short x ]

zeros-short : (ds : List ℕ) → length (without_leading_zeros ds) ≤ length ds
zeros-short [] = omega arith
zeros-short (d ∷ []) = omega arith
zeros-short (d ∷ e ∷ ds) =
    let more = zeros-short (e ∷ ds) in
    elim (eqb d 0x30) as (λ b. length (if b then without_leading_zeros (e ∷ ds) else d ∷ e ∷ ds) ≤ length (d ∷ e ∷ ds))
    [ true ↦ omega (arith, more) | false ↦ omega arith ]

number-short : (octets : List ℕ) → length (escaped_number octets) ≤ 4 + 2 * length octets
number-short octets =
    omega (
      arith,
      length-append (without_leading_zeros (encode_lower octets)) (125 ∷ []),
      zeros-short (encode_lower octets),
      length-encode_with lower_digits octets,
    )

if-short : (b : Bool) (x y : List ℕ) (n : ℕ) → length x ≤ n → length y ≤ n → length (if b then x else y) ≤ n
if-short true x y n h g = h
if-short false x y n h g = g

ucs2-short : (unit : List ℕ) → 1 ≤ length unit → length (unit_text Ucs2 unit) ≤ 5 * length unit
ucs2-short [] h = absurd (omega arith)
ucs2-short (a ∷ []) h = omega (arith, escaped-short a)
ucs2-short (a ∷ b ∷ []) h =
    if-short (eqb a 0 && is_printable b) (printable_text b) (escaped_number (a ∷ b ∷ [])) 10
    (omega (arith, printable-short b)) (omega (arith, number-short (a ∷ b ∷ [])))
ucs2-short (a ∷ b ∷ c ∷ unit) h = omega (arith, escaped-short a)

ucs4-short : (unit : List ℕ) → 1 ≤ length unit → length (unit_text Ucs4 unit) ≤ 5 * length unit
ucs4-short [] h = absurd (omega arith)
ucs4-short (a ∷ []) h = omega (arith, escaped-short a)
ucs4-short (a ∷ b ∷ []) h = omega (arith, escaped-short a)
ucs4-short (a ∷ b ∷ c ∷ []) h = omega (arith, escaped-short a)
ucs4-short (a ∷ b ∷ c ∷ d ∷ []) h =
    if-short (eqb a 0 && eqb b 0 && eqb c 0 && is_printable d) (printable_text d)
    (escaped_number (a ∷ b ∷ c ∷ d ∷ [])) 20 (omega (arith, printable-short d))
    (omega (arith, number-short (a ∷ b ∷ c ∷ d ∷ [])))
ucs4-short (a ∷ b ∷ c ∷ d ∷ e ∷ unit) h = omega (arith, escaped-short a)

utf8-short : (unit : List ℕ) → 1 ≤ length unit → length (unit_text Utf8 unit) ≤ 5 * length unit
utf8-short [] h = absurd (omega arith)
utf8-short (a ∷ []) h = omega (arith, octet-short a)
utf8-short (a ∷ b ∷ unit) h = omega (arith, number-short (three_octets (utf8_number (a ∷ b ∷ unit))))

unit-short : (kind : Kind) (unit : List ℕ) → 1 ≤ length unit → length (unit_text kind unit) ≤ 5 * length unit
unit-short kind [] h = absurd (omega arith)
unit-short Octets (a ∷ unit) h = omega (arith, octet-short a)
unit-short Boolean (a ∷ unit) h = omega (arith, octet-short a)
unit-short Integer (a ∷ unit) h = omega (arith, octet-short a)
unit-short Bits (a ∷ unit) h = omega (arith, octet-short a)
unit-short Object (a ∷ unit) h = omega (arith, octet-short a)
unit-short Relative (a ∷ unit) h = omega (arith, octet-short a)
unit-short Text (a ∷ unit) h = omega (arith, octet-short a)
unit-short Utf8 (a ∷ unit) h = utf8-short (a ∷ unit) h
unit-short Ucs2 (a ∷ unit) h = ucs2-short (a ∷ unit) h
unit-short Ucs4 (a ∷ unit) h = ucs4-short (a ∷ unit) h

-- the first units
first-short : (kind : Kind) (most : ℕ) (xs : List ℕ)
    → length (flat_map (unit_text kind) (first_units most kind xs)) ≤ 5 * length xs
first-short kind zero xs = omega arith
first-short kind (suc more) [] = omega arith
first-short kind (suc more) (x ∷ xs) =
    let m : ℕ = unit_size kind (x ∷ xs) in
    let w = size-within kind x xs in
    let l : length (take m (x ∷ xs)) ≡ m = length-take m (x ∷ xs) ∙ omega arith in
    let u = unit-short kind (take m (x ∷ xs)) (omega (arith, l, w.0)) in
    let rest : List ℕ = drop m (x ∷ xs) in
    omega (
      arith,
      length-append (unit_text kind (take m (x ∷ xs))) (flat_map (unit_text kind) (first_units more kind rest)),
      u,
      first-short kind more rest,
      length-drop m (x ∷ xs),
      l,
      w.1,
    )

pub units-short : (kind : Kind) (xs : List ℕ) → length (flat_map (unit_text kind) (units kind xs)) ≤ 5 * length xs
units-short kind xs = first-short kind (length xs) xs

pub quoted-short : (kind : Kind) (row : List ℕ) → length (quoted_text kind row) ≤ 5 * length row + 2
quoted-short kind row =
    omega (arith, length-append (flat_map (unit_text kind) (units kind row)) (34 ∷ []), units-short kind row)

pub joined-short : (octets : List ℕ) → length (joined_pairs octets) ≤ 3 * length octets
joined-short [] = omega arith
joined-short (x ∷ xs) =
    omega (arith, length-append (encode_lower (x ∷ [])) (spaced_pairs xs), pair-length x, pairs-size xs)

-- values on their lines

behind-short : (octets : List ℕ) → length (text_behind octets) ≤ length octets + 4
behind-short octets =
    if-short (nat_le 3 (length octets) && list_all is_printable octets) (codes "  |" ++ octets ++ codes "|") []
    (length octets + 4)
    (omega (arith, length-append (codes "  |" ++ octets) (codes "|"), length-append (codes "  |") octets))
    (omega arith)

-- pairs with their text, or without it
with-text-short : (with_text : Bool) (octets pairs : List ℕ)
    → length (pairs_with_text with_text octets pairs) ≤ length pairs + (length octets + 4)
with-text-short false octets pairs = omega arith
with-text-short true octets pairs = omega (arith, length-append pairs (text_behind octets), behind-short octets)

pub row-pairs-short : (with_text : Bool) (octets : List ℕ) → length octets ≤ 64
    → length (pairs_with_text with_text octets (joined_pairs octets)) ≤ 322
row-pairs-short with_text octets h =
    omega (arith, with-text-short with_text octets (joined_pairs octets), joined-short octets)

pub row-short : (with_text : Bool) (octets : List ℕ) → length (line_pairs with_text octets) ≤ 4 * length octets + 4
row-short with_text octets =
    omega (arith, with-text-short with_text octets (spaced_pairs octets), pairs-size octets)

pub pairs-short : (with_text : Bool) (octets : List ℕ) → length octets ≤ 64
    → length (line_pairs with_text octets) ≤ 330
pairs-short with_text octets h =
    omega (arith, row-short with_text octets, h)

octets-text-short : (with_text : Bool) (octets : List ℕ) → length (on_line_text_with with_text (octets_value octets).on_line) ≤ 330
octets-text-short with_text octets =
    elim (nat_le (length octets) 16) as (λ b. nat_le (length octets) 16 ≡ b
    → length (on_line_text_with with_text
    (if b then value_with (InPairs octets) [] else value_with (Written []) (rows_of Octets octets)).on_line)
    ≤ 330) [
      | true ↦ λ e.
          let h : length octets ≤ 16 = leb-true (length octets) 16 e in pairs-short with_text octets (omega (arith, h))
      | false ↦ λ e. omega arith
    ] refl

pub digits-short : (n : ℕ) → n < 2 ^ 128 → length (decimal n) ≤ 39
digits-short n h = length-decimal-le_wide 39 n (omega arith) (omega arith) (omega arith)

signed-short : (z : ℤ) → mag z < 2 ^ 127 → length (signed_decimal z) ≤ 40
signed-short (pos n) h = omega (arith, digits-short n (omega arith))
signed-short (negsuc n) h = omega (arith, digits-short (suc n) (omega arith))

pub boolean-short : (with_text : Bool) (octets : List ℕ) → length octets ≤ 16 → length (on_line_text_with with_text (boolean_value octets).on_line) ≤ 330
boolean-short with_text [] h = octets-text-short with_text []
boolean-short with_text (x ∷ []) h =
    elim (eqb x 0) as (λ b. length (32 ∷ (if b then codes "FALSE" else codes "TRUE")) ≤ 330)
    [ true ↦ omega arith | false ↦ omega arith ]
boolean-short with_text (x ∷ y ∷ octets) h = octets-text-short with_text (x ∷ y ∷ octets)

pub integer-short : (octets : List ℕ) → length octets ≤ 16 → length (integer_text octets) ≤ 330
integer-short [] h = omega arith
integer-short (x ∷ xs) h =
    let f : FitsSigned w128 (twos_complement (x ∷ xs)) = twos-fits_all (x ∷ xs) h in
    omega (arith, signed-short (twos_complement (x ∷ xs)) f.sfits)

used-short : (unused_bits : ℕ) (octets : List ℕ) → length octets ≤ 8 → length (used_digits unused_bits octets) ≤ 65
used-short unused_bits [] h = omega arith
used-short unused_bits (x ∷ octets) h =
    let n : ℕ = 8 * length (x ∷ octets) - unused_bits in
    omega (
      arith,
      length-map (take n (bits_of (x ∷ octets))) (λ bit. 48 + bit),
      length-take n (bits_of (x ∷ octets)),
      length-bits (x ∷ octets),
    )

pub count-short : (unused_bits octets : ℕ) → octets < 2 ^ 64 → length (bit_count_text unused_bits octets) ≤ 44
count-short unused_bits octets h =
    omega (
      arith,
      length-append (decimal (8 * octets - unused_bits)) (codes " bits"),
      digits-short (8 * octets - unused_bits) (omega arith),
    )

pub bits-short : (with_text : Bool) (octets : List ℕ) → length octets ≤ 9 → length (on_line_text_with with_text (bits_value octets).on_line) ≤ 330
bits-short with_text [] h = octets-text-short with_text []
bits-short with_text (unused_bits ∷ octets) h =
    elim (is_unused_count unused_bits (length octets)) as (λ b. length (on_line_text_with with_text
    (if b then value_on_line (bit_count_text unused_bits (length octets) ++ used_digits unused_bits octets)
    else octets_value (unused_bits ∷ octets)).on_line)
    ≤ 330) [
      | true ↦
          omega (
            arith,
            length-append (bit_count_text unused_bits (length octets)) (used_digits unused_bits octets),
            count-short unused_bits (length octets) (omega arith),
            used-short unused_bits octets (omega arith),
          )
      | false ↦ octets-text-short with_text (unused_bits ∷ octets)
    ]

pub text-short : (kind : Kind) (octets : List ℕ) → length octets ≤ 64 → length (32 ∷ quoted_text kind octets) ≤ 330
text-short kind octets h = omega (arith, quoted-short kind octets)
