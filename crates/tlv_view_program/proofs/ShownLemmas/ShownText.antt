-- Texts that the lines of a dump are made of are printable ASCII: pairs of digits, characters in quotation marks, tags.
use Rattle.std.proofs.Common.{◌≡◌, inl, inr, ℕ, zero, suc, ◌-◌, ◌<◌, ◌/◌, ◌%◌, ◌&&◌, ◌||◌, true, false, eqb}
use Rattle.std.proofs.Common.{List, [], ◌∷◌, ◌++◌, refl, arith, length, take, drop, ℤ, pos, negsuc}
use Rattle.std.specs.Prelude.{codes, decimal, flat_map, None, slice_index}
use Rattle.std.specs.Fmt.{signed_decimal}
use Rattle.std.specs.List.{All, join_by}
use Rattle.std.proofs.lemmas.Bool.{and_parts, cases_Bool}
use Rattle.std.proofs.lemmas.List.Elements.{All-cons, All-drop, All-head, All-nil, All-tail, All-take}
use Rattle.std.proofs.lemmas.List.Folds.{list_all_at}
use Rattle.hex.specs.Hex.{encode_lower, encode_with, lower_digits}
use Rattle.tlv_head.specs.Tag.{tag_text}
use Rattle.tlv_head.specs.declared.header.Class.{Class}
use Rattle.tlv_head.specs.declared.header.Size.TheVariants.{Indefinite}
use Rattle.tlv_io.specs.LineTexts.{at_right, columns, spaced_pairs, spaces}
use Rattle.tlv_walk.specs.Reading.{AreOctets}
use Rattle.tlv_head.specs.declared.kind.Kind.{Kind}
use Rattle.tlv_head.specs.declared.kind.Kind.TheVariants as kind
use Rattle.tlv_value.specs.Units.{escaped_number, escaped_octet, is_printable, octet_text, printable_text, quoted_text}
use Rattle.tlv_value.specs.Units.{first_units, three_octets, unit_size, unit_text, units, utf8_number, without_leading_zeros}
use Rattle.tlv_reasons.specs.Laws.{AreShown, is_shown_octet}
use Rattle.tlv_reasons.specs.Values.{named_element}
use Rattle.tlv_reasons.proofs.ShownLemmas.ShownValues.{decimal-shown, named_element-shown}
use Rattle.tlv_view_program.proofs.ShownLemmas.ShownLabels.{front-shown, joined-shown, printable-shown}
use Rattle.tlv_value.specs.Private.Rows.{joined_pairs}

-- ---- lists

-- texts of elements of which each has a text that is shown
pub flat-shown : {X : Type 0} (f : X → List ℕ) (P : X → Type 0) (xs : List X) → ((x : X) → P x → AreShown (f x))
    → All P xs → AreShown (flat_map f xs)
flat-shown f P [] each all = refl
flat-shown f P (x ∷ xs) each all =
    joined-shown (f x) (flat_map f xs) (each x (All-head P x xs all))
    (flat-shown f P xs each (All-tail P x xs all))

pub join-shown : {X : Type 0} (f : X → List ℕ) (mark : List ℕ) (P : X → Type 0) (xs : List X)
    → ((x : X) → P x → AreShown (f x)) → AreShown mark → All P xs → AreShown (join_by f mark xs)
join-shown f mark P [] each m all = refl
join-shown {X} f mark P (x ∷ xs) each m all =
    joined-shown (f x) (flat_map (λ (y : X). mark ++ f y) xs) (each x (All-head P x xs all))
    (flat-shown (λ (y : X). mark ++ f y) P xs (λ y p. joined-shown mark (f y) m (each y p)) (All-tail P x xs all))

pub left-octets : (xs ys : List ℕ) → AreOctets (xs ++ ys) → AreOctets xs
left-octets [] ys o = All-nil (λ (n : ℕ). n < 256)
left-octets (x ∷ xs) ys o =
    All-cons (λ (n : ℕ). n < 256) x xs (All-head (λ (n : ℕ). n < 256) x (xs ++ ys) o)
    (left-octets xs ys (All-tail (λ (n : ℕ). n < 256) x (xs ++ ys) o))

pub right-octets : (xs ys : List ℕ) → AreOctets (xs ++ ys) → AreOctets ys
right-octets [] ys o = o
right-octets (x ∷ xs) ys o = right-octets xs ys (All-tail (λ (n : ℕ). n < 256) x (xs ++ ys) o)

-- ---- numbers

pub signed-shown : (z : ℤ) → AreShown (signed_decimal z)
signed-shown (pos n) = decimal-shown n
signed-shown (negsuc n) = decimal-shown (suc n)

pub spaces-shown : (n : ℕ) → AreShown (spaces n)
spaces-shown zero = refl
spaces-shown (suc n) = spaces-shown n

at_right-shown : (places : ℕ) (text : List ℕ) → AreShown text → AreShown (at_right places text)
at_right-shown places text shown =
    joined-shown (spaces (places - length text)) text (spaces-shown (places - length text)) shown

pub columns-shown : (offset : ℕ) (word : List ℕ) → AreShown word → AreShown (columns offset word)
columns-shown offset word shown =
    joined-shown (at_right 8 (decimal offset) ++ codes " " ++ at_right 6 word) (codes ": ")
    (joined-shown (at_right 8 (decimal offset) ++ codes " ") (at_right 6 word)
    (joined-shown (at_right 8 (decimal offset)) (codes " ")
    (at_right-shown 8 (decimal offset) (decimal-shown offset)) refl)
    (at_right-shown 6 word shown)) refl

-- ---- pairs of digits

digit-shown : (d : ℕ) → d < 16 → is_shown_octet (slice_index lower_digits d) ≡ true
digit-shown d small = elim (cases_Bool (is_shown_octet (slice_index lower_digits d))) [
  | inl shown ↦ shown
  | inr other ↦
      let none : true ≡ false = list_all_at is_shown_octet lower_digits d 0 small other in
      absurd (cc (none))
]

pair-shown : (x : ℕ) (rest : List ℕ) → x < 256 → AreShown rest
    → AreShown (slice_index lower_digits (x / 16) ∷ slice_index lower_digits (x % 16) ∷ rest)
pair-shown x rest small shown =
    rw (digit-shown (x / 16) (omega arith), digit-shown (x % 16) (omega arith)) shown

pub pairs-shown : (octets : List ℕ) → AreOctets octets → AreShown (encode_lower octets)
unfolding encode_with
pairs-shown [] o = refl
pairs-shown (x ∷ xs) o =
    pair-shown x (encode_with lower_digits xs) (All-head (λ (n : ℕ). n < 256) x xs o)
    (pairs-shown xs (All-tail (λ (n : ℕ). n < 256) x xs o))

one-octet : (x : ℕ) → x < 256 → AreOctets (x ∷ [])
one-octet x small = All-cons (λ (n : ℕ). n < 256) x [] small (All-nil (λ (n : ℕ). n < 256))

one_pair-shown : (x : ℕ) → x < 256 → AreShown (encode_lower (x ∷ []))
one_pair-shown x small = pairs-shown (x ∷ []) (one-octet x small)

pub spaced_pairs-shown : (octets : List ℕ) → AreOctets octets → AreShown (spaced_pairs octets)
spaced_pairs-shown octets o =
    flat-shown (λ (x : ℕ). 0x20 ∷ encode_lower (x ∷ [])) (λ (n : ℕ). n < 256) octets one_pair-shown o

pub joined_pairs-shown : (octets : List ℕ) → AreOctets octets → AreShown (joined_pairs octets)
joined_pairs-shown octets o =
    join-shown (λ (x : ℕ). encode_lower (x ∷ [])) (codes " ") (λ (n : ℕ). n < 256) octets one_pair-shown refl o

-- ---- characters

printable_text-shown : (x : ℕ) → is_printable x ≡ true → AreShown (printable_text x)
printable_text-shown x is = elim (cases_Bool (eqb x 0x22 || eqb x 0x5c)) [
  | inl escaped ↦ rw escaped (rw (printable-shown x is) refl)
  | inr plain ↦ rw plain (rw (printable-shown x is) refl)
]

escaped_octet-shown : (x : ℕ) → x < 256 → AreShown (escaped_octet x)
escaped_octet-shown x small = joined-shown (codes "\\x") (encode_lower (x ∷ [])) refl (one_pair-shown x small)

octet_text-shown : (x : ℕ) → x < 256 → AreShown (octet_text x)
octet_text-shown x small = elim (cases_Bool (is_printable x)) [
  | inl printable ↦ rw printable (printable_text-shown x printable)
  | inr other ↦ rw other (escaped_octet-shown x small)
]

without_zeros-shown : (digits : List ℕ) → AreShown digits → AreShown (without_leading_zeros digits)
without_zeros-shown [] shown = refl
without_zeros-shown (d ∷ []) shown = shown
without_zeros-shown (d ∷ e ∷ digits) shown = elim (cases_Bool (eqb d 0x30)) [
  | inl is_zero ↦ rw is_zero (without_zeros-shown (e ∷ digits) (and_parts _ _ shown).1)
  | inr other ↦ rw other shown
]

escaped_number-shown : (octets : List ℕ) → AreOctets octets → AreShown (escaped_number octets)
escaped_number-shown octets o =
    joined-shown (codes "\\u{" ++ without_leading_zeros (encode_lower octets)) (codes "}")
    (joined-shown (codes "\\u{") (without_leading_zeros (encode_lower octets)) refl
    (without_zeros-shown (encode_lower octets) (pairs-shown octets o))) refl

three-octets : (n : ℕ) → AreOctets (three_octets n)
three-octets n =
    All-cons (λ (n : ℕ). n < 256) (n / 65536 % 256) (n / 256 % 256 ∷ n % 256 ∷ []) (omega arith)
    (All-cons (λ (n : ℕ). n < 256) (n / 256 % 256) (n % 256 ∷ []) (omega arith) (one-octet (n % 256) (omega arith)))

two-shown : (a b : ℕ) → AreOctets (a ∷ b ∷ []) → AreShown (unit_text kind.Ucs2 (a ∷ b ∷ []))
two-shown a b o = elim (cases_Bool (eqb a 0 && is_printable b)) [
  | inl printable ↦ rw printable (printable_text-shown b (and_parts _ _ printable).1)
  | inr other ↦ rw other (escaped_number-shown (a ∷ b ∷ []) o)
]

four-shown : (a b c d : ℕ) → AreOctets (a ∷ b ∷ c ∷ d ∷ []) → AreShown (unit_text kind.Ucs4 (a ∷ b ∷ c ∷ d ∷ []))
four-shown a b c d o = elim (cases_Bool (eqb a 0 && eqb b 0 && eqb c 0 && is_printable d)) [
  | inl printable ↦ rw printable (printable_text-shown d (and_parts _ _ printable).1)
  | inr other ↦ rw other (escaped_number-shown (a ∷ b ∷ c ∷ d ∷ []) o)
]

first-octet : (x : ℕ) (more : List ℕ) → AreOctets (x ∷ more) → x < 256
first-octet x more o = All-head (λ (n : ℕ). n < 256) x more o

unit-shown : (k : Kind) (unit : List ℕ) → AreOctets unit → AreShown (unit_text k unit)
unit-shown k [] o = refl
unit-shown kind.Ucs2 (a ∷ []) o = escaped_octet-shown a (first-octet a [] o)
unit-shown kind.Ucs2 (a ∷ b ∷ []) o = two-shown a b o
unit-shown kind.Ucs2 (a ∷ b ∷ c ∷ more) o = escaped_octet-shown a (first-octet a (b ∷ c ∷ more) o)
unit-shown kind.Ucs4 (a ∷ []) o = escaped_octet-shown a (first-octet a [] o)
unit-shown kind.Ucs4 (a ∷ b ∷ []) o = escaped_octet-shown a (first-octet a (b ∷ []) o)
unit-shown kind.Ucs4 (a ∷ b ∷ c ∷ []) o = escaped_octet-shown a (first-octet a (b ∷ c ∷ []) o)
unit-shown kind.Ucs4 (a ∷ b ∷ c ∷ d ∷ []) o = four-shown a b c d o
unit-shown kind.Ucs4 (a ∷ b ∷ c ∷ d ∷ e ∷ more) o = escaped_octet-shown a (first-octet a (b ∷ c ∷ d ∷ e ∷ more) o)
unit-shown kind.Utf8 (a ∷ []) o = octet_text-shown a (first-octet a [] o)
unit-shown kind.Utf8 (a ∷ b ∷ more) o =
    escaped_number-shown (three_octets (utf8_number (a ∷ b ∷ more))) (three-octets (utf8_number (a ∷ b ∷ more)))
unit-shown kind.Octets (a ∷ more) o = octet_text-shown a (first-octet a more o)
unit-shown kind.Boolean (a ∷ more) o = octet_text-shown a (first-octet a more o)
unit-shown kind.Integer (a ∷ more) o = octet_text-shown a (first-octet a more o)
unit-shown kind.Bits (a ∷ more) o = octet_text-shown a (first-octet a more o)
unit-shown kind.Object (a ∷ more) o = octet_text-shown a (first-octet a more o)
unit-shown kind.Relative (a ∷ more) o = octet_text-shown a (first-octet a more o)
unit-shown kind.Text (a ∷ more) o = octet_text-shown a (first-octet a more o)

units-octets : (k : Kind) (most : ℕ) (row : List ℕ) → AreOctets row
    → All (λ (unit : List ℕ). AreOctets unit) (first_units most k row)
units-octets k zero row o = All-nil (λ (unit : List ℕ). AreOctets unit)
units-octets k (suc more) [] o = All-nil (λ (unit : List ℕ). AreOctets unit)
units-octets k (suc more) (x ∷ xs) o =
    let size : ℕ = unit_size k (x ∷ xs) in
    All-cons (λ (unit : List ℕ). AreOctets unit) (take size (x ∷ xs)) (first_units more k (drop size (x ∷ xs)))
    (All-take (λ (n : ℕ). n < 256) size (x ∷ xs) o)
    (units-octets k more (drop size (x ∷ xs)) (All-drop (λ (n : ℕ). n < 256) size (x ∷ xs) o))

pub quoted-shown : (k : Kind) (row : List ℕ) → AreOctets row → AreShown (quoted_text k row)
quoted-shown k row o =
    joined-shown (flat_map (unit_text k) (units k row)) (0x22 ∷ [])
    (flat-shown (unit_text k) (λ (unit : List ℕ). AreOctets unit) (units k row) (unit-shown k)
    (units-octets k (length row) row o)) refl

-- ---- tags

pub tag-shown : (class : Class) (number : ℕ) → AreShown (tag_text class number)
unfolding named_element
tag-shown class number =
    front-shown (tag_text class number) (codes " at offset ")
    (front-shown (tag_text class number ++ codes " at offset ") (decimal 0)
    (named_element-shown (record {
      offset = 0;
      class = class;
      number = number;
      size = Indefinite;
      contents = 0;
      end = None;
    })))
