-- The values in sentences are printable ASCII.
use Rattle.std.proofs.Common.{◌≡◌, inl, inr, ℕ, zero, suc, ◌-◌, ◌<◌, ◌/◌, ◌%◌, Bool, true, false, ◌&&◌}
use Rattle.std.proofs.Common.{eqb, List, [], ◌∷◌, take, drop, refl, arith}
use Rattle.std.specs.Prelude.{◌==◌, Option, Some, None, codes, decimal, slice_index}
use Rattle.std.specs.Fmt.{digit_glyph, digits, digits_onto}
use Rattle.std.specs.List.{find, list_all}
use Rattle.std.specs.Option.{option_map, unwrap_or}
use Rattle.std.proofs.lemmas.Bool.{cases_Bool}
use Rattle.std.proofs.lemmas.List.Elements.{All-drop, All-head, All-tail, All-take}
use Rattle.std.proofs.lemmas.List.Folds.{list_all-append, list_all_at}
use Rattle.hex.specs.Hex.{encode_with, lower_digits}
use Rattle.tlv_head.specs.Fault.{fault_code, fault_text}
use Rattle.tlv_head.specs.declared.fault.FaultCode.{FaultCode}
use Rattle.tlv_head.specs.declared.fault.FaultCode.TheVariants as fault
use Rattle.tlv_head.specs.Tag.{bracketed_tag, tag_text}
use Rattle.tlv_head.specs.TypeTable.{TypeRow, type_table}
use Rattle.tlv_head.specs.declared.header.Class.{Class}
use Rattle.tlv_head.specs.declared.header.Class.TheVariants.{Universal, Application, Context, Private}
use Rattle.tlv_head.specs.declared.header.Size.{Size}
use Rattle.tlv_head.specs.declared.header.Size.TheVariants.{Definite, Indefinite}
use Rattle.tlv_io.specs.LineTexts.{spaced_pairs}
use Rattle.tlv_open.specs.BrokenLine.{broken_line, suspicion_text}
use Rattle.tlv_open.specs.declared.strings.BrokenString.{BrokenString}
use Rattle.tlv_open.specs.declared.strings.Suspicion.{Suspicion}
use Rattle.tlv_open.specs.declared.strings.Suspicion.TheVariants as suspicion
use Rattle.tlv_walk.specs.Reading.{AreOctets}
use Rattle.tlv_reasons.specs.declared.element.Element.{Element}
use Rattle.tlv_reasons.specs.Laws.{AreShown, is_shown_octet}
use Rattle.tlv_reasons.specs.Values.{dots_if, first_pairs, header_closing, header_octets, header_opening, header_sentence}
use Rattle.tlv_reasons.specs.Values.{all_in_words, named_element, octets_between, octets_in_words, size_in_words}

-- ---- numbers

glyph-shown : (d : ℕ) → d < 10 → is_shown_octet (digit_glyph false d) ≡ true
glyph-shown d small = grind arith

onto-shown : (k n : ℕ) (rest : List ℕ) → AreShown rest → AreShown (digits_onto k 10 false n rest)
onto-shown zero n rest shown = shown
onto-shown (suc k) n rest shown =
    let more : AreShown (digit_glyph false (n % 10) ∷ rest) = rw (glyph-shown (n % 10) (omega arith)) shown in
    elim (cases_Bool (n / 10 == 0)) [
      | inl last ↦ rw last more
      | inr left ↦ rw left (onto-shown k (n / 10) (digit_glyph false (n % 10) ∷ rest) more)
    ]

pub decimal-shown : (n : ℕ) → AreShown (decimal n)
unfolding digits
decimal-shown n = onto-shown 64 n [] refl

-- ---- octets

digit-shown : (d : ℕ) → d < 16 → is_shown_octet (slice_index lower_digits d) ≡ true
digit-shown d small = elim (cases_Bool (is_shown_octet (slice_index lower_digits d))) [
  | inl shown ↦ shown
  | inr other ↦
      let none : true ≡ false = list_all_at is_shown_octet lower_digits d 0 small other in
      absurd (cc (none))
]

pair-shown : (x : ℕ) → x < 256 → AreShown (encode_with lower_digits (x ∷ []))
unfolding encode_with
pair-shown x small = rw (digit-shown (x / 16) (omega arith), digit-shown (x % 16) (omega arith)) refl

pairs-shown : (octets : List ℕ) → AreOctets octets → AreShown (spaced_pairs octets)
pairs-shown [] o = refl
pairs-shown (x ∷ xs) o =
    let first : AreShown (encode_with lower_digits (x ∷ [])) =
    pair-shown x (All-head (λ (n : ℕ). n < 256) x xs o) in
    let rest : AreShown (spaced_pairs xs) = pairs-shown xs (All-tail (λ (n : ℕ). n < 256) x xs o) in
    simp (list_all-append, first, rest)

dots-shown : (is_more : Bool) → AreShown (dots_if is_more)
dots-shown true = refl
dots-shown false = refl

pub all_in_words-shown : (end : Option ℕ) → AreShown (all_in_words end)
unfolding all_in_words
all_in_words-shown None = refl
all_in_words-shown (Some end) = decimal-shown end

pub first_pairs-shown : (octets : List ℕ) (start end : ℕ) → AreOctets octets
    → AreShown (first_pairs (octets_between octets start end))
unfolding first_pairs octets_between
first_pairs-shown octets start end o =
    let P = λ (n : ℕ). n < 256 in
    let some : List ℕ = take (end - start) (drop start octets) in
    let shown : AreShown (spaced_pairs (take 16 some)) =
    pairs-shown (take 16 some)
    (All-take P 16 some (All-take P (end - start) (drop start octets) (All-drop P start octets o))) in
    simp (list_all-append, shown, dots-shown)

-- ---- faults

pub code-shown : (code : FaultCode) → AreShown (fault_code code) × AreShown (fault_text code)
code-shown fault.Empty = (refl, refl)
code-shown fault.Short = (refl, refl)
code-shown fault.StrayEnd = (refl, refl)
code-shown fault.BadEnd = (refl, refl)
code-shown fault.MissingEnd = (refl, refl)
code-shown fault.TagTooLong = (refl, refl)
code-shown fault.ReservedLength = (refl, refl)
code-shown fault.IndefinitePrimitive = (refl, refl)
code-shown fault.LengthTooLarge = (refl, refl)
code-shown fault.TooDeep = (refl, refl)
code-shown fault.Overrun = (refl, refl)
code-shown fault.BadInside = (refl, refl)

suspicion-shown : (why : Suspicion) → AreShown (suspicion_text why)
suspicion-shown suspicion.Sequence = refl
suspicion-shown suspicion.Set = refl
suspicion-shown suspicion.Extension = refl

pub broken_line-shown : (s : BrokenString) → AreShown (broken_line s)
broken_line-shown s =
    simp (
      list_all-append,
      decimal-shown,
      suspicion-shown,
      (code-shown s.fault.code).0,
      (code-shown s.fault.code).1,
    )

-- ---- elements

pub octets_in_words-shown : (n : ℕ) → AreShown (octets_in_words n)
unfolding octets_in_words
octets_in_words-shown n = elim (cases_Bool (eqb n 1)) [
  | inl one ↦ rw one (simp (list_all-append, decimal-shown))
  | inr many ↦ rw many (simp (list_all-append, decimal-shown))
]

-- the name of a row out of some rows, or else another text
name-shown : (p : TypeRow → Bool) (rows : List TypeRow) (other : List ℕ)
    → list_all (λ t. list_all is_shown_octet t.name) rows ≡ true → AreShown other
    → AreShown (unwrap_or (option_map (λ t. t.name) (find p rows)) other)
name-shown p [] other all shown = shown
name-shown p (t ∷ rows) other all shown = elim (cases_Bool (p t)) [
  | inl found ↦
      rw found (and-left (list_all is_shown_octet t.name) (list_all (λ m. list_all is_shown_octet m.name) rows) all)
  | inr missing ↦
      rw missing
      (name-shown p rows other
      (and-right (list_all is_shown_octet t.name) (list_all (λ m. list_all is_shown_octet m.name) rows) all) shown)
]
  where
    and-left : (a b : Bool) → (a && b) ≡ true → a ≡ true
    and-left true b e = refl
    and-left false b e = e

    and-right : (a b : Bool) → (a && b) ≡ true → b ≡ true
    and-right true b e = e
    and-right false b e = absurd (cc (e))

tag-shown : (class : Class) (number : ℕ) → AreShown (tag_text class number)
tag-shown Universal number =
    name-shown (λ t. eqb number t.number) type_table (bracketed_tag (codes "UNIVERSAL ") number) refl
    (simp (list_all-append, decimal-shown))
tag-shown Application number = simp (list_all-append, decimal-shown)
tag-shown Context number = simp (list_all-append, decimal-shown)
tag-shown Private number = simp (list_all-append, decimal-shown)

pub named_element-shown : (e : Element) → AreShown (named_element e)
unfolding named_element
named_element-shown e = simp (list_all-append, tag-shown, decimal-shown)

size-shown : (size : Size) → AreShown (size_in_words size)
unfolding size_in_words
size-shown (Definite n) = octets_in_words-shown n
size-shown Indefinite = refl

opening-shown : (offset : ℕ) → AreShown (header_opening offset)
unfolding header_opening
opening-shown offset = simp (list_all-append, decimal-shown)

closing-shown : (size : Size) → AreShown (header_closing size)
unfolding header_closing
closing-shown size = simp (list_all-append, size-shown)

header_octets-shown : (octets : List ℕ) (e : Element) → AreOctets octets → AreShown (header_octets octets e)
unfolding header_octets
header_octets-shown octets e o =
    simp (list_all-append, opening-shown, first_pairs-shown octets e.offset e.contents o)

pub header_sentence-shown : (octets : List ℕ) (e : Element) → AreOctets octets → AreShown (header_sentence octets e)
unfolding header_sentence
header_sentence-shown octets e o = simp (list_all-append, header_octets-shown octets e o, closing-shown)
