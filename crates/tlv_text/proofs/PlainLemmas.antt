-- A text of symbols, padding and line ends has no block of PEM, no row of a dump and no list of numbers.
use Rattle.std.proofs.Common.{◌≡◌, ◌≢◌, ℕ, ◌==◌, Bool, true, false, ◌||◌, List, [], ◌∷◌, ◌++◌}
use Rattle.std.proofs.Common.{drop, refl, sym, ap, ◌∙◌, arith, rules, Option, None, inl, inr}
use Rattle.std.specs.Prelude.{is_some}
use Rattle.std.specs.List.{list_all, list_any}
use Rattle.std.proofs.lemmas.Bool.{and_parts, cases_Bool, eqb-true}
use Rattle.std.proofs.lemmas.List.Elements.{All-drop}
use Rattle.std.proofs.lemmas.List.Sums.{AllPass-from_list_all, list_all-from_AllPass}
use Rattle.tlv_text.specs.Base64.{ReadsBase64, SymbolsRead, is_left_out, is_symbol, no_symbols}
use Rattle.tlv_text.specs.Base64.{padding_of, symbols_read}
use Rattle.tlv_text.specs.Blocks.{alphabet_of, is_url_symbol}
use Rattle.tlv_text.specs.Dump.{dump_read}
use Rattle.tlv_text.specs.TextRead.{refused_with}
use Rattle.tlv_text.specs.Numbers.{from_list, list_at, numbers_read, only_list}
use Rattle.tlv_text.specs.Pem.{HasNoBlock, begin_marker, dashes}
use Rattle.tlv_text.specs.Plain.{IsNotPlainBase64, IsPlainBase64, are_lines_of_digits, is_digit_or_end, is_line_end}
use Rattle.tlv_text.specs.Plain.{is_padding_or_end, is_plain, is_plain_text}
use Rattle.tlv_text.specs.Private.SymbolSteps.{IsPastSymbols}
use Rattle.tlv_text.specs.declared.base64_text.Alphabet.TheVariants.{Standard}
use Rattle.tlv_text.proofs.DumpSignLemmas.{NoSign, no-row_read}

abbrev IsPlainSymbol : ℕ → Type 0
IsPlainSymbol x = is_plain Standard x ≡ true

-- a plain character is no character that is not plain
not-plain : (n x : ℕ) → is_plain Standard n ≡ false → IsPlainSymbol x → (x == n) ≡ false
not-plain n x other e =
    elim (cases_Bool (x == n)) [
      | inl same ↦ absurd (cc (ap (is_plain Standard) (eqb-true x n same), other, e))
      | inr apart ↦ apart
    ]

first-plain : (x : ℕ) (text : List ℕ) → is_plain_text Standard (x ∷ text) ≡ true → IsPlainSymbol x
first-plain x text e = (and_parts (is_plain Standard x) (is_plain_text Standard text) e).0

rest-plain : (x : ℕ) (text : List ℕ) → is_plain_text Standard (x ∷ text) ≡ true → is_plain_text Standard text ≡ true
rest-plain x text e = (and_parts (is_plain Standard x) (is_plain_text Standard text) e).1

-- ---- no block of PEM

-- a hyphen is not plain
marker-not : (rest : List ℕ) → list_all (is_plain Standard) (begin_marker ++ rest) ≡ false
marker-not rest = refl

pub plain-no_block : (text : List ℕ) → is_plain_text Standard text ≡ true → HasNoBlock text
plain-no_block text e = λ k label after b.
    let all = list_all-from_AllPass (is_plain Standard) (drop k text)
    (All-drop IsPlainSymbol k text (AllPass-from_list_all (is_plain Standard) text e)) in
    absurd (cc (rw b.spelled at all, marker-not (label ++ (dashes ++ after))))

-- ---- no row of a dump

no-sign : (text : List ℕ) → is_plain_text Standard text ≡ true → NoSign text
no-sign [] e = refl
no-sign (x ∷ text) e =
    let plain = first-plain x text e in
    rw (not-plain 58 x refl plain, not-plain 32 x refl plain, not-plain 9 x refl plain, not-plain 42 x refl plain)
    (no-sign text (rest-plain x text e))

pub plain-no_row : (text : List ℕ) → is_plain_text Standard text ≡ true → dump_read text ≡ refused_with 0
plain-no_row text e = no-row_read text (no-sign text e)

-- ---- no list of numbers

list-none : (x : ℕ) (text : List ℕ) → IsPlainSymbol x → list_at (x ∷ text) ≡ None
list-none x text plain = rw (not-plain 91 x refl plain, not-plain 123 x refl plain) refl

no-first : (text : List ℕ) → is_plain_text Standard text ≡ true → from_list text ≡ []
no-first [] e = refl
no-first (x ∷ text) e = rw (list-none x text (first-plain x text e)) (no-first text (rest-plain x text e))

pub plain-no_list : (text : List ℕ) → is_plain_text Standard text ≡ true → numbers_read text ≡ None
plain-no_list text e = ap only_list (no-first text e)

-- ---- its alphabet

no-url : (text : List ℕ) → is_plain_text Standard text ≡ true → list_any is_url_symbol text ≡ false
no-url [] e = refl
no-url (x ∷ text) e =
    let plain = first-plain x text e in
    rw (not-plain 45 x refl plain, not-plain 95 x refl plain) (no-url text (rest-plain x text e))

pub is-standard : (text : List ℕ) → is_plain_text Standard text ≡ true → Standard ≡ alphabet_of text
is-standard text e = rw (no-url text e) refl

-- ---- digits, and padding

-- digits are plain
digit-plain : (x : ℕ) → is_digit_or_end x ≡ true → IsPlainSymbol x
digit-plain x e = search rules

pub digits-plain : (text : List ℕ) → are_lines_of_digits text ≡ true → is_plain_text Standard text ≡ true
digits-plain [] e = refl
digits-plain (x ∷ text) e =
    let both = and_parts (is_digit_or_end x) (are_lines_of_digits text) e in
    rw (digit-plain x both.0) (digits-plain text both.1)

pub padding-plain : (text : List ℕ) → list_all is_padding_or_end text ≡ true → is_plain_text Standard text ≡ true
padding-plain [] e = refl
padding-plain (x ∷ text) e =
    let both = and_parts (is_padding_or_end x) (list_all is_padding_or_end text) e in
    rw (either (is_symbol Standard x) (is_padding_or_end x) both.0) (padding-plain text both.1)
  where
    either : (a b : Bool) → b ≡ true → (a || b) ≡ true
    either true b e = refl
    either false b e = e

-- ---- what comes after its symbols

or-left : (a b : Bool) → (a || b) ≡ true → b ≡ false → a ≡ true
or-left true b e f = refl
or-left false b e f = absurd (cc (e, f))

or-right : (a b : Bool) → (a || b) ≡ true → a ≡ false → b ≡ true
or-right true b e f = absurd (cc f)
or-right false b e f = e

-- a plain character that is neither a symbol nor a line end is `=`
is-padding : (x : ℕ) → IsPlainSymbol x → is_symbol Standard x ≡ false → is_line_end x ≡ false → x ≡ 61
is-padding x plain other apart =
    let either = or-right (is_symbol Standard x) (is_padding_or_end x) plain other in
    eqb-true x 61 (or-left (x == 61) (is_line_end x) either apart)

stops-at : (x : ℕ) (rest : List ℕ) → x ≡ 61 → symbols_read Standard (x ∷ rest) ≡ no_symbols (x ∷ rest)
stops-at x [] e = rw e refl
stops-at x (y ∷ rest) e = rw e refl

-- no symbol comes after such a character
stops : (rest : List ℕ) → is_plain_text Standard rest ≡ true → IsPastSymbols rest
    → symbols_read Standard rest ≡ no_symbols rest
stops [] plain past = refl
stops (x ∷ rest) plain past =
    let first = past (omega arith) in
    stops-at x rest (is-padding x (first-plain x rest plain) first.0 first.1)

not-symbol : (n x : ℕ) → is_symbol Standard n ≡ false → is_symbol Standard x ≡ true → (x == n) ≡ false
not-symbol n x other e =
    elim (cases_Bool (x == n)) [
      | inl same ↦ absurd (cc (ap (is_symbol Standard) (eqb-true x n same), other, e))
      | inr apart ↦ apart
    ]

-- no symbol is left out
symbol-kept : (x : ℕ) → is_symbol Standard x ≡ true → is_left_out x ≡ false
symbol-kept x e =
    rw (
      not-symbol 32 x refl e,
      not-symbol 9 x refl e,
      not-symbol 10 x refl e,
      not-symbol 13 x refl e,
      not-symbol 34 x refl e,
      not-symbol 39 x refl e,
      not-symbol 62 x refl e,
    ) refl

-- a symbol is not part of padding
symbol-ends : (x : ℕ) (rest : List ℕ) → is_symbol Standard x ≡ true → padding_of (x ∷ rest) ≡ None
symbol-ends x [] e = rw (not-symbol 61 x refl e, symbol-kept x e) refl
symbol-ends x (y ∷ rest) e = rw (not-symbol 61 x refl e, symbol-kept x e, not-symbol 92 x refl e) refl

end-left_out : (x : ℕ) → is_line_end x ≡ true → is_left_out x ≡ true
end-left_out x e = search rules

-- padding and line ends come before what is none
none-before : (x : ℕ) (rest : List ℕ) → is_padding_or_end x ≡ true → padding_of rest ≡ None → rest ≢ []
    → padding_of (x ∷ rest) ≡ None
none-before x [] e none some = absurd (some refl)
none-before x (y ∷ rest) e none some =
    elim (cases_Bool (x == 61)) [
      | inl padding ↦ rw (padding, none) refl
      | inr other ↦ rw (other, end-left_out x (or-right (x == 61) (is_line_end x) e other)) none
    ]

no-padding : (rest : List ℕ) → is_plain_text Standard rest ≡ true → list_all is_padding_or_end rest ≡ false
    → padding_of rest ≡ None
no-padding [] plain other = absurd (cc other)
no-padding (x ∷ rest) plain other =
    elim (cases_Bool (is_padding_or_end x)) [
      | inl padding ↦
          let others : list_all is_padding_or_end rest ≡ false = rw padding at other in
          none-before x rest padding (no-padding rest (rest-plain x rest plain) others) (not-empty rest others)
      | inr symbol ↦
          symbol-ends x rest (or-left (is_symbol Standard x) (is_padding_or_end x) (first-plain x rest plain) symbol)
    ]
  where
    not-empty : (rest : List ℕ) → list_all is_padding_or_end rest ≡ false → rest ≢ []
    not-empty [] e = absurd (cc e)
    not-empty (x ∷ rest) e = λ empty. absurd (cc empty)

-- ---- base64

-- a text with something else after its symbols is not base64
pub other-rest : (text rest : List ℕ) → (symbols_read Standard text).rest ≡ (symbols_read Standard rest).rest
    → is_plain_text Standard rest ≡ is_plain_text Standard text → IsPastSymbols rest
    → list_all is_padding_or_end rest ≡ false → IsNotPlainBase64 text
other-rest text rest read same past other plain octets is =
    let all = same ∙ plain in
    let left : (symbols_read Standard text).rest ≡ rest =
    read ∙ ap (λ (r : SymbolsRead). r.rest) (stops rest all past) in
    let none : padding_of (symbols_read Standard text).rest ≡ None =
    ap padding_of left ∙ no-padding rest all other in
    absurd (cc (rw none at is.padding))

pub is-base64 : (text octets rest : List ℕ) (refused : Option ℕ) → ReadsBase64 Standard text octets refused
    → is_some refused ≡ false → is_plain_text Standard rest ≡ is_plain_text Standard text
    → list_all is_padding_or_end rest ≡ true → IsPlainBase64 text octets
is-base64 text octets rest refused (ReadsBase64.whole is) e same all = record {
  plain = sym same ∙ padding-plain rest all;
  base64 = is;
}
is-base64 text octets rest refused (ReadsBase64.refused none are of) e same all = absurd (cc e)
