-- What is read of pairs of digits, one after another.
use Rattle.std.proofs.Common.{◌≡◌, ℕ, ◌≤◌, ◌&&◌, ◌||◌, Bool, true, false, List, [], ◌∷◌, ◌++◌, length, refl, ap, sym, ◌∙◌}
use Rattle.std.proofs.Common.{◌⊎◌, ⊎_elim, inl, inr}
use Rattle.std.proofs.Common.{arith, drop, rules, zero, suc, ◌+◌, Option, Some, None, slice_index}
use Rattle.std.proofs.lemmas.Bool.{and_parts}
use Rattle.std.specs.Prelude.{MatchOption, if◌then◌else◌, unwrap_or}
use Rattle.hex.specs.Hex.{is_hex_digit}
use Rattle.tlv_text.proofs.Slices.{from-on, slice_from}
use Rattle.tlv_text.proofs.TokenLemmas.{octets-and_more}
use Rattle.tlv_text.specs.DumpPairs.{begins_digit}
use Rattle.tlv_text.specs.Pairs.{is_between_pairs, pair_octet, pairs_read}
use Rattle.tlv_text.specs.Plain.{IsLonePairs, IsNotLonePairs, are_lines_of_digits}
use Rattle.tlv_text.specs.Private.PairSteps.{IsNotOfDigits, IsOfDigits, octet_of}
use Rattle.tlv_text.specs.Separated.{IsNotSeparated, are_separated}
use Rattle.tlv_text.specs.TextRead.{TextRead, octets_then}

-- no digit may be between pairs
pub digit-not_between : (x : ℕ) → is_hex_digit x ≡ true → is_between_pairs x ≡ false
digit-not_between x e = search rules

some-pair : (both : Bool) (octet value : ℕ) → Some octet ≡ (if both then Some value else None)
    → (both ≡ true) × (octet ≡ value)
some-pair true octet value e = (refl, ap (λ (o : Option ℕ). unwrap_or o 0) e)
some-pair false octet value e = absurd (cc)

-- a pair comes first
pub pair-first : (x y octet : ℕ) (more : List ℕ) → Some octet ≡ octet_of x y
    → pairs_read (x ∷ y ∷ more) ≡ octets_then (octet ∷ []) (pairs_read more)
pair-first x y octet more e =
    let found = some-pair (is_hex_digit x && is_hex_digit y) octet (pair_octet x y) e in
    let apart : is_between_pairs x ≡ false = digit-not_between x (and_parts _ _ found.0).0 in
    rw (apart, found.0, found.1) refl

-- four pairs are read after other octets
pub four-read : (all : TextRead) (octets text : List ℕ) (first second third fourth : ℕ) → 8 ≤ length text
    → Some first ≡ octet_of (slice_index text 0) (slice_index text 1)
    → Some second ≡ octet_of (slice_index text 2) (slice_index text 3)
    → Some third ≡ octet_of (slice_index text 4) (slice_index text 5)
    → Some fourth ≡ octet_of (slice_index text 6) (slice_index text 7)
    → all ≡ octets_then octets (pairs_read text)
    → all ≡ octets_then (octets ++ first ∷ second ∷ third ∷ fourth ∷ []) (pairs_read (slice_from 8 text))
four-read all octets [] _ _ _ _ eight _ _ _ _ i = absurd (omega arith)
four-read all octets (a ∷ []) _ _ _ _ eight _ _ _ _ i = absurd (omega arith)
four-read all octets (a ∷ b ∷ []) _ _ _ _ eight _ _ _ _ i = absurd (omega arith)
four-read all octets (a ∷ b ∷ c ∷ []) _ _ _ _ eight _ _ _ _ i = absurd (omega arith)
four-read all octets (a ∷ b ∷ c ∷ d ∷ []) _ _ _ _ eight _ _ _ _ i = absurd (omega arith)
four-read all octets (a ∷ b ∷ c ∷ d ∷ e ∷ []) _ _ _ _ eight _ _ _ _ i = absurd (omega arith)
four-read all octets (a ∷ b ∷ c ∷ d ∷ e ∷ f ∷ []) _ _ _ _ eight _ _ _ _ i = absurd (omega arith)
four-read all octets (a ∷ b ∷ c ∷ d ∷ e ∷ f ∷ g ∷ []) _ _ _ _ eight _ _ _ _ i = absurd (omega arith)
four-read all octets (a ∷ b ∷ c ∷ d ∷ e ∷ f ∷ g ∷ h ∷ more) first second third fourth eight p q r s i =
    i
    ∙ ap (octets_then octets) (
    pair-first a b first (c ∷ d ∷ e ∷ f ∷ g ∷ h ∷ more) p
    ∙ ap (octets_then (first ∷ [])) (pair-first c d second (e ∷ f ∷ g ∷ h ∷ more) q
    ∙ ap (octets_then (second ∷ [])) (pair-first e f third (g ∷ h ∷ more) r
    ∙ ap (octets_then (third ∷ [])) (pair-first g h fourth more s)))
    )
    ∙ octets-and_more octets (first ∷ second ∷ third ∷ fourth ∷ []) (pairs_read more)
    ∙ ap (λ (t : List ℕ). octets_then (octets ++ first ∷ second ∷ third ∷ fourth ∷ []) (pairs_read t))
    (sym (from-on 8 (a ∷ b ∷ c ∷ d ∷ e ∷ f ∷ g ∷ h ∷ more)))

-- ---- digits

-- both characters are digits
octet-digits : (x y octet : ℕ) → Some octet ≡ octet_of x y → (is_hex_digit x ≡ true) × (is_hex_digit y ≡ true)
octet-digits x y octet e =
    and_parts _ _ (some-pair (is_hex_digit x && is_hex_digit y) octet (pair_octet x y) e).0

-- behind so many characters, a pair comes before a text that has nothing but digits and line ends if all has
pub digits-at : (whole text : List ℕ) (k octet : ℕ) → k + 2 ≤ length text
    → Some octet ≡ octet_of (slice_index text k) (slice_index text (suc k))
    → are_lines_of_digits (drop k text) ≡ are_lines_of_digits whole
    → are_lines_of_digits (drop (suc (suc k)) text) ≡ are_lines_of_digits whole
digits-at whole [] k octet two p i = absurd (omega arith)
digits-at whole (x ∷ []) zero octet two p i = absurd (omega arith)
digits-at whole (x ∷ y ∷ more) zero octet two p i =
    let digits = octet-digits x y octet p in
    rw (digits.0, digits.1) at i
digits-at whole (x ∷ text) (suc k) octet two p i = digits-at whole text k octet (omega arith) p i

-- ---- separated pairs

pub between-no_digit : (x : ℕ) → is_between_pairs x ≡ true → is_hex_digit x ≡ false
between-no_digit x e = search rules

-- what is between pairs is passed over
between-passed : (x : ℕ) (more : List ℕ) → is_between_pairs x ≡ true → pairs_read (x ∷ more) ≡ pairs_read more
between-passed x [] e = rw e refl
between-passed x (y ∷ more) e = rw e refl

pub between-same : (x : ℕ) (more : List ℕ) → is_between_pairs x ≡ true
    → are_separated (x ∷ more) ≡ are_separated more
between-same x [] e = rw e refl
between-same x (y ∷ more) e = rw e refl

pub digits-same : (x y : ℕ) (more : List ℕ) → is_hex_digit x ≡ true → is_hex_digit y ≡ true
    → begins_digit more ≡ false → are_separated (x ∷ y ∷ more) ≡ are_separated more
digits-same x y more dx dy apart = rw (digit-not_between x dx, dx, dy, apart) refl

pub pair-same : (x y octet : ℕ) (more : List ℕ) → Some octet ≡ octet_of x y → begins_digit more ≡ false
    → are_separated (x ∷ y ∷ more) ≡ are_separated more
pair-same x y octet more e apart =
    let digits = octet-digits x y octet e in
    digits-same x y more digits.0 digits.1 apart

pub between-separated : (x : ℕ) (more : List ℕ) → is_between_pairs x ≡ true → are_separated more ≡ true
    → are_separated (x ∷ more) ≡ true
between-separated x more e are = between-same x more e ∙ are

pub digits-separated : (x y : ℕ) (more : List ℕ) → is_hex_digit x ≡ true → is_hex_digit y ≡ true
    → begins_digit more ≡ false → are_separated more ≡ true → are_separated (x ∷ y ∷ more) ≡ true
digits-separated x y more dx dy apart are = digits-same x y more dx dy apart ∙ are

-- behind so many characters, a pair and a character that may be between pairs are read after other octets
pub separated-at : (whole : List ℕ) (all : TextRead) (octets text : List ℕ) (k octet : ℕ) → k + 3 ≤ length text
    → Some octet ≡ octet_of (slice_index text k) (slice_index text (suc k))
    → is_between_pairs (slice_index text (suc (suc k))) ≡ true
    → all ≡ octets_then octets (pairs_read (drop k text))
    → are_separated (drop k text) ≡ are_separated whole
    → (all ≡ octets_then (octets ++ octet ∷ []) (pairs_read (drop (suc (suc (suc k))) text)))
    × (are_separated (drop (suc (suc (suc k))) text) ≡ are_separated whole)
separated-at whole all octets [] k _ three _ _ i j = absurd (omega arith)
separated-at whole all octets (a ∷ []) zero _ three _ _ i j = absurd (omega arith)
separated-at whole all octets (a ∷ b ∷ []) zero _ three _ _ i j = absurd (omega arith)
separated-at whole all octets (x ∷ y ∷ z ∷ more) zero octet three p passed i j = (
  i
      ∙ ap (octets_then octets) (pair-first x y octet (z ∷ more) p
      ∙ ap (octets_then (octet ∷ [])) (between-passed z more passed))
      ∙ octets-and_more octets (octet ∷ []) (pairs_read more),
  sym (between-same z more passed) ∙ sym (pair-same x y octet (z ∷ more) p (between-no_digit z passed)) ∙ j,
)
separated-at whole all octets (x ∷ text) (suc k) octet three p passed i j =
    separated-at whole all octets text k octet (omega arith) p passed i j

-- ---- lone pairs

right-of : (a b : Bool) → b ≡ true → (a || b) ≡ true
right-of true b e = refl
right-of false b e = e

pub either-of : (a b : Bool) → (a || b) ≡ true → (a ≡ true) ⊎ (b ≡ true)
either-of true b e = inl refl
either-of false b e = inr e

-- a text that is not separated pairs is lone pairs if it has nothing but digits and line ends
pub joined-lone : {T : Type 0} (items : T → List ℕ) (text : List ℕ) (r : Option T) → IsNotSeparated text
    → MatchOption r (IsNotOfDigits text) (λ o. IsOfDigits text (items o))
    → MatchOption r (IsNotLonePairs text) (λ o. IsLonePairs text (items o))
joined-lone items text None none is = λ lone whole.
    ⊎_elim (λ (separated : are_separated text ≡ true). none separated whole)
    (λ (digits : are_lines_of_digits text ≡ true). is digits whole) (either-of (are_separated text) (are_lines_of_digits text) lone)
joined-lone items text (Some o) none is = record {
  lone = right-of (are_separated text) (are_lines_of_digits text) is.digits;
  read = is.read;
}
