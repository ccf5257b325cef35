-- Places of tokens: each begins with one of three marks.
use Rattle.std.proofs.Common.{◌≡◌, ℕ, zero, suc, ◌+◌, ◌-◌, ◌==◌, ◌<◌, ◌≤◌, Bool, true, false, ◌&&◌, ◌||◌, not, min}
use Rattle.std.proofs.Common.{List, [], ◌∷◌, length, drop, take, refl, ap, sym, ◌∙◌, arith, Option, Some, None}
use Rattle.std.proofs.Common.{◌⊎◌, slice_index, inl, inr, rules, subst}
use Rattle.std.specs.Prelude.{if◌then◌else◌, is_some}
use Rattle.std.proofs.lemmas.Bool.{and_parts, cases_Bool, cases_lt, eqb-true}
use Rattle.std.proofs.lemmas.List.{get_or-drop, get_or-take, length-drop, length-take}
use Rattle.std.proofs.Math.Seq.{drop-drop}
use Rattle.memchr.specs.Find.{FindsNeedle, IsFirstByte, OccursAt, is_byte2}
use Rattle.hex.specs.Hex.{is_hex_digit}
use Rattle.tlv_text.proofs.Slices.{from-on, slice_from}
use Rattle.tlv_text.proofs.TokenLemmas.{pieces-cons, token-first}
use Rattle.tlv_text.specs.Pairs.{is_between_pairs, pair_octet, pairs_read}
use Rattle.tlv_text.specs.TextRead.{nothing_read, octets_then}
use Rattle.tlv_text.specs.Private.TokenSteps.{IsTokenOrEnd, NoneMarked, token_from}
use Rattle.tlv_text.specs.Tokens.{Piece, begins_like_token, piece_of, pieces, token_at, tokens_in}
use Rattle.tlv_text.specs.declared.tokens.Token.{Token}

-- ---- tokens and marks

-- `0x`, `0X` and `\x`
abbrev small_mark : List ℕ
small_mark = 48 ∷ 120 ∷ []

abbrev large_mark : List ℕ
large_mark = 48 ∷ 88 ∷ []

abbrev escape_mark : List ℕ
escape_mark = 92 ∷ 120 ∷ []

occurs-first : (a b x y : ℕ) (text : List ℕ) → (x == a && y == b) ≡ true → OccursAt (x ∷ y ∷ text) (a ∷ b ∷ []) 0
occurs-first a b x y text both = record {
  fits = omega arith;
  reads = reads;
}
  where
    reads : (j : ℕ) → j < 2 → slice_index (x ∷ y ∷ text) (0 + j) ≡ slice_index (a ∷ b ∷ []) j
    reads zero less = eqb-true x a (and_parts _ _ both).0
    reads (suc zero) less = eqb-true y b (and_parts _ _ both).1
    reads (suc (suc j)) less = absurd (omega (arith, less))

occurs-later : (mark : List ℕ) (x : ℕ) (text : List ℕ) (k : ℕ) → OccursAt text mark k → OccursAt (x ∷ text) mark (suc k)
occurs-later mark x text k o = record {
  fits = omega (arith, o.fits);
  reads = λ j less.
      let next : suc k + j ≡ suc (k + j) = omega arith in
      ap (slice_index (x ∷ text)) next ∙ o.reads j less;
}

without-mark : (a b c d word white : Bool) (number escape : Option Token)
    → (a && b) ≡ false → (a && c) ≡ false → (d && b) ≡ false
    → (if a && (b || c) && not word then number else (if d && b && white then escape else None)) ≡ None
without-mark false b c false word white number escape small large back = refl
without-mark false false c true word white number escape small large back = refl
without-mark false true c true word white number escape small large back = absurd (cc)
without-mark true true c d word white number escape small large back = absurd (cc)
without-mark true false true d word white number escape small large back = absurd (cc)
without-mark true false false false word white number escape small large back = refl
without-mark true false false true word white number escape small large back = refl

-- no token begins where none of the marks is
unmarked : (k before : ℕ) (text : List ℕ)
    → (OccursAt text small_mark k → token_from k before text ≡ None)
    → (OccursAt text large_mark k → token_from k before text ≡ None)
    → (OccursAt text escape_mark k → token_from k before text ≡ None)
    → token_from k before text ≡ None
unmarked zero before [] small large escape = refl
unmarked zero before (x ∷ []) small large escape = refl
unmarked zero before (x ∷ y ∷ text) small large escape =
    elim (cases_Bool (x == 48 && y == 120)) [
      | inl is_small ↦ small (occurs-first 48 120 x y text is_small)
      | inr not_small ↦ elim (cases_Bool (x == 48 && y == 88)) [
        | inl is_large ↦ large (occurs-first 48 88 x y text is_large)
        | inr not_large ↦ elim (cases_Bool (x == 92 && y == 120)) [
          | inl is_escape ↦ escape (occurs-first 92 120 x y text is_escape)
          | inr not_escape ↦
              without-mark (x == 48) (y == 120) (y == 88) (x == 92) _ _ _ _ not_small not_large not_escape
        ]
      ]
    ]
unmarked (suc k) before [] small large escape = refl
unmarked (suc k) before (x ∷ text) small large escape =
    unmarked k x text (λ o. small (occurs-later small_mark x text k o)) (λ o. large (occurs-later large_mark x text k o))
    (λ o. escape (occurs-later escape_mark x text k o))

-- ---- tokens and pieces

not-counted : (like : Bool) (x : ℕ) (text : List ℕ) (more : List Piece)
    → tokens_in (piece_of None like x text ∷ more) ≡ tokens_in more
not-counted true x text more = refl
not-counted false x text more = refl

other-first : (before x : ℕ) (text : List ℕ) → token_at before (x ∷ text) ≡ None
    → tokens_in (pieces 0 before (x ∷ text)) ≡ tokens_in (pieces 0 x text)
other-first before x text e =
    ap tokens_in (pieces-cons before x text None (sym e))
    ∙ not-counted (begins_like_token before (x ∷ text)) x text (pieces 0 x text)

-- no token begins before this place
abbrev pub NoTokenBefore : ℕ → List ℕ → ℕ → Type 0
NoTokenBefore before text n = (k : ℕ) → k < n → token_from k before text ≡ None

none-in : (before : ℕ) (text : List ℕ) → NoTokenBefore before text (length text) → tokens_in (pieces 0 before text) ≡ 0
none-in before [] none = refl
none-in before (x ∷ text) none =
    other-first before x text (none 0 (omega arith)) ∙ none-in x text (λ k less. none (suc k) (omega (arith, less)))

first-in : (n before : ℕ) (text : List ℕ) (t : Token) → NoTokenBefore before text n → n < length text
    → Some t ≡ token_from n before text
    → tokens_in (pieces 0 before text) ≡ 1 + tokens_in (pieces 0 32 (drop t.more (drop (suc n) text)))
first-in n before [] t none less e = absurd (omega arith)
first-in zero before (x ∷ text) t none less e =
    ap tokens_in (token-first before (x ∷ text) t (omega arith) e)
    ∙ ap (λ (rest : List ℕ). 1 + tokens_in (pieces 0 32 rest))
    (from-on t.more (slice_from 1 (x ∷ text)) ∙ ap (drop t.more) (from-on 1 (x ∷ text)))
first-in (suc n) before (x ∷ text) t none less e =
    other-first before x text (none 0 (omega arith))
    ∙ first-in n x text t (λ k lt. none (suc k) (omega (arith, lt))) (omega (arith, less)) e

-- ---- the first token of a text

-- where the marks are searched for one after another, each up to the place that the one before it gave
pub none-before : (before : ℕ) (text : List ℕ) (m n k : ℕ) → n ≤ m → k ≤ n → NoneMarked small_mark before text m
    → NoneMarked large_mark before text n → NoneMarked escape_mark before text k → NoTokenBefore before text k
none-before before text m n k n_up k_up small large escape i less =
    unmarked i before text (small i (omega (arith, less, k_up, n_up))) (large i (omega (arith, less, k_up)))
    (escape i less)

pub no-token : (before : ℕ) (text : List ℕ) (n : ℕ) → NoTokenBefore before text n → IsTokenOrEnd before text n
    → None ≡ token_from n before text → tokens_in (pieces 0 before text) ≡ 0
no-token before text n none token_or_end e =
    elim (cases_lt n (length text)) [
      | inl less ↦ absurd (cc (ap is_some e, token_or_end less))
      | inr end ↦ none-in before text (λ k less. none k (omega (arith, less, end)))
    ]

pub token-first_of : (before : ℕ) (text : List ℕ) (n : ℕ) (t : Token) → n < length text → NoTokenBefore before text n
    → Some t ≡ token_from n before text
    → tokens_in (pieces 0 before text) ≡ 1 + tokens_in (pieces 0 32 (slice_from (n + 1 + t.more) text))
token-first_of before text n t less none found =
    let size : suc n + t.more ≡ n + 1 + t.more = omega arith in
    first-in n before text t none less found
    ∙ ap (λ (rest : List ℕ). 1 + tokens_in (pieces 0 32 rest))
    (drop-drop t.more (suc n) text ∙ ap (λ (k : ℕ). drop k text) size ∙ sym (from-on (n + 1 + t.more) text))

-- no mark is in a text without an x
none-without_x : (mark : List ℕ) (before : ℕ) (text : List ℕ) → length mark ≡ 2
    → is_byte2 120 88 (slice_index mark 1) ≡ true → IsFirstByte (is_byte2 120 88) text None
    → NoneMarked mark before text (length text)
none-without_x mark before text two has none k less o =
    absurd (none (k + 1) (omega arith) (omega (arith, o.fits))
    (ap (is_byte2 120 88) (o.reads 1 (omega arith)) ∙ has))

pub no-token-without_x : (before : ℕ) (text : List ℕ) → IsFirstByte (is_byte2 120 88) text None
    → tokens_in (pieces 0 before text) ≡ 0
no-token-without_x before text none =
    none-in before text
    (none-before before text (length text) (length text) (length text) (omega arith) (omega arith)
    (none-without_x small_mark before text refl refl none) (none-without_x large_mark before text refl refl none)
    (none-without_x escape_mark before text refl refl none))

-- ---- pairs have no token

-- what may be in a text of pairs is no x
no-x-between : (x : ℕ) → is_between_pairs x ≡ true → is_byte2 120 88 x ≡ false
no-x-between x e = search rules

no-x-digit : (x : ℕ) → is_hex_digit x ≡ true → is_byte2 120 88 x ≡ false
no-x-digit x e = search rules

last-between : (between : Bool) (x : ℕ) → (if between then nothing_read [] else nothing_read (x ∷ [])).rest ≡ []
    → between ≡ true
last-between true x e = refl
last-between false x e = absurd (omega (arith, ap length e))

-- if nothing is left, the first character is between pairs or begins one, and nothing is left after it
first-of_pairs : (between digits : Bool) (x y octet : ℕ) (text : List ℕ)
    → (if between then pairs_read (y ∷ text)
    else (if digits then octets_then (octet ∷ []) (pairs_read text) else nothing_read (x ∷ y ∷ text))).rest ≡ []
    → ((between ≡ true) × ((pairs_read (y ∷ text)).rest ≡ [])) ⊎ ((digits ≡ true) × ((pairs_read text).rest ≡ []))
first-of_pairs true digits x y octet text e = inl (refl, e)
first-of_pairs false true x y octet text e = inr (refl, e)
first-of_pairs false false x y octet text e = absurd (omega (arith, ap length e))

no-x-at : (text : List ℕ) → (pairs_read text).rest ≡ [] → (i : ℕ) → i < length text
    → is_byte2 120 88 (slice_index text i) ≡ false
no-x-at [] e i less = absurd (omega (arith, less))
no-x-at (x ∷ []) e zero less = no-x-between x (last-between (is_between_pairs x) x e)
no-x-at (x ∷ []) e (suc i) less = absurd (omega (arith, less))
no-x-at (x ∷ y ∷ text) e zero less =
    elim (first-of_pairs (is_between_pairs x) (is_hex_digit x && is_hex_digit y) x y (pair_octet x y) text e) [
      | inl between ↦ no-x-between x between.0
      | inr digits ↦ no-x-digit x (and_parts _ _ digits.0).0
    ]
no-x-at (x ∷ y ∷ text) e (suc zero) less =
    elim (first-of_pairs (is_between_pairs x) (is_hex_digit x && is_hex_digit y) x y (pair_octet x y) text e) [
      | inl between ↦ no-x-at (y ∷ text) between.1 zero (omega arith)
      | inr digits ↦ no-x-digit y (and_parts _ _ digits.0).1
    ]
no-x-at (x ∷ y ∷ text) e (suc (suc i)) less =
    elim (first-of_pairs (is_between_pairs x) (is_hex_digit x && is_hex_digit y) x y (pair_octet x y) text e) [
      | inl between ↦ no-x-at (y ∷ text) between.1 (suc i) (omega (arith, less))
      | inr digits ↦ no-x-at text digits.1 i (omega (arith, less))
    ]

pub no-token-in_pairs : (before : ℕ) (text : List ℕ) → (pairs_read text).rest ≡ []
    → tokens_in (pieces 0 before text) ≡ 0
no-token-in_pairs before text e =
    no-token-without_x before text (λ i _ less has. absurd (cc (has, no-x-at text e i less)))

-- ---- the search for a mark, in the first `last` characters of a text

-- a mark of the text is in the part that is searched
in-part : (mark text : List ℕ) (start last k : ℕ) → OccursAt text mark k → start ≤ k → k + length mark ≤ last
    → OccursAt (slice_from start (take last text)) mark (k - start)
in-part mark text start last k o up low =
    subst (λ (t : List ℕ). OccursAt t mark (k - start)) (sym (from-on start (take last text)))
    record {
      fits = omega (arith, o.fits, length-drop start (take last text), length-take last text);
      reads = reads;
    }
  where
    reads : (j : ℕ) → j < length mark
        → slice_index (drop start (take last text)) (k - start + j) ≡ slice_index mark j
    reads j less =
        get_or-drop start (take last text) (k - start + j) 0
        ∙ get_or-take last text (start + (k - start + j)) 0 (omega (arith, less, up, low))
        ∙ ap (slice_index text) (omega (arith, up))
        ∙ o.reads j less

size-of_part : (text : List ℕ) (start last : ℕ)
    → length (slice_from start (take last text)) ≡ min last (length text) - start
size-of_part text start last =
    ap length (from-on start (take last text)) ∙ length-drop start (take last text)
    ∙ ap (λ (n : ℕ). n - start) (length-take last text)

-- a mark that is found is within the part
pub mark-within : (mark text : List ℕ) (start last more : ℕ) → length mark ≡ 2
    → FindsNeedle (slice_from start (take last text)) mark 0 (Some more)
    → start + more + 2 ≤ min last (length text)
mark-within mark text start last more two f = omega (arith, f.1.fits, size-of_part text start last)

pub none-up_to_mark : (mark : List ℕ) (before : ℕ) (text : List ℕ) (start last more : ℕ) → length mark ≡ 2
    → FindsNeedle (slice_from start (take last text)) mark 0 (Some more)
    → NoneMarked mark before text start → NoneMarked mark before text (start + more)
none-up_to_mark mark before text start last more two f none k less o =
    elim (cases_lt k start) [
      | inl passed ↦ none k passed o
      | inr up ↦
          let within = mark-within mark text start last more two f in
          absurd (f.0.before (k - start) (omega arith) (omega (arith, less, up))
          (in-part mark text start last k o up (omega (arith, less, two, within))))
    ]

none-of : (o : Option Token) → is_some o ≡ false → o ≡ None
none-of None e = refl
none-of (Some t) e = absurd (cc)

-- a mark that begins no token
pub none-behind_mark : (mark : List ℕ) (before : ℕ) (text : List ℕ) (start last more : ℕ) → length mark ≡ 2
    → FindsNeedle (slice_from start (take last text)) mark 0 (Some more)
    → is_some (token_from (start + more) before text) ≡ false
    → NoneMarked mark before text start → NoneMarked mark before text (start + more + 1)
none-behind_mark mark before text start last more two f no_token none k less o =
    elim (cases_lt k (start + more)) [
      | inl sooner ↦ none-up_to_mark mark before text start last more two f none k sooner o
      | inr up ↦
          let here : k ≡ start + more = omega (arith, less, up) in
          ap (λ (n : ℕ). token_from n before text) here ∙ none-of (token_from (start + more) before text) no_token
    ]

pub none-to_end : (mark : List ℕ) (before : ℕ) (text : List ℕ) (start last end : ℕ) → length mark ≡ 2
    → last ≡ min (length text) (end + 1) → FindsNeedle (slice_from start (take last text)) mark 0 None
    → NoneMarked mark before text start → NoneMarked mark before text end
none-to_end mark before text start last end two last_is f none k less o =
    elim (cases_lt k start) [
      | inl passed ↦ none k passed o
      | inr up ↦
          let low : k + length mark ≤ last = omega (arith, less, two, last_is, o.fits) in
          let found = in-part mark text start last k o up low in
          absurd (f (k - start) (omega arith) (omega (arith, found.fits)) found)
    ]

-- ---- the token at a place

from-later : (n before : ℕ) (text : List ℕ) → n < length text
    → token_from (suc n) before text ≡ token_at (slice_index text n) (drop (suc n) text)
from-later n before [] less = absurd (omega arith)
from-later zero before (x ∷ text) less = refl
from-later (suc n) before (x ∷ text) less = from-later n x text (omega (arith, less))

pub from-place : (place before : ℕ) (text : List ℕ) (r : Option Token) → 1 ≤ place → place ≤ length text
    → r ≡ token_at (slice_index text (place - 1)) (slice_from place text) → r ≡ token_from place before text
from-place zero before text r one less e = absurd (omega arith)
from-place (suc n) before text r one less e =
    let front : suc n - 1 ≡ n = omega arith in
    e
    ∙ ap (λ (k : ℕ). token_at (slice_index text k) (slice_from (suc n) text)) front
    ∙ ap (token_at (slice_index text n)) (from-on (suc n) text)
    ∙ sym (from-later n before text (omega (arith, less)))
