-- The headers of a body: a colon, lines up to a blank one, and a word.
use Rattle.std.proofs.Common.{◌≡◌, ℕ, zero, suc, ◌+◌, ◌==◌, ◌<◌, ◌≤◌, Bool, true, false, ◌&&◌, List, [], ◌∷◌}
use Rattle.std.proofs.Common.{length, take, drop, slice_index, refl, ap, sym}
use Rattle.std.proofs.Common.{arith, Option, Some, None}
use Rattle.std.specs.Prelude.{is_some}
use Rattle.std.specs.Str.{bytes_eq}
use Rattle.std.proofs.Math.Bool.{or-true}
use Rattle.std.proofs.lemmas.List.{length-drop, length-take}
use Rattle.std.proofs.lemmas.List.Folds.{list_any_at}
use Rattle.std.proofs.lemmas.Slice.Eq.{bytes_eq-Decides}
use Rattle.memchr.specs.Find.{FindsNeedle, IsFirstByte, is_byte}
use Rattle.memchr.proofs.lemmas.MatchLemmas.{OccursAt-from_part, OccursAt-part}
use Rattle.tlv_text.proofs.Slices.{from-on, slice_from}
use Rattle.tlv_text.specs.PemBody.{does_not_count, has_headers, has_word, headers_size, is_colon}
use Rattle.tlv_text.specs.PemBody.{is_escaped_line_feed, is_escaped_return}

-- ---- lines up to a blank one

-- so many characters are counted before the rest of a text
abbrev pub CountedTo : ℕ → ℕ → Bool → List ℕ → Type 0
CountedTo all size blank rest = all + length rest ≡ size + headers_size blank rest

counted-on : (all size k : ℕ) (blank next : Bool) (rest : List ℕ) → k ≤ length rest
    → headers_size blank rest ≡ k + headers_size next (slice_from k rest)
    → CountedTo all size blank rest → CountedTo all size next (slice_from k rest)
counted-on all size k blank next rest within step i =
    omega (arith, within, step, i, ap (λ (t : List ℕ). length t) (from-on k rest), length-drop k rest)

feed-step : (x : ℕ) (more : List ℕ) → x ≡ 10 → headers_size false (x ∷ more) ≡ 1 + headers_size true more
feed-step x [] e = refl
feed-step x (y ∷ more) e = rw e refl

pub counted-feed : (all size : ℕ) (blank : Bool) (rest : List ℕ) → 1 ≤ length rest → slice_index rest 0 ≡ 10
    → blank ≡ false → CountedTo all size blank rest → CountedTo all size true (slice_from 1 rest)
counted-feed all size blank [] one e b i = absurd (omega arith)
counted-feed all size blank (x ∷ more) one e b i =
    counted-on all size 1 blank true (x ∷ more) one
    (rw (b, from-on 1 (x ∷ more)) (feed-step x more e)) i

pub counted-escaped_feed : (all size : ℕ) (blank : Bool) (rest : List ℕ) → 2 ≤ length rest
    → (slice_index rest 0 == 10) ≡ false
    → is_escaped_line_feed (slice_index rest 0) (slice_index rest 1) ≡ true
    → blank ≡ false → CountedTo all size blank rest → CountedTo all size true (slice_from 2 rest)
counted-escaped_feed all size blank [] two n e b i = absurd (omega arith)
counted-escaped_feed all size blank (x ∷ []) two n e b i = absurd (omega arith)
counted-escaped_feed all size blank (x ∷ y ∷ more) two n e b i =
    counted-on all size 2 blank true (x ∷ y ∷ more) two (rw (b, from-on 2 (x ∷ y ∷ more), n, e) refl) i

pub counted-return : (all size : ℕ) (blank : Bool) (rest : List ℕ) → 2 ≤ length rest
    → (slice_index rest 0 == 10) ≡ false
    → is_escaped_line_feed (slice_index rest 0) (slice_index rest 1) ≡ false
    → is_escaped_return (slice_index rest 0) (slice_index rest 1) ≡ true
    → CountedTo all size blank rest → CountedTo all size blank (slice_from 2 rest)
counted-return all size blank [] two n f e i = absurd (omega arith)
counted-return all size blank (x ∷ []) two n f e i = absurd (omega arith)
counted-return all size blank (x ∷ y ∷ more) two n f e i =
    counted-on all size 2 blank blank (x ∷ y ∷ more) two (rw (from-on 2 (x ∷ y ∷ more), n, f, e) refl) i

pub counted-last : (all size : ℕ) (blank next : Bool) (rest : List ℕ) → 1 ≤ length rest → length rest < 2
    → CountedTo all size blank rest → CountedTo all size next (slice_from 1 rest)
counted-last all size blank next [] one two i = absurd (omega arith)
counted-last all size blank next (x ∷ []) one two i =
    counted-on all size 1 blank next (x ∷ []) one refl i
counted-last all size blank next (x ∷ y ∷ more) one two i = absurd (omega arith)

pub counted-other : (all size : ℕ) (blank next : Bool) (rest : List ℕ) → 2 ≤ length rest
    → (slice_index rest 0 == 10) ≡ false
    → is_escaped_line_feed (slice_index rest 0) (slice_index rest 1) ≡ false
    → is_escaped_return (slice_index rest 0) (slice_index rest 1) ≡ false
    → next ≡ (blank && does_not_count (slice_index rest 0))
    → CountedTo all size blank rest → CountedTo all size next (slice_from 1 rest)
counted-other all size blank next [] two n f e t i = absurd (omega arith)
counted-other all size blank next (x ∷ []) two n f e t i = absurd (omega arith)
counted-other all size blank next (x ∷ y ∷ more) two n f e t i =
    counted-on all size 1 blank next (x ∷ y ∷ more) (omega arith)
    (rw (from-on 1 (x ∷ y ∷ more), n, f, e, t) refl) i

pub true-not : (b : Bool) → (b ≡ true → ⊥) → b ≡ false
true-not true none = absurd (none refl)
true-not false none = refl

-- ---- a colon

none-any : (text : List ℕ) → ((k : ℕ) → k < length text → is_colon (slice_index text k) ≡ true → ⊥)
    → has_headers text ≡ false
none-any [] none = refl
none-any (x ∷ text) none =
    rw (
      true-not (is_colon x) (none 0 (omega arith)),
      none-any text (λ k less. none (suc k) (omega (arith, less))),
    ) refl

pub colon-anywhere : (text : List ℕ) (r : Option ℕ) → IsFirstByte (is_byte 58) text r → is_some r ≡ has_headers text
colon-anywhere text None none = sym (none-any text (λ k less. none k (omega arith) less))
colon-anywhere text (Some k) found = sym (list_any_at is_colon text k 0 found.0.high found.1)

-- ---- a word

-- a word stands at a place
abbrev StandsAt : List ℕ → List ℕ → ℕ → Type 0
StandsAt word text k = take (length word) (drop k text) ≡ word

no-word : (word text : List ℕ) → ((k : ℕ) → k < length text → StandsAt word text k → ⊥) → has_word word text ≡ false
no-word word [] none = refl
no-word word (x ∷ text) none =
    rw (
      true-not (bytes_eq (take (length word) (x ∷ text)) word)
          (λ e. none 0 (omega arith) ((bytes_eq-Decides (take (length word) (x ∷ text)) word).0 e)),
      no-word word text (λ k less s. none (suc k) (omega (arith, less)) s),
    ) refl

a-word : (word text : List ℕ) (k : ℕ) → k < length text → StandsAt word text k → has_word word text ≡ true
a-word word [] k less s = absurd (omega arith)
a-word word (x ∷ text) zero less s = rw ((bytes_eq-Decides (take (length word) (x ∷ text)) word).1 s) refl
a-word word (x ∷ text) (suc k) less s = rw (a-word word text k (omega arith) s) (or-true _)

stands-within : (word text : List ℕ) (k : ℕ) → StandsAt word text k → k < length text → k + length word ≤ length text
stands-within word text k s less =
    omega (arith, ap (λ (t : List ℕ). length t) s, length-take (length word) (drop k text), length-drop k text)

pub word-anywhere : (w : ℕ) (word text : List ℕ) (r : Option ℕ) → FindsNeedle text (w ∷ word) 0 r
    → is_some r ≡ has_word (w ∷ word) text
word-anywhere w word text None none =
    sym (no-word (w ∷ word) text (λ k less s.
    none k (omega arith) (omega (arith, less))
    (OccursAt-from_part text (w ∷ word) k (stands-within (w ∷ word) text k s less) s)))
word-anywhere w word text (Some k) found =
    sym (a-word (w ∷ word) text k (omega (arith, found.1.fits)) (OccursAt-part text (w ∷ word) k found.1))
