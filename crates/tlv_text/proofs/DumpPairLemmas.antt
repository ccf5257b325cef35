-- Pairs of a row of a dump.
use Rattle.std.proofs.Common.{◌≡◌, ℕ, zero, suc, ◌+◌, ◌-◌, ◌/◌, ◌==◌, ◌<◌, ◌≤◌, Bool, true, false, ◌&&◌, not}
use Rattle.std.proofs.Common.{◌||◌, List, [], ◌∷◌, ◌++◌, length, take, drop, slice_index, refl, ap, sym, ◌∙◌}
use Rattle.std.proofs.Common.{append_assoc, arith}
use Rattle.std.proofs.Common.{inl, inr}
use Rattle.std.specs.Prelude.{if◌then◌else◌, nat_le, Option}
use Rattle.std.proofs.lemmas.Bool.{cases_Bool, cases_lt, le-leb, leb-false, leb-true, lt-leb}
use Rattle.std.proofs.lemmas.List.{append-nil, length-append}
use Rattle.std.proofs.lemmas.List.Elements.{All-nil}
use Rattle.std.proofs.lemmas.List.Sums.{count_by-le-length}
use Rattle.hex.specs.Hex.{is_hex_digit}
use Rattle.tlv_text.proofs.DumpLemmas.{pair_octets-length}
use Rattle.tlv_text.proofs.PairLemmas.{pair_octets-more, pairs-and_one}
use Rattle.tlv_text.proofs.Slices.{after-two, slice_from}
use Rattle.tlv_text.specs.Dump.{octets_repeated}
use Rattle.tlv_text.specs.DumpLines.{RowRead, after_blanks, is_dump_blank}
use Rattle.tlv_text.specs.DumpPairs.{after_few, after_gap, before_pairs, begins_digit, begins_lone_pair, begins_pair}
use Rattle.tlv_text.specs.DumpPairs.{dump_row_octets, ends_line, gap_of, has_few_others, has_single_offset}
use Rattle.tlv_text.specs.DumpPairs.{is_further, leading_octet, octets_if, others_count, pairs_after, pairs_at}
use Rattle.tlv_text.specs.DumpPairs.{row_fits, single_row_fits, single_row_octets}
use Rattle.tlv_text.specs.Pairs.{pair_octet}
use Rattle.tlv_text.specs.Private.PairSteps.{AreWholePairs, pair_octets}
use Rattle.tlv_text.specs.TextRead.{TextRead, nothing_read, octets_then}
use Rattle.tlv_text.specs.declared.dump.pairs.Gap.{Gap}

-- what is read of a text by what follows its gap
abbrev with_next : ℕ → Gap → List ℕ → List ℕ → TextRead
with_next n gap text next =
    if begins_pair next then octets_then (leading_octet next ∷ []) (pairs_after n gap (drop 2 next))
    else nothing_read text

next-pair : (n : ℕ) (gap : Gap) (text next : List ℕ) → 2 ≤ length next → is_hex_digit (slice_index next 0) ≡ true
    → is_hex_digit (slice_index next 1) ≡ true
    → with_next n gap text next
    ≡ octets_then (pair_octet (slice_index next 0) (slice_index next 1) ∷ []) (pairs_after n gap (slice_from 2 next))
next-pair n gap text [] two dx dy = absurd (omega arith)
next-pair n gap text (x ∷ []) two dx dy = absurd (omega arith)
next-pair n gap text (x ∷ y ∷ more) two dx dy =
    rw (dx, dy)
    (ap (λ (rest : List ℕ). octets_then (pair_octet x y ∷ []) (pairs_after n gap rest)) (sym (after-two x y more)))

pair-first : (left : ℕ) (gap : Gap) (text next : List ℕ) → 0 < left → next ≡ after_gap gap text → 2 ≤ length next
    → is_hex_digit (slice_index next 0) ≡ true → is_hex_digit (slice_index next 1) ≡ true
    → pairs_after left gap text
    ≡ octets_then (pair_octet (slice_index next 0) (slice_index next 1) ∷ [])
    (pairs_after (left - 1) gap (slice_from 2 next))
pair-first zero gap text next some e two dx dy = absurd (omega arith)
pair-first (suc n) gap text next some e two dx dy =
    ap (with_next n gap text) (sym e)
    ∙ next-pair n gap text next two dx dy
    ∙ ap (λ (m : ℕ). octets_then (pair_octet (slice_index next 0) (slice_index next 1) ∷ [])
    (pairs_after m gap (slice_from 2 next))) (omega arith)

then-more : (a b : List ℕ) (r : TextRead) → octets_then a (octets_then b r) ≡ octets_then (a ++ b) r
then-more a b r =
    ap (λ (octets : List ℕ). record { octets = octets; rest = r.rest }) (sym (append_assoc a b r.octets))

-- a pair is read after others
pub pair-more : (all : TextRead) (left : ℕ) (gap : Gap) (text next digits : List ℕ) → 0 < left
    → next ≡ after_gap gap text → 2 ≤ length next → is_hex_digit (slice_index next 0) ≡ true
    → is_hex_digit (slice_index next 1) ≡ true
    → AreWholePairs digits → all ≡ octets_then (pair_octets digits) (pairs_after left gap text)
    → all ≡ octets_then (pair_octets (digits ++ slice_index next 0 ∷ slice_index next 1 ∷ []))
    (pairs_after (left - 1) gap (slice_from 2 next))
pair-more all left gap text next digits some e two dx dy p i =
    let rest : TextRead = pairs_after (left - 1) gap (slice_from 2 next) in
    let octets : List ℕ = pair_octet (slice_index next 0) (slice_index next 1) ∷ [] in
    i
    ∙ ap (octets_then (pair_octets digits)) (pair-first left gap text next some e two dx dy)
    ∙ then-more (pair_octets digits) octets rest
    ∙ ap (λ (t : List ℕ). octets_then t rest) (sym (pair_octets-more digits _ _ p.even))

pub pair-counted : (digits : List ℕ) (x y left most : ℕ) → 0 < left → AreWholePairs digits
    → length (pair_octets digits) + left ≡ most
    → length (pair_octets (digits ++ x ∷ y ∷ [])) + (left - 1) ≡ most
pair-counted digits x y left most some p e =
    omega (
      arith,
      ap length (pair_octets-more digits x y p.even),
      length-append (pair_octets digits) (pair_octet x y ∷ []),
    )

-- no pair follows
pub no-pair : (left : ℕ) (gap : Gap) (text next : List ℕ) → 0 < left → next ≡ after_gap gap text
    → begins_pair next ≡ false → pairs_after left gap text ≡ nothing_read text
no-pair zero gap text next some e none = absurd (omega arith)
no-pair (suc n) gap text next some e none = ap (with_next n gap text) (sym e) ∙ rw none refl

pub short-is_no_pair : (next : List ℕ) → length next < 2 → begins_pair next ≡ false
short-is_no_pair [] short = refl
short-is_no_pair (x ∷ []) short = refl
short-is_no_pair (x ∷ y ∷ next) short = absurd (omega arith)

pub first-is_no_digit : (next : List ℕ) → is_hex_digit (slice_index next 0) ≡ false → begins_pair next ≡ false
first-is_no_digit [] e = refl
first-is_no_digit (x ∷ []) e = refl
first-is_no_digit (x ∷ y ∷ next) e = rw e refl

pub second-is_no_digit : (next : List ℕ) → is_hex_digit (slice_index next 0) ≡ true
    → is_hex_digit (slice_index next 1) ≡ false → begins_pair next ≡ false
second-is_no_digit [] d e = refl
second-is_no_digit (x ∷ []) d e = refl
second-is_no_digit (x ∷ y ∷ next) d e = rw (d, e) refl

-- ---- the pair that comes first

pub two-first : (text : List ℕ) → begins_pair text ≡ true → 2 ≤ length text
two-first [] begins = cc begins
two-first (x ∷ []) begins = cc begins
two-first (x ∷ y ∷ text) begins = omega arith

both-true : (a b : Bool) → (a && b) ≡ true → (a ≡ true) × (b ≡ true)
both-true true true e = (refl, refl)
both-true true false e = cc e
both-true false b e = cc e

pub two-taken : (text : List ℕ) → begins_pair text ≡ true → length (take 2 text) ≡ 2
two-taken [] begins = cc begins
two-taken (x ∷ []) begins = cc begins
two-taken (x ∷ y ∷ text) begins = refl

pub no-pairs_whole : AreWholePairs []
no-pairs_whole = record { even = refl; digits = All-nil (λ d. is_hex_digit d ≡ true) }

pub first-pair_whole : (text : List ℕ) → begins_pair text ≡ true → AreWholePairs (take 2 text)
first-pair_whole [] begins = cc begins
first-pair_whole (x ∷ []) begins = cc begins
first-pair_whole (x ∷ y ∷ text) begins =
    pairs-and_one [] x y no-pairs_whole
    (both-true (is_hex_digit x) (is_hex_digit y) begins).0 (both-true (is_hex_digit x) (is_hex_digit y) begins).1

-- what is read from the first pair on
pub pairs-from_first : (most : ℕ) (gap : Gap) (text : List ℕ) → 0 < most → begins_pair text ≡ true
    → pairs_at most gap text
    ≡ octets_then (pair_octets (take 2 text)) (pairs_after (most - 1) gap (drop 2 text))
pairs-from_first zero gap text some begins = absurd (omega arith)
pairs-from_first (suc n) gap [] some begins = cc begins
pairs-from_first (suc n) gap (x ∷ []) some begins = cc begins
pairs-from_first (suc n) gap (x ∷ y ∷ text) some begins =
    rw begins
    (ap (λ (m : ℕ). octets_then (pair_octet x y ∷ []) (pairs_after m gap text)) (omega arith))

-- ---- the characters behind the pairs

blank-not_counted : (x : ℕ) (text : List ℕ) → is_dump_blank x ≡ true → others_count (x ∷ text) ≡ others_count text
blank-not_counted x text blank = rw blank refl

-- leading blanks do not count
pub others-after_blanks : (text : List ℕ) → others_count (after_blanks text) ≡ others_count text
others-after_blanks [] = refl
others-after_blanks (x ∷ text) =
    let by : Bool → ℕ = λ b. others_count (if b then after_blanks text else x ∷ text) in
    elim (cases_Bool (is_dump_blank x)) [
      | inl blank ↦ ap by blank ∙ others-after_blanks text ∙ sym (blank-not_counted x text blank)
      | inr not_blank ↦ ap by not_blank
    ]

-- a short text has few characters
pub few-in_short : (octets : ℕ) (others rest : List ℕ) → others ≡ after_blanks rest → length others - 2 ≤ octets
    → has_few_others false octets rest ≡ true
few-in_short octets others rest e short =
    le-leb _ _ (
    omega (
      arith,
      short,
      count_by-le-length (λ x. not (is_dump_blank x || is_further x)) others,
      ap others_count e ∙ others-after_blanks rest,
    )
    )

pub few-counted : (octets count : ℕ) (others rest : List ℕ) → others ≡ after_blanks rest → count ≡ others_count others
    → nat_le (count - 2) octets ≡ has_few_others false octets rest
few-counted octets count others rest e counted =
    let same : count ≡ others_count rest = counted ∙ ap others_count e ∙ others-after_blanks rest in
    elim (cases_Bool (nat_le (count - 2) octets)) [
      | inl few ↦ few ∙ sym (le-leb _ _ (omega (arith, same, leb-true _ _ few)))
      | inr many ↦ many ∙ sym (lt-leb _ _ (omega (arith, same, leb-false _ _ many)))
    ]

-- ---- a row among others

nothing-then : (octets rest : List ℕ) → octets_then octets (nothing_read rest) ≡ record { octets = octets; rest = rest }
nothing-then octets rest = ap (λ (t : List ℕ). record { octets = t; rest = rest }) (append-nil octets)

-- so many pairs that all are taken
nothing-left : (size left : ℕ) (gap : Gap) (rest digits : List ℕ) → size ≤ 256
    → length (pair_octets digits) + left ≡ size
    → (length digits < 512 → pairs_after left gap rest ≡ nothing_read rest)
    → pairs_after left gap rest ≡ nothing_read rest
nothing-left size left gap rest digits few count last =
    elim (cases_lt (length digits) 512) [
      | inl less ↦ last less
      | inr more ↦
          let none : left ≡ 0 = omega (arith, pair_octets-length digits) in
          ap (λ (n : ℕ). pairs_after n gap rest) none
    ]

-- one octet is taken first
pub one-pair : (first text : List ℕ) → first ≡ take 2 text → begins_pair text ≡ true → length (pair_octets first) ≡ 1
one-pair first text f begins =
    pair_octets-length first ∙ ap (λ (t : List ℕ). length t / 2) f ∙ ap (λ (n : ℕ). n / 2) (two-taken text begins)

pub row-read : (size left : ℕ) (gap : Gap) (text first rest digits : List ℕ) → 0 < size → size ≤ 256
    → begins_pair text ≡ true → first ≡ take 2 text
    → octets_then (pair_octets first) (pairs_after (size - 1) gap (drop 2 text))
    ≡ octets_then (pair_octets digits) (pairs_after left gap rest)
    → length (pair_octets digits) + left ≡ length (pair_octets first) + (size - 1)
    → (length digits < 512 → pairs_after left gap rest ≡ nothing_read rest)
    → pairs_at size gap text ≡ record { octets = pair_octets digits; rest = rest }
row-read size left gap text first rest digits some few begins f read count last =
    let one = one-pair first text f begins in
    pairs-from_first size gap text some begins
    ∙ ap (λ (t : List ℕ). octets_then (pair_octets t) (pairs_after (size - 1) gap (drop 2 text))) (sym f)
    ∙ read
    ∙ ap (octets_then (pair_octets digits)) (nothing-left size left gap rest digits few (omega arith) last)
    ∙ nothing-then (pair_octets digits) rest

pub row-octets : (size : ℕ) (row : RowRead) (text rest octets : List ℕ) (fits : Bool) → text ≡ before_pairs row.rest
    → begins_pair text ≡ true → pairs_at size (gap_of 2 row.rest) text ≡ record { octets = octets; rest = rest }
    → fits ≡ (not (begins_digit rest || ((length octets == size) && begins_lone_pair (after_few 1 rest)))
    && ends_line (gap_of 2 row.rest).prefixed row.offset (length octets) rest)
    → octets_if fits octets ≡ dump_row_octets size row
row-octets size row text rest octets fits e begins read f =
    let gap : Gap = gap_of 2 row.rest in
    let one : octets_if fits octets
    ≡ octets_if (row_fits size row.offset gap text (record { octets = octets; rest = rest })) octets =
    rw (begins, f) refl in
    one
    ∙ ap (λ (r : TextRead). octets_if (row_fits size row.offset gap text r) r.octets) (sym read)
    ∙ ap (λ (t : List ℕ). octets_if (row_fits size row.offset gap t (pairs_at size gap t))
    (pairs_at size gap t).octets) e

-- ---- a row alone

pub single-octets : (row : RowRead) (gap : Gap) (text rest : List ℕ) (count : ℕ) (fits : Bool)
    → has_single_offset row ≡ true → gap ≡ gap_of 1 row.rest → text ≡ before_pairs row.rest → begins_pair text ≡ true
    → count ≡ length (pairs_at (length text) gap text).octets → rest ≡ (pairs_at (length text) gap text).rest
    → begins_digit rest ≡ false → fits ≡ ends_line gap.prefixed row.offset count rest
    → octets_if fits (pairs_at (length text) gap text).octets ≡ single_row_octets row
single-octets row gap text rest count fits single g e begins counted after no_digit f =
    let read : TextRead = pairs_at (length text) gap text in
    let ends : fits ≡ ends_line gap.prefixed row.offset (length read.octets) read.rest =
    f ∙ ap (λ (n : ℕ). ends_line gap.prefixed row.offset n rest) counted
    ∙ ap (λ (t : List ℕ). ends_line gap.prefixed row.offset (length read.octets) t) after in
    let digit : begins_digit read.rest ≡ false = sym (ap begins_digit after) ∙ no_digit in
    let one : octets_if fits read.octets
    ≡ octets_if (has_single_offset row && single_row_fits row.offset gap text read) read.octets =
    rw (single, begins, digit, ends) refl in
    let found : Gap → List ℕ → Option (List ℕ) = λ h t.
    octets_if (has_single_offset row && single_row_fits row.offset h t (pairs_at (length t) h t))
    (pairs_at (length t) h t).octets in
    one ∙ ap (λ (h : Gap). found h text) g ∙ ap (found (gap_of 1 row.rest)) e

-- the number of pairs that may follow the pairs taken is the number of characters without these pairs
pub pairs-left : (total size most left : ℕ) (old new : List ℕ) (before after : TextRead)
    → octets_then old before ≡ octets_then new after
    → length new + left ≡ length old + most
    → total + most ≡ length before.octets + size
    → total + left ≡ length after.octets + size
pairs-left total size most left old new before after read count i =
    omega (
      arith,
      ap (λ (r : TextRead). length r.octets) read,
      length-append old before.octets,
      length-append new after.octets,
      count,
      i,
    )

-- pairs are read, and others remain
pub some-read : (left : ℕ) (gap : Gap) (rest digits : List ℕ) (read : TextRead)
    → read ≡ octets_then (pair_octets digits) (pairs_after left gap rest)
    → read.octets ≡ octets_repeated 1 (pair_octets digits) ++ (pairs_after left gap rest).octets
some-read left gap rest digits read e =
    ap (λ (r : TextRead). r.octets) e
    ∙ ap (λ (t : List ℕ). t ++ (pairs_after left gap rest).octets) (sym (append-nil (pair_octets digits)))
