-- Blocks of PEM, and where their markers are.
use Rattle.std.proofs.Common.{◌≡◌, ◌⊎◌, ℕ, zero, suc, ◌+◌, ◌-◌, ◌==◌, ◌&&◌, true, false, ◌∷◌, ◌<◌, ◌≤◌, List, [], ◌++◌, length, take, drop, slice_index, refl, ap, sym}
use Rattle.std.proofs.Common.{◌∙◌, inl, inr, subst, arith, Option, Some, None}
use Rattle.std.proofs.lemmas.Bool.{and_parts, cases_order, eqb-true, not-true}
use Rattle.std.proofs.Math.Seq.{drop-append_seam, get_or-append_seam, take-append_seam}
use Rattle.std.specs.Prelude.{unwrap_or}
use Rattle.std.specs.List.{list_all}
use Rattle.std.proofs.lemmas.List.{get_or-drop, length-append, length-drop, length-take-le, drop-drop, drop_all}
use Rattle.std.proofs.lemmas.List.{take-append-drop}
use Rattle.tlv_text.proofs.Slices.{from-on, slice_from}
use Rattle.memchr.specs.Find.{FindsNeedle, IsFirstByte, OccursAt, is_byte}
use Rattle.memchr.proofs.lemmas.MatchLemmas.{OccursAt-from_part, OccursAt-split}
use Rattle.tlv_text.specs.Pem.{BeginsBlock, EndsBody, HasNoBlock, IsFirstBlock, begin_marker, dashes}
use Rattle.tlv_text.specs.Pem.{is_label, is_label_character}
use Rattle.tlv_text.specs.Private.PemSteps.{BeginsLabel, BeginsNoLabel, begin_dashes}

from-or-before : (a b : ℕ) → (a ≤ b) ⊎ (b < a)
from-or-before a b =
    elim (cases_order a b) [
      | inl same ↦ inl (omega (arith, same))
      | inr (inl less) ↦ inl (omega (arith, less))
      | inr (inr more) ↦ inr more
    ]

-- ---- a body

-- five hyphens begin with one
pub no-dashes : (text : List ℕ) (n : ℕ) → IsFirstByte (is_byte 45) text (Some n)
    → (k : ℕ) → k < n → OccursAt text dashes k → ⊥
no-dashes text n found k less o =
    found.0.before k (omega arith) less
    (ap (λ (x : ℕ). x == 45) (ap (slice_index text) (omega arith) ∙ o.reads 0 (omega arith)))

pub no-dashes-at_all : (text : List ℕ) → IsFirstByte (is_byte 45) text None
    → (k : ℕ) → k < length text → OccursAt text dashes k → ⊥
no-dashes-at_all text none k less o =
    none k (omega arith) less
    (ap (λ (x : ℕ). x == 45) (ap (slice_index text) (omega arith) ∙ o.reads 0 (omega arith)))

-- where they are in the text after a place
dashes-later : (text : List ℕ) (start k : ℕ) → start ≤ k → OccursAt text dashes k
    → OccursAt (drop start text) dashes (k - start)
dashes-later text start k up o = record {
  fits = omega (arith, o.fits, up, length-drop start text);
  reads = λ j less.
      get_or-drop start text (k - start + j) 0
      ∙ ap (slice_index text) (omega (arith, up))
      ∙ o.reads j less;
}

dashes-sooner : (text : List ℕ) (start n : ℕ) → start ≤ length text → OccursAt (drop start text) dashes n
    → OccursAt text dashes (start + n)
dashes-sooner text start n within o = record {
  fits = omega (arith, o.fits, within, length-drop start text);
  reads = λ j less.
      ap (slice_index text) (omega arith)
      ∙ sym (get_or-drop start text (n + j) 0)
      ∙ o.reads j less;
}

none-sooner : (text : List ℕ) (start n k : ℕ) → ((k : ℕ) → k < start → OccursAt text dashes k → ⊥)
    → ((k : ℕ) → k < n → OccursAt (drop start text) dashes k → ⊥)
    → k < start + n → OccursAt text dashes k → ⊥
none-sooner text start n k before later less o =
    elim (from-or-before start k) [
      | inl up ↦ later (k - start) (omega (arith, up, less)) (dashes-later text start k up o)
      | inr down ↦ before k down o
    ]

-- a body that ends at five hyphens, of which none begin before a place
pub body-found : (after : List ℕ) (start n : ℕ) → start ≤ length after
    → ((k : ℕ) → k < start → OccursAt after dashes k → ⊥)
    → FindsNeedle (slice_from start after) dashes 0 (Some n)
    → EndsBody after (take (start + n) after) (drop (start + n) after)
body-found after start n within before f =
    let found = subst (λ t. FindsNeedle t dashes 0 (Some n)) (from-on start after) f in
    let here = dashes-sooner after start n within found.1 in
    let size : length (take (start + n) after) ≡ start + n = length-take-le (start + n) after (omega (arith, here.fits)) in
    record {
      spelled = sym (take-append-drop (start + n) after);
      no_sooner = λ k less.
          none-sooner after start n k before (λ i low. found.0.before i (omega arith) low) (omega (arith, less, size));
      end = inr (subst (OccursAt after dashes) (sym size) here);
    }

pub body-to_end : (after : List ℕ) (start : ℕ) → start ≤ length after
    → ((k : ℕ) → k < start → OccursAt after dashes k → ⊥)
    → FindsNeedle (slice_from start after) dashes 0 None
    → EndsBody after (take (length after) after) (drop (length after) after)
body-to_end after start within before n =
    let none = subst (λ t. FindsNeedle t dashes 0 None) (from-on start after) n in
    let size = length-drop start after in
    record {
      spelled = sym (take-append-drop (length after) after);
      no_sooner = λ k less.
          none-sooner after start (length after - start) k before
          (λ i low. none i (omega arith) (omega (arith, low, size)))
          (omega (arith, within, less, length-take-le (length after) after (omega arith)));
      end = inl (drop_all (length after) after (omega arith));
    }

-- ---- a label

no-hyphen : (x : ℕ) → is_label_character x ≡ true → (x == 45) ≡ false
no-hyphen x e = not-true (x == 45) (and_parts _ _ e).1

no-hyphen-at : (label more : List ℕ) (k : ℕ) → list_all is_label_character label ≡ true → k < length label
    → (slice_index (label ++ more) k == 45) ≡ false
no-hyphen-at [] more k all less = absurd (omega arith)
no-hyphen-at (x ∷ label) more zero all less = no-hyphen x (and_parts _ _ all).0
no-hyphen-at (x ∷ label) more (suc k) all less = no-hyphen-at label more k (and_parts _ _ all).1 (omega arith)

hyphen-after : (label more : List ℕ) → (slice_index (label ++ 45 ∷ more) (length label) == 45) ≡ true
hyphen-after label more = ap (λ (x : ℕ). x == 45) (get_or-append_seam label 45 more 0)

-- the first hyphen is behind the label
first-hyphen : (label more : List ℕ) (r : Option ℕ) → list_all is_label_character label ≡ true
    → IsFirstByte (is_byte 45) (label ++ 45 ∷ more) r → r ≡ Some (length label)
first-hyphen label more None all none =
    absurd (none (length label) (omega arith) (omega (arith, length-append label (45 ∷ more))) (hyphen-after label more))
first-hyphen label more (Some k) all found =
    elim (cases_order k (length label)) [
      | inl same ↦ ap Some same
      | inr (inl less) ↦ cc (sym (no-hyphen-at label (45 ∷ more) k all less) ∙ found.1)
      | inr (inr above) ↦ absurd (found.0.before (length label) (omega arith) above (hyphen-after label more))
    ]

label-characters : (label : List ℕ) → is_label label ≡ true → list_all is_label_character label ≡ true
label-characters label e = (and_parts _ _ (and_parts _ _ e).0).0

-- a label begins the text only up to its first hyphen
pub label-up_to_hyphen : (text label after : List ℕ) (r : Option ℕ) → text ≡ label ++ (dashes ++ after)
    → is_label label ≡ true → IsFirstByte (is_byte 45) text r → r ≡ Some (length label)
label-up_to_hyphen text label after r e has found =
    first-hyphen label (45 ∷ 45 ∷ 45 ∷ 45 ∷ after) r (label-characters label has)
    (subst (λ (t : List ℕ). IsFirstByte (is_byte 45) t r) e found)

pub no-label-without_hyphen : (text : List ℕ) → IsFirstByte (is_byte 45) text None → BeginsNoLabel text
no-label-without_hyphen text none label after e has = cc (label-up_to_hyphen text label after None e has none)

-- what is in front of the first hyphen is no label, or no five hyphens follow
pub no-label-at_hyphen : (text : List ℕ) (n : ℕ) → IsFirstByte (is_byte 45) text (Some n)
    → (is_label (take n text) && begin_dashes (drop n text)) ≡ false → BeginsNoLabel text
no-label-at_hyphen text n found not_both label after e has =
    let n_is : n ≡ length label =
    ap (λ (r : Option ℕ). unwrap_or r 0) (label-up_to_hyphen text label after (Some n) e has found) in
    let front : take n text ≡ label =
    ap (take n) e ∙ ap (λ (k : ℕ). take k (label ++ (dashes ++ after))) n_is ∙ take-append_seam label (dashes ++ after) in
    let back : drop n text ≡ dashes ++ after =
    ap (drop n) e ∙ ap (λ (k : ℕ). drop k (label ++ (dashes ++ after))) n_is ∙ drop-append_seam label (dashes ++ after) in
    let both : (is_label (take n text) && begin_dashes (drop n text)) ≡ true = rw (front, back, has) refl in
    cc (sym both ∙ not_both)

pub label-found : (text : List ℕ) (n : ℕ) → n ≤ length text
    → (is_label (take n text) && begin_dashes (drop n text)) ≡ true → BeginsLabel text n
label-found text n within both = record {
  within = within;
  has_label = (and_parts _ _ both).0;
  followed = (and_parts _ _ both).1;
}

-- ---- markers

dashes-split : (text : List ℕ) → begin_dashes text ≡ true → text ≡ dashes ++ drop 5 text
dashes-split [] e = cc e
dashes-split (a ∷ []) e = cc e
dashes-split (a ∷ b ∷ []) e = cc e
dashes-split (a ∷ b ∷ c ∷ []) e = cc e
dashes-split (a ∷ b ∷ c ∷ d ∷ []) e = cc e
dashes-split (a ∷ b ∷ c ∷ d ∷ x ∷ text) e =
    let p4 = and_parts _ _ e in
    let p3 = and_parts _ _ p4.0 in
    let p2 = and_parts _ _ p3.0 in
    let p1 = and_parts _ _ p2.0 in
    rw (
      eqb-true a 45 p1.0,
      eqb-true b 45 p1.1,
      eqb-true c 45 p2.1,
      eqb-true d 45 p3.1,
      eqb-true x 45 p4.1,
    ) refl

label-split : (text : List ℕ) (n : ℕ) → BeginsLabel text n → text ≡ take n text ++ (dashes ++ drop 5 (drop n text))
label-split text n b =
    sym (take-append-drop n text)
    ∙ ap (λ (t : List ℕ). take n text ++ t) (dashes-split (drop n text) b.followed)

-- no block begins before a place
abbrev pub NoneBefore_of : List ℕ → ℕ → Type 0
NoneBefore_of text n = (k : ℕ) → k < n → (label after : List ℕ) → BeginsBlock (drop k text) label after → ⊥

-- where a block begins there is its marker
begins-occurs : (text label after : List ℕ) (start k : ℕ) → start ≤ k → BeginsBlock (drop k text) label after
    → OccursAt (drop start text) begin_marker (k - start)
begins-occurs text label after start k up b =
    let same : drop (k - start) (drop start text) ≡ drop k text =
    drop-drop (k - start) start text ∙ ap (λ (n : ℕ). drop n text) (omega (arith, up)) in
    let size : length (drop k text) ≡ 11 + length (label ++ (dashes ++ after)) =
    ap length b.spelled ∙ length-append begin_marker (label ++ (dashes ++ after)) in
    OccursAt-from_part (drop start text) begin_marker (k - start)
    (omega (arith, up, size, length-drop k text, length-drop start text))
    (ap (take 11) (same ∙ b.spelled))

pub no-block : (text : List ℕ) (start : ℕ) → FindsNeedle (drop start text) begin_marker 0 None
    → NoneBefore_of text start → HasNoBlock text
no-block text start none before k label after b =
    elim (from-or-before start k) [
      | inl up ↦
          let o = begins-occurs text label after start k up b in
          none (k - start) (omega arith) (omega (arith, o.fits)) o
      | inr down ↦ before k down label after b
    ]

pub none-before_found : (text : List ℕ) (start more : ℕ) → FindsNeedle (drop start text) begin_marker 0 (Some more)
    → NoneBefore_of text start → NoneBefore_of text (start + more)
none-before_found text start more found before k less label after b =
    elim (from-or-before start k) [
      | inl up ↦
          found.0.before (k - start) (omega arith) (omega (arith, up, less))
          (begins-occurs text label after start k up b)
      | inr down ↦ before k down label after b
    ]

marker-split : (text : List ℕ) (start more : ℕ) → OccursAt (drop start text) begin_marker more
    → drop (start + more) text ≡ begin_marker ++ drop (start + more + 11) text
marker-split text start more o =
    sym (drop-drop more start text)
    ∙ OccursAt-split (drop start text) begin_marker more o
    ∙ ap (λ (t : List ℕ). begin_marker ++ t)
    (drop-drop (more + 11) start text ∙ ap (λ (n : ℕ). drop n text) (omega arith))

-- a marker without a label begins no block
pub none-before_next : (text : List ℕ) (start more : ℕ)
    → FindsNeedle (drop start text) begin_marker 0 (Some more)
    → NoneBefore_of text start → BeginsNoLabel (drop (start + more + 11) text)
    → NoneBefore_of text (start + more + 1)
none-before_next text start more found before no_label k less label after b =
    elim (cases_order k (start + more)) [
      | inl same ↦
          no_label label after
          (ap (drop 11) (sym (marker-split text start more found.1)
          ∙ ap (λ (n : ℕ). drop n text) (sym same) ∙ b.spelled)) b.has_label
      | inr (inl down) ↦ none-before_found text start more found before k down label after b
      | inr (inr up) ↦ absurd (omega (arith, up, less))
    ]

pub block-found : (text body rest : List ℕ) (start more n : ℕ)
    → FindsNeedle (drop start text) begin_marker 0 (Some more) → NoneBefore_of text start
    → BeginsLabel (drop (start + more + 11) text) n
    → EndsBody (drop 5 (drop n (drop (start + more + 11) text))) body rest
    → IsFirstBlock text (start + more) (take n (drop (start + more + 11) text)) body rest
block-found text body rest start more n found before b ends = record {
  after = _;
  begins = record {
    spelled = marker-split text start more found.1
        ∙ ap (λ (t : List ℕ). begin_marker ++ t) (label-split (drop (start + more + 11) text) n b);
    has_label = b.has_label;
  };
  ends = ends;
  no_sooner = none-before_found text start more found before;
}

-- ---- the same of slices

pub no-block-in : (text : List ℕ) (start : ℕ) → FindsNeedle (slice_from start text) begin_marker 0 None
    → NoneBefore_of text start → HasNoBlock text
no-block-in text start none before =
    no-block text start (subst (λ t. FindsNeedle t begin_marker 0 None) (from-on start text) none) before

pub none-before_next_in : (text : List ℕ) (start more : ℕ)
    → FindsNeedle (slice_from start text) begin_marker 0 (Some more)
    → NoneBefore_of text start → BeginsNoLabel (slice_from (start + more + 11) text)
    → NoneBefore_of text (start + more + 1)
none-before_next_in text start more found before no_label =
    none-before_next text start more (subst (λ t. FindsNeedle t begin_marker 0 (Some more)) (from-on start text) found)
    before (subst BeginsNoLabel (from-on (start + more + 11) text) no_label)

pub marker-within : (text : List ℕ) (start more : ℕ) → FindsNeedle (slice_from start text) begin_marker 0 (Some more)
    → start + more + 11 ≤ length text
marker-within text start more found =
    let o = subst (λ t. FindsNeedle t begin_marker 0 (Some more)) (from-on start text) found in
    omega (arith, o.1.fits, length-drop start text)

pub block-found-in : (text label after body rest : List ℕ) (start more n : ℕ)
    → FindsNeedle (slice_from start text) begin_marker 0 (Some more) → NoneBefore_of text start
    → BeginsLabel (slice_from (start + more + 11) text) n
    → label ≡ take n (slice_from (start + more + 11) text) → after ≡ drop n (slice_from (start + more + 11) text)
    → EndsBody (slice_from 5 after) body rest → IsFirstBlock text (start + more) label body rest
block-found-in text label after body rest start more n found before b l a ends =
    let on = from-on (start + more + 11) text in
    subst (λ x. IsFirstBlock text (start + more) x body rest) (sym (l ∙ ap (take n) on))
    (block-found text body rest start more n
    (subst (λ t. FindsNeedle t begin_marker 0 (Some more)) (from-on start text) found) before
    (subst (λ t. BeginsLabel t n) on b)
    (subst (λ t. EndsBody t body rest) (from-on 5 after ∙ ap (drop 5) (a ∙ ap (drop n) on)) ends))

-- five hyphens are behind the label
pub dashes-within : (text after : List ℕ) (n : ℕ) → BeginsLabel text n → after ≡ drop n text → 5 ≤ length after
dashes-within text after n b a =
    let size = ap length (a ∙ dashes-split (drop n text) b.followed) in
    omega (arith, size, length-append dashes (drop 5 (drop n text)))
