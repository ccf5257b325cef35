-- Stretches of symbols, and where a run begins.
use Rattle.std.proofs.Common.{◌≡◌, ℕ, zero, suc, ◌+◌, ◌-◌, ◌==◌, ◌<◌, ◌≤◌, Bool, true, false, List, [], ◌∷◌}
use Rattle.std.proofs.Common.{length, take, drop, slice_index, refl, ap, sym}
use Rattle.std.proofs.Common.{◌∙◌, ◌⊎◌, inl, inr, arith, subst}
use Rattle.std.specs.Prelude.{max}
use Rattle.std.proofs.lemmas.Bool.{cases_order, eqb-true, or_cases}
use Rattle.std.proofs.lemmas.List.{drop-drop, drop_all, length-drop, length-take-le, take-append-drop}
use Rattle.tlv_text.proofs.Slices.{from-on, slice_from}
use Rattle.tlv_text.specs.Base64.{is_symbol}
use Rattle.tlv_text.specs.Runs.{HasNoRun, IsAfterNoSymbol, IsFirstRun, break_size, is_run_blank, leading_symbols}
use Rattle.tlv_text.specs.Runs.{padding_size, stretch_after, stretch_size}
use Rattle.tlv_text.specs.declared.base64_text.Alphabet.TheVariants.{Standard}

-- ---- a stretch, while it is read

-- this is left of the stretch with which a text begins
pub record IsStretchSoFar (text rest : List ℕ) : Type 0 where
  pub size_of : stretch_size text + length rest ≡ length text + stretch_size rest
  pub within : length rest ≤ length text

-- behind a break
after-break-size : (n : ℕ) (text : List ℕ) → n ≤ length text → stretch_after n text ≡ n + stretch_size (drop n text)
after-break-size zero text within = omega arith
after-break-size (suc n) [] within = absurd (omega arith)
after-break-size (suc n) (x ∷ text) within = omega (arith, after-break-size n text (omega arith))

symbol-begins : (x : ℕ) (more : List ℕ) → is_symbol Standard x ≡ true
    → stretch_size (x ∷ more) ≡ 1 + stretch_after (break_size more) more
symbol-begins x more e = rw e refl

pub stretch-more : (text rest : List ℕ) (n : ℕ) → 1 ≤ length rest
    → is_symbol Standard (slice_index rest 0) ≡ true
    → n ≡ break_size (slice_from 1 rest) → n ≤ length (slice_from 1 rest)
    → IsStretchSoFar text rest → IsStretchSoFar text (slice_from n (slice_from 1 rest))
stretch-more text [] n one e b within i = absurd (omega arith)
stretch-more text (x ∷ more) n one e b within i =
    let on : slice_from 1 (x ∷ more) ≡ more = from-on 1 (x ∷ more) in
    let fits : n ≤ length more = rw on at within in
    let size : n ≡ break_size more = b ∙ ap break_size on in
    let all : slice_from n (slice_from 1 (x ∷ more)) ≡ drop n more =
    from-on n (slice_from 1 (x ∷ more)) ∙ ap (drop n) on in
    let begins : stretch_size (x ∷ more) ≡ 1 + stretch_after n more =
    symbol-begins x more e ∙ ap (λ (k : ℕ). 1 + stretch_after k more) (sym size) in
    subst (IsStretchSoFar text) (sym all) (record {
      size_of = omega (arith, i.size_of, begins, after-break-size n more fits, length-drop n more, fits);
      within = omega (arith, i.within, length-drop n more, fits);
    })

-- ---- symbols and breaks

is_true_or : (b : Bool) → (b ≡ true) ⊎ (b ≡ false)
is_true_or true = inl refl
is_true_or false = inr refl

blank-clear : (x : ℕ) → is_run_blank x ≡ true → is_symbol Standard x ≡ false
blank-clear x e =
    elim (or_cases (x == 32) (x == 9) e) [
      | inl space ↦ rw (eqb-true x 32 space) refl
      | inr tab ↦ rw (eqb-true x 9 tab) refl
    ]

symbol-counts : (x : ℕ) (more : List ℕ) → is_symbol Standard x ≡ true
    → leading_symbols (x ∷ more) ≡ 1 + leading_symbols more
symbol-counts x more e = rw e refl

other-counts : (x : ℕ) (more : List ℕ) → is_symbol Standard x ≡ false → leading_symbols (x ∷ more) ≡ 0
other-counts x more e = rw e refl

-- fewer symbols are left inside
inside-fewer : (text : List ℕ) (k : ℕ) → k < leading_symbols text
    → leading_symbols (drop k text) + k ≡ leading_symbols text
inside-fewer text zero less = omega arith
inside-fewer [] (suc k) less = absurd (omega arith)
inside-fewer (x ∷ text) (suc k) less =
    elim (is_true_or (is_symbol Standard x)) [
      | inl e ↦ omega (
        arith,
        symbol-counts x text e,
        inside-fewer text k (omega (arith, less, symbol-counts x text e)),
      )
      | inr e ↦ absurd (omega (arith, less, other-counts x text e))
    ]

-- ---- where the first run begins

-- at no place before this one do many symbols begin
abbrev pub NoRunBefore : List ℕ → ℕ → Type 0
NoRunBefore text n = (k : ℕ) → k < n → leading_symbols (drop k text) < 40

pub no-run : (text : List ℕ) (start : ℕ) → length text ≤ start → NoRunBefore text start → HasNoRun text
no-run text start all before k =
    elim (cases_order k start) [
      | inl same ↦ past (omega (arith, same, all))
      | inr (inl less) ↦ before k less
      | inr (inr more) ↦ past (omega (arith, more, all))
    ]
  where
    past : length text ≤ k → leading_symbols (drop k text) < 40
    past out = rw (drop_all k text out) (omega arith)

-- no run begins among few symbols
pub no-run-inside : (text : List ℕ) (start count more : ℕ) → count ≡ leading_symbols (slice_from start text)
    → count < 40 → more ≡ max count 1 → NoRunBefore text start → NoRunBefore text (start + more)
no-run-inside text start count more s short m before k less =
    let here : count ≡ leading_symbols (drop start text) = rw (from-on start text) at s in
    elim (cases_order k start) [
      | inl same ↦ rw same (omega (arith, here, short))
      | inr (inl down) ↦ before k down
      | inr (inr up) ↦
          let at : drop (k - start) (drop start text) ≡ drop k text =
          drop-drop (k - start) start text ∙ ap (λ (n : ℕ). drop n text) (omega (arith, up)) in
          let inside = inside-fewer (drop start text) (k - start) (omega (arith, less, up, here, m)) in
          let fewer : leading_symbols (drop k text) + (k - start) ≡ leading_symbols (drop start text) = rw at at inside in
          omega (arith, fewer, here, short)
    ]

pub size-within : (text : List ℕ) (start size more : ℕ) → start < length text
    → size ≤ length (slice_from start text) → more ≡ max size 1 → start + more ≤ length text
size-within text start size more less within m =
    omega (arith, less, m, rw (from-on start text) at within, length-drop start text)

-- ---- a run is not after a symbol

pub no-break : (text : List ℕ) → is_symbol Standard (slice_index text 0) ≡ true → break_size text ≡ 0
no-break [] e = refl
no-break (x ∷ text) e = cases (is_run_blank x) (x == 10) (x == 13) (x == 38) (x == 92) refl refl refl refl refl
  where
    cases : (blank feed return reference escape : Bool) → is_run_blank x ≡ blank → (x == 10) ≡ feed → (x == 13) ≡ return
        → (x == 38) ≡ reference → (x == 92) ≡ escape → break_size (x ∷ text) ≡ 0
    cases true feed return reference escape b f r a s = cc (e, blank-clear x b)
    cases false true return reference escape b f r a s = let wrong = rw (eqb-true x 10 f) at e in cc wrong
    cases false false true reference escape b f r a s = let wrong = rw (eqb-true x 13 r) at e in cc wrong
    cases false false false true escape b f r a s = let wrong = rw (eqb-true x 38 a) at e in cc wrong
    cases false false false false true b f r a s = let wrong = rw (eqb-true x 92 s) at e in cc wrong
    cases false false false false false b f r a s = rw (b, f, r, a, s) refl

pub run-alone : (text : List ℕ) (start : ℕ) → 40 ≤ leading_symbols (drop start text) → NoRunBefore text start
    → IsAfterNoSymbol text start
run-alone text zero long before = tt
run-alone [] (suc k) long before = absurd (omega (arith, long))
run-alone (x ∷ text) (suc zero) long before =
    elim (is_true_or (is_symbol Standard x)) [
      | inl e ↦ absurd (omega (arith, before 0 (omega arith), symbol-counts x text e, long))
      | inr e ↦ e
    ]
run-alone (x ∷ text) (suc (suc k)) long before =
    run-alone text (suc k) long (λ j less. before (suc j) (omega (arith, less)))

-- ---- a run is found

found : (text run rest : List ℕ) (start size padding : ℕ) → NoRunBefore text start
    → size ≡ stretch_size (drop start text) → size ≤ length (drop start text)
    → 40 ≤ leading_symbols (drop start text)
    → padding ≡ padding_size (drop size (drop start text)) → padding ≤ length (drop size (drop start text))
    → run ≡ take (size + padding) (drop start text) → rest ≡ drop (size + padding) (drop start text)
    → IsFirstRun text start run rest
found text run rest start size padding before s within long p fits front back = record {
  spelled = sym (take-append-drop (size + padding) (drop start text)) ∙ cc (front, back);
  long = long;
  size = ap (λ (t : List ℕ). length t) front
      ∙ length-take-le (size + padding) (drop start text)
      (omega (arith, within, fits, length-drop size (drop start text)))
      ∙ ap (λ (n : ℕ). size + n) p
      ∙ ap (λ (n : ℕ). n + padding_size (drop n (drop start text))) s;
  alone = run-alone text start long before;
  no_sooner = before;
}

pub run-found : (text run rest : List ℕ) (start size padding : ℕ) → NoRunBefore text start
    → size ≡ stretch_size (slice_from start text) → size ≤ length (slice_from start text)
    → 40 ≤ leading_symbols (slice_from start text)
    → padding ≡ padding_size (slice_from size (slice_from start text))
    → padding ≤ length (slice_from size (slice_from start text))
    → run ≡ take (size + padding) (slice_from start text) → rest ≡ drop (size + padding) (slice_from start text)
    → IsFirstRun text start run rest
run-found text run rest start size padding before s within long p fits front back =
    let on = from-on start text in
    let behind = from-on size (slice_from start text) ∙ ap (drop size) on in
    found text run rest start size padding before (rw on at s) (rw on at within) (rw on at long)
    (rw behind at p) (rw behind at fits) (rw on at front) (rw on at back)
