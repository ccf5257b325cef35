-- What the blocks of a text count as, form by form.
use Rattle.std.proofs.Common.{◌≡◌, ◌==◌, ◌+◌, ◌-◌, ◌<◌, ◌≤◌, ◌≢◌, List, [], ◌∷◌, ℕ, zero, suc, true, false}
use Rattle.std.proofs.Common.{◌∙◌, ◌⊎◌, ⊎_elim, add-one, ap, arith, drop, filter, get_or}
use Rattle.std.proofs.Common.{if◌then◌else◌, length, map, refl, subst, sym}
use Rattle.std.specs.List.{All}
use Rattle.std.proofs.Math.Seq.{drop-cons}
use Rattle.std.proofs.lemmas.Bool.{cases_Bool, eqb-true}
use Rattle.std.proofs.lemmas.List.{drop_all}
use Rattle.tlv_text.specs.Private.Counting.{IsBounded, IsDumpCount, IsFittingForm, is_kept}
use Rattle.tlv_text.specs.Taken.{AreFirstBlocks, BlocksCount, BlocksTooLong, HasBlocks}
use Rattle.tlv_text.specs.Taken.{IsFirstTooLong, IsMemoryOr, TakenValue, TextBlocks}
use Rattle.tlv_text.specs.Taken.{TextTooLong, all_forms, has_controls, taken_as, taken_value, text_of}
use Rattle.tlv_text.proofs.CountingLemmas.{first-fault}
use Rattle.tlv_text.specs.declared.taken.Taken.{Taken}
use Rattle.tlv_text.specs.declared.taken.TakenFor.TheVariants.{Text}
use Rattle.tlv_text.specs.Blocks.{AreBlocks, BlockValue, IsBlocksFault}
use Rattle.tlv_text.specs.Blocks.{are_too_long}
use Rattle.tlv_text.specs.declared.block.Form.{Form}
use Rattle.tlv_text.specs.declared.block.Form.TheVariants.{Pem, Dump, Hex, Numbers}
use Rattle.tlv_text.specs.declared.text_fault.TextFault.{TextFault}

-- what is bounded is bounded more loosely
pub more-bounded : (n : ℕ) (ts : List Taken) → All (IsBounded 1) ts → All (IsBounded (n + 1)) ts
more-bounded n ts bounded = λ k d h. let was = bounded k d h in record {
  few = omega (arith, was.few);
  within = was.within;
}

-- a text has one block in each form but PEM and runs of base64
pub blocks-fitting : (text : List ℕ) (form : Form) (bs : List BlockValue) → AreBlocks text form bs
    → IsFittingForm form bs
blocks-fitting text form bs (AreBlocks.pem are) = tt
blocks-fitting text form bs AreBlocks.dump = refl
blocks-fitting text form bs AreBlocks.hex = refl
blocks-fitting text form bs AreBlocks.numbers = refl
blocks-fitting text form bs (AreBlocks.base64 is) = refl
blocks-fitting text form bs (AreBlocks.runs are) = tt

module _ (Inner : List ℕ → List TakenValue → Type 0) where
  -- ---- forms of which each block counts for itself

  -- the only block, if it is kept
  kept-one : (form : Form) (b : BlockValue)
      → map (taken_as (Text form)) (filter (is_kept form) (b ∷ []))
      ≡ (if is_kept form b then taken_as (Text form) b ∷ [] else [])
  kept-one form b =
      ⊎_elim
      (λ (e : is_kept form b ≡ true). rw e)
      (λ (e : is_kept form b ≡ false). rw e)
      (cases_Bool (is_kept form b))

  pem-count : (bs : List BlockValue) (ts : List TakenValue)
      → ts ≡ map (taken_as (Text Pem)) (filter (is_kept Pem) bs) → BlocksCount Inner Pem bs ts
  pem-count bs ts are = subst (λ (us : List TakenValue). BlocksCount Inner Pem bs us) (sym are) BlocksCount.pem

  pub hex-count : (bs : List BlockValue) (ts : List TakenValue) → length bs ≡ 1
      → ts ≡ map (taken_as (Text Hex)) (filter (is_kept Hex) bs) → BlocksCount Inner Hex bs ts
  hex-count [] ts one are = absurd (omega (arith, one))
  hex-count (b ∷ []) ts one are =
      subst (λ (us : List TakenValue). BlocksCount Inner Hex (b ∷ []) us) (sym (are ∙ kept-one Hex b)) BlocksCount.hex
  hex-count (b ∷ c ∷ bs) ts one are = absurd (omega (arith, one))

  pub numbers-count : (bs : List BlockValue) (ts : List TakenValue) → length bs ≡ 1
      → ts ≡ map (taken_as (Text Numbers)) (filter (is_kept Numbers) bs) → BlocksCount Inner Numbers bs ts
  numbers-count [] ts one are = absurd (omega (arith, one))
  numbers-count (b ∷ []) ts one are =
      subst (λ (us : List TakenValue). BlocksCount Inner Numbers (b ∷ []) us) (sym (are ∙ kept-one Numbers b))
      BlocksCount.numbers
  numbers-count (b ∷ c ∷ bs) ts one are = absurd (omega (arith, one))

  pub kept-count : (form : Form) (bs : List BlockValue) (ts : List TakenValue)
      → (form ≡ Pem) ⊎ ((form ≡ Hex) ⊎ (form ≡ Numbers)) → IsFittingForm form bs
      → ts ≡ map (taken_as (Text form)) (filter (is_kept form) bs) → BlocksCount Inner form bs ts
  kept-count form bs ts is fitting are =
      ⊎_elim (λ (e : form ≡ Pem). rw e (pem-count bs ts (rw e at are)))
      (⊎_elim (λ (e : form ≡ Hex). rw e (hex-count bs ts (rw e at fitting) (rw e at are)))
      (λ (e : form ≡ Numbers). rw e (numbers-count bs ts (rw e at fitting) (rw e at are))))
      is

  -- ---- a dump

  dump-count : (bs : List BlockValue) (ts : List TakenValue) → IsDumpCount bs ts → BlocksCount Inner Dump bs ts
  dump-count _ _ (IsDumpCount.counted counts) = BlocksCount.dump counts

  pub dump-counted : (form : Form) (bs : List BlockValue) (ts : List TakenValue) → form ≡ Dump → IsDumpCount bs ts
      → BlocksCount Inner form bs ts
  dump-counted form bs ts is counts = rw is (dump-count bs ts counts)

  -- ---- the first form in which a block counts

  pub first-here : (text : List ℕ) (forms : List Form) (i : ℕ) (d : Form) (bs : List BlockValue) (ts : List Taken)
      (n : ℕ) → i < length forms → AreBlocks text (get_or forms i d) bs → are_too_long text bs ≡ false
      → BlocksCount Inner (get_or forms i d) bs (map taken_value ts) → n ≡ length ts → (n == 0) ≡ false
      → AreFirstBlocks Inner text (drop i forms) (map taken_value ts)
  first-here text forms i d bs [] n within are fit counts size some =
      absurd (cc (ap (λ (k : ℕ). k == 0) size, some))
  first-here text forms i d bs (t ∷ ts) n within are fit counts size some =
      subst (λ (fs : List Form). AreFirstBlocks Inner text fs (map taken_value (t ∷ ts)))
      (sym (drop-cons forms i d within))
      (AreFirstBlocks.here (record { are = are; fit = fit }) counts)

  pub first-later : (text : List ℕ) (forms : List Form) (i : ℕ) (d : Form) (bs : List BlockValue) (ts : List Taken)
      (n : ℕ) (others : List TakenValue) → i < length forms → AreBlocks text (get_or forms i d) bs
      → are_too_long text bs ≡ false → BlocksCount Inner (get_or forms i d) bs (map taken_value ts) → n ≡ length ts → (n == 0) ≡ true
      → AreFirstBlocks Inner text (drop (i + 1) forms) others → AreFirstBlocks Inner text (drop i forms) others
  first-later text forms i d bs [] n others within are fit counts size none rests =
      subst (λ (fs : List Form). AreFirstBlocks Inner text fs others) (sym (drop-cons forms i d within))
      (AreFirstBlocks.later (record { are = are; fit = fit }) counts (rw add-one at rests))
  first-later text forms i d bs (t ∷ ts) n others within are fit counts size none rests =
      let zero : n ≡ 0 = eqb-true n 0 none in absurd (omega (arith, size))

  pub first-none : (text : List ℕ) (forms : List Form) (i : ℕ) (ts : List Taken) → length forms ≤ i → ts ≡ []
      → AreFirstBlocks Inner text (drop i forms) (map taken_value ts)
  first-none text forms i ts all none =
      rw (drop_all i forms all, none) AreFirstBlocks.no_form

  -- ---- a form in which a text is too long

  module _ (Deep : List ℕ → Type 0) where
    -- the next form that is tried
    pub long-here : (text : List ℕ) (forms : List Form) (i : ℕ) (d : Form) (fault : TextFault) → i < length forms
        → IsBlocksFault text (get_or forms i d) fault
        → IsMemoryOr (IsFirstTooLong Inner Deep text (drop i forms)) fault
    long-here text forms i d fault within wrong =
        subst (λ (fs : List Form). IsMemoryOr (IsFirstTooLong Inner Deep text fs) fault)
        (sym (drop-cons forms i d within))
        (first-fault Inner Deep text (get_or forms i d) (drop (suc i) forms) fault wrong)

    pub long-inside : (text : List ℕ) (forms : List Form) (i : ℕ) (d : Form) (bs : List BlockValue)
        → i < length forms → AreBlocks text (get_or forms i d) bs → are_too_long text bs ≡ false
        → BlocksTooLong Inner Deep (get_or forms i d) bs → IsFirstTooLong Inner Deep text (drop i forms)
    long-inside text forms i d bs within are fit long =
        subst (λ (fs : List Form). IsFirstTooLong Inner Deep text fs) (sym (drop-cons forms i d within))
        (IsFirstTooLong.inside (record { are = are; fit = fit }) long)

    pub long-later : (text : List ℕ) (forms : List Form) (i : ℕ) (d : Form) (bs : List BlockValue) (ts : List Taken)
        (n : ℕ) → i < length forms → AreBlocks text (get_or forms i d) bs → are_too_long text bs ≡ false
        → BlocksCount Inner (get_or forms i d) bs (map taken_value ts) → n ≡ length ts → (n == 0) ≡ true
        → IsFirstTooLong Inner Deep text (drop (i + 1) forms) → IsFirstTooLong Inner Deep text (drop i forms)
    long-later text forms i d bs [] n within are fit counts size none long =
        subst (λ (fs : List Form). IsFirstTooLong Inner Deep text fs) (sym (drop-cons forms i d within))
        (IsFirstTooLong.later (record { are = are; fit = fit }) counts (rw add-one at long))
    long-later text forms i d bs (t ∷ ts) n within are fit counts size none long =
        let zero : n ≡ 0 = eqb-true n 0 none in absurd (omega (arith, size))

    -- in a form that is tried alone
    pub only-long : (text : List ℕ) (form : Form) (forms : List Form) → IsFirstTooLong Inner Deep text (form ∷ [])
        → IsFirstTooLong Inner Deep text (form ∷ forms)
    only-long text form forms (IsFirstTooLong.here are long) = IsFirstTooLong.here are long
    only-long text form forms (IsFirstTooLong.inside are long) = IsFirstTooLong.inside are long
    only-long text form forms (IsFirstTooLong.later are counts long) = elim long [ ]

-- the blocks of what is base64 in a text
pub inner-control : (layers : ℕ) (octets text : List ℕ) (ts : List Taken) → layers ≢ 0 → text ≡ text_of octets
    → has_controls text ≡ true → ts ≡ [] → TextBlocks layers octets (map taken_value ts)
inner-control zero octets text ts some is control none = absurd (some refl)
inner-control (suc layers) octets text ts some is control none = rw none (HasBlocks.control (rw is at control))

pub inner-text : (layers : ℕ) (octets text : List ℕ) (ts : List TakenValue) → layers ≢ 0 → text ≡ text_of octets
    → has_controls text ≡ false → AreFirstBlocks (TextBlocks (layers - 1)) text all_forms ts
    → TextBlocks layers octets ts
inner-text zero octets text ts some is no_control are = absurd (some refl)
inner-text (suc layers) octets text ts some is no_control are =
    let less : suc layers - 1 ≡ layers = omega arith in
    HasBlocks.text (rw is at no_control)
    (subst (λ (t : List ℕ). AreFirstBlocks (TextBlocks layers) t all_forms ts) is
    (subst (λ (k : ℕ). AreFirstBlocks (TextBlocks k) text all_forms ts) less are))

pub inner-long : (layers : ℕ) (octets text : List ℕ) → layers ≢ 0 → text ≡ text_of octets
    → has_controls text ≡ false
    → IsFirstTooLong (TextBlocks (layers - 1)) (TextTooLong (layers - 1)) text all_forms → TextTooLong layers octets
inner-long zero octets text some is no_control long = absurd (some refl)
inner-long (suc layers) octets text some is no_control long =
    let less : suc layers - 1 ≡ layers = omega arith in record {
      no_control = rw is at no_control;
      first = subst (λ (t : List ℕ). IsFirstTooLong (TextBlocks layers) (TextTooLong layers) t all_forms) is
          (subst (λ (k : ℕ). IsFirstTooLong (TextBlocks k) (TextTooLong k) text all_forms) less long);
    }
