-- What an input is taken for, case by case.
use Rattle.std.proofs.Common.{◌≡◌, ◌==◌, List, [], ◌∷◌, Option, ℕ, true, false, ap, length, map}
use Rattle.std.proofs.Common.{subst, sym, unwrap_or, ◌∙◌}
use Rattle.std.proofs.lemmas.Bool.{eqb-true}
use Rattle.std.proofs.lemmas.List.{nil_from_length}
use Rattle.tlv_text.specs.Private.Counting.{or_octets}
use Rattle.tlv_text.specs.Taken.{AreEncodings, AreFirstBlocks, AreSurelyEncodings, HasBlocks, IsFirstTooLong}
use Rattle.tlv_text.specs.Taken.{IsTakenFor, IsTooLongText, TakenValue, TextBlocks, TextTooLong}
use Rattle.tlv_text.specs.Taken.{all_forms, has_controls, is_other_text, taken_other_text, taken_value, text_of}
use Rattle.tlv_text.specs.declared.taken.Taken.{Taken}
use Rattle.tlv_text.specs.Marks.{after_mark, ascii_of_utf16}

-- the characters of an input
pub text-is : (octets text : List ℕ) (ascii : Option (List ℕ)) → text ≡ unwrap_or ascii (after_mark octets)
    → ascii ≡ ascii_of_utf16 octets → text ≡ text_of octets
text-is octets text ascii is are =
    is ∙ ap (λ (characters : Option (List ℕ)). unwrap_or characters (after_mark octets)) are

-- there are no blocks
pub none-taken : (n : ℕ) (ts : List Taken) → n ≡ length ts → (n == 0) ≡ true → ts ≡ []
none-taken n ts size none = let zero : n ≡ 0 = eqb-true n 0 none in nil_from_length ts (sym size ∙ zero)

module _ (octets text : List ℕ) (is : text ≡ text_of octets) where
  pub control-taken : (ts : List Taken) → ts ≡ [] → has_controls text ≡ true
      → IsTakenFor octets (or_octets octets (map taken_value ts))
  control-taken ts none control = rw none (IsTakenFor.control (rw is at control))

  module _ (no_control : has_controls text ≡ false) (ts : List Taken)
      (first : AreFirstBlocks (TextBlocks 3) text all_forms (map taken_value ts)) where
    -- the blocks of the text
    has-blocks : TextBlocks 4 octets (map taken_value ts)
    has-blocks =
        HasBlocks.text (rw is at no_control)
        (subst (λ (t : List ℕ). AreFirstBlocks (TextBlocks 3) t all_forms (map taken_value ts)) is first)

    -- no block counts
    none-counts : ts ≡ [] → TextBlocks 4 octets []
    none-counts none = subst (λ (us : List Taken). TextBlocks 4 octets (map taken_value us)) none has-blocks

    pub sound-taken : ts ≡ [] → AreEncodings octets → IsTakenFor octets (or_octets octets (map taken_value ts))
    sound-taken none encodings =
        subst (λ (us : List Taken). IsTakenFor octets (or_octets octets (map taken_value us))) (sym none)
        (IsTakenFor.sound (none-counts none) encodings)

    pub other-taken : (all : List Taken) (t : Taken) → ts ≡ [] → (AreEncodings octets → ⊥)
        → is_other_text text ≡ true → all ≡ t ∷ [] → taken_value t ≡ taken_other_text text
        → IsTakenFor octets (or_octets octets (map taken_value all))
    other-taken all t none unsound other one value =
        let are : map taken_value all ≡ taken_other_text (text_of octets) ∷ [] =
        ap (map taken_value) one
        ∙ ap (λ (u : TakenValue). u ∷ []) value
        ∙ ap (λ (characters : List ℕ). taken_other_text characters ∷ []) is in
        subst (λ (us : List TakenValue). IsTakenFor octets (or_octets octets us)) (sym are)
        (IsTakenFor.other_text (none-counts none) unsound (rw is at other))

    pub no_text-taken : ts ≡ [] → is_other_text text ≡ false
        → IsTakenFor octets (or_octets octets (map taken_value ts))
    no_text-taken none other =
        subst (λ (us : List Taken). IsTakenFor octets (or_octets octets (map taken_value us))) (sym none)
        (IsTakenFor.no_text (none-counts none) (rw is at other))

-- sound encodings are taken for octets, also if a text of a form is in them
pub surely-taken : (octets : List ℕ) (ts : List Taken) → ts ≡ [] → AreSurelyEncodings octets
    → IsTakenFor octets (or_octets octets (map taken_value ts))
surely-taken octets ts none surely = rw none (IsTakenFor.surely_sound surely)

-- a block counts
pub text-taken : (octets text : List ℕ) → text ≡ text_of octets → has_controls text ≡ false
    → (AreSurelyEncodings octets → ⊥) → (ts : List Taken)
    → AreFirstBlocks (TextBlocks 3) text all_forms (map taken_value ts) → (n : ℕ) → n ≡ length ts → (n == 0) ≡ false
    → IsTakenFor octets (or_octets octets (map taken_value ts))
text-taken octets text is no_control unsure [] first n size some = absurd (cc (ap (λ (k : ℕ). k == 0) size, some))
text-taken octets text is no_control unsure (t ∷ ts) first n size some =
    IsTakenFor.text unsure
    (HasBlocks.text (rw is at no_control)
    (subst (λ (characters : List ℕ). AreFirstBlocks (TextBlocks 3) characters all_forms (map taken_value (t ∷ ts))) is
    first))

-- a block is too long
pub too_long-taken : (octets text : List ℕ) → text ≡ text_of octets → has_controls text ≡ false
    → (AreSurelyEncodings octets → ⊥) → IsFirstTooLong (TextBlocks 3) (TextTooLong 3) text all_forms
    → IsTooLongText octets
too_long-taken octets text is no_control unsure long = record {
  unsure = unsure;
  text = record {
    no_control = rw is at no_control;
    first = subst (λ (t : List ℕ). IsFirstTooLong (TextBlocks 3) (TextTooLong 3) t all_forms) is long;
  };
}
