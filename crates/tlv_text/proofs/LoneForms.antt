-- What a text that is hexadecimal or base64 alone is taken for.
use Rattle.std.proofs.Common.{◌≡◌, ◌==◌, List, [], ◌∷◌, ℕ, Bool, true, false, ◌∙◌, ap, arith, length, map, None, refl}
use Rattle.std.proofs.Common.{if◌then◌else◌, subst, sym}
use Rattle.std.proofs.lemmas.Bool.{eqb-true, le-ltb}
use Rattle.std.specs.Prelude.{nat_lt}
use Rattle.tlv_text.specs.Private.Counting.{is_kept}
use Rattle.tlv_text.specs.Taken.{AreFirstBlocks, AreFittingBlocks, BlocksCount, BlocksTooLong, Counts, DumpCounts}
use Rattle.tlv_text.specs.Taken.{HoldsTooLong, IsFirstTooLong, TakenValue, all_forms, is_complete, is_ended, taken_as}
use Rattle.tlv_text.specs.Taken.{taken_value}
use Rattle.tlv_text.specs.declared.taken.Taken.{Taken}
use Rattle.tlv_text.specs.declared.taken.TakenFor.TheVariants.{Text}
use Rattle.tlv_text.proofs.FormLemmas.{hex-count, numbers-count, only-long}
use Rattle.tlv_text.specs.Blocks.{AreBlocks, ArePemBlocks, BlockValue, IsBase64Alone, IsHexAlone, absent_block}
use Rattle.tlv_text.specs.Blocks.{dump_block, numbers_block}
use Rattle.tlv_text.specs.Dump.{dump_read, text_limit}
use Rattle.tlv_text.specs.Numbers.{numbers_read}
use Rattle.tlv_text.specs.Pem.{HasNoBlock}
use Rattle.tlv_text.specs.TextRead.{refused_with}
use Rattle.tlv_text.specs.declared.block.Form.{Form}
use Rattle.tlv_text.specs.declared.block.Form.TheVariants.{Base64, Pem, Dump, Hex, Numbers, Runs}

-- no octets are not too many
nothing-fits : (text : List ℕ) → nat_lt (text_limit text) 0 ≡ false
nothing-fits text = le-ltb (text_limit text) 0 (omega arith)

module _ (Inner : List ℕ → List TakenValue → Type 0) where
  -- ---- forms that are passed over

  -- what the blocks of a text in one form count as
  data OnlyForm (text : List ℕ) (form : Form) (ts : List TakenValue) : Type 0 where
    counted : (bs : List BlockValue) → AreFittingBlocks text form bs → BlocksCount Inner form bs ts
        → OnlyForm text form ts

  only-form : (text : List ℕ) (form : Form) (ts : List TakenValue) → AreFirstBlocks Inner text (form ∷ []) ts
      → OnlyForm text form ts
  only-form text form ts (AreFirstBlocks.here are counts) = OnlyForm.counted _ are counts
  only-form text form ts (AreFirstBlocks.later are counts AreFirstBlocks.no_form) = OnlyForm.counted _ are counts

  pass : (text : List ℕ) (form : Form) (forms : List Form) (ts : List TakenValue) → OnlyForm text form []
      → AreFirstBlocks Inner text forms ts → AreFirstBlocks Inner text (form ∷ forms) ts
  pass text form forms ts (OnlyForm.counted bs are counts) rests = AreFirstBlocks.later are counts rests

  pass-long : (Deep : List ℕ → Type 0) (text : List ℕ) (form : Form) (forms : List Form) → OnlyForm text form []
      → IsFirstTooLong Inner Deep text forms → IsFirstTooLong Inner Deep text (form ∷ forms)
  pass-long Deep text form forms (OnlyForm.counted bs are counts) long = IsFirstTooLong.later are counts long

  no-blocks : (text : List ℕ) (form : Form) (ts : List Taken) (n : ℕ) → OnlyForm text form (map taken_value ts)
      → n ≡ length ts → (n == 0) ≡ true → OnlyForm text form []
  no-blocks text form [] n only size none = only
  no-blocks text form (t ∷ ts) n only size none =
      let zero : n ≡ 0 = eqb-true n 0 none in absurd (omega (arith, size))

  -- a text without PEM
  no-pem : (text : List ℕ) → HasNoBlock text → OnlyForm text Pem []
  no-pem text none =
      OnlyForm.counted (absent_block ∷ []) (record {
        are = AreBlocks.pem (ArePemBlocks.no_more none);
        fit = nothing-fits text;
      })
      BlocksCount.pem

  -- a text without a row of a dump
  no-dump : (text : List ℕ) → dump_read text ≡ refused_with 0 → OnlyForm text Dump []
  no-dump text none =
      let refused : is_ended (dump_block text).state ≡ false = rw none refl in
      let broken : is_complete (dump_block text) ≡ false = rw none refl in
      OnlyForm.counted (dump_block text ∷ []) (record { are = AreBlocks.dump; fit = rw none (nothing-fits text) })
      (subst (λ (answer : Bool). BlocksCount Inner Dump (dump_block text ∷ [])
      (if answer then taken_as (Text Dump) (dump_block text) ∷ [] else [])) broken
      (BlocksCount.dump (DumpCounts.not_ended refused)))

  -- a text without a list of numbers
  no-numbers : (text : List ℕ) → numbers_read text ≡ None → OnlyForm text Numbers []
  no-numbers text none =
      OnlyForm.counted (numbers_block text ∷ []) (record { are = AreBlocks.numbers; fit = rw none (nothing-fits text) })
      (numbers-count Inner (numbers_block text ∷ []) [] refl (rw none refl))

  -- ---- a text that is hexadecimal, and of no form before it

  pub hex-first : (text : List ℕ) (b : BlockValue) (ts : List Taken) (t : Taken) → IsHexAlone text b
      → is_kept Hex b ≡ true → ts ≡ t ∷ [] → taken_value t ≡ taken_as (Text Hex) b
      → AreFirstBlocks Inner text all_forms (map taken_value ts)
  hex-first text b ts t alone kept one value =
      let are : AreBlocks text Hex (b ∷ []) =
      subst (λ (c : BlockValue). AreBlocks text Hex (c ∷ [])) alone.hex AreBlocks.hex in
      subst (λ (us : List TakenValue). AreFirstBlocks Inner text all_forms us)
      (sym (ap (map taken_value) one ∙ ap (λ (u : TakenValue). u ∷ []) value))
      (pass text Pem _ _ (no-pem text alone.no_pem)
      (pass text Dump _ _ (no-dump text alone.no_row)
      (AreFirstBlocks.here (record { are = are; fit = alone.fits })
      (hex-count Inner (b ∷ []) (taken_as (Text Hex) b ∷ []) refl (rw kept refl)))))

  -- ---- a text that is base64 alone

  module _ (text : List ℕ) (b : BlockValue) (alone : IsBase64Alone text b) where
    first-of_form : (form : Form) (forms : List Form) (ts : List Taken) (n : ℕ)
        → OnlyForm text form (map taken_value ts) → n ≡ length ts → (n == 0) ≡ false
        → AreFirstBlocks Inner text (form ∷ forms) (map taken_value ts)
    first-of_form form forms [] n only size some = absurd (cc (ap (λ (k : ℕ). k == 0) size, some))
    first-of_form form forms (t ∷ ts) n (OnlyForm.counted bs are counts) size some =
        AreFirstBlocks.here are counts

    -- neither PEM nor a dump counts
    after-dump : (ts : List TakenValue) → AreFirstBlocks Inner text (Hex ∷ Numbers ∷ Base64 ∷ Runs ∷ []) ts
        → AreFirstBlocks Inner text all_forms ts
    after-dump ts first =
        pass text Pem _ ts (no-pem text alone.no_pem) (pass text Dump _ ts (no-dump text alone.no_row) first)

    after-dump-long : (Deep : List ℕ → Type 0)
        → IsFirstTooLong Inner Deep text (Hex ∷ Numbers ∷ Base64 ∷ Runs ∷ [])
        → IsFirstTooLong Inner Deep text all_forms
    after-dump-long Deep long =
        pass-long Deep text Pem _ (no-pem text alone.no_pem)
        (pass-long Deep text Dump _ (no-dump text alone.no_row) long)

    -- its hexadecimal counts
    pub base64-hex_first : (ts : List Taken) (n : ℕ) → AreFirstBlocks Inner text (Hex ∷ []) (map taken_value ts)
        → n ≡ length ts → (n == 0) ≡ false → AreFirstBlocks Inner text all_forms (map taken_value ts)
    base64-hex_first ts n hex size some =
        after-dump (map taken_value ts) (first-of_form Hex _ ts n (only-form text Hex _ hex) size some)

    -- or it is too long
    pub base64-hex_long : (Deep : List ℕ → Type 0) → IsFirstTooLong Inner Deep text (Hex ∷ [])
        → IsFirstTooLong Inner Deep text all_forms
    base64-hex_long Deep long = after-dump-long Deep (only-long Inner Deep text Hex _ long)

    base64-fitting : AreFittingBlocks text Base64 (b ∷ [])
    base64-fitting = record { are = AreBlocks.base64 alone.base64; fit = alone.fits }

    module _ (complete : is_complete b ≡ true) (hexes : List Taken) (n : ℕ)
        (hex : AreFirstBlocks Inner text (Hex ∷ []) (map taken_value hexes)) (size : n ≡ length hexes)
        (none : (n == 0) ≡ true) where
      no-hex : OnlyForm text Hex []
      no-hex = no-blocks text Hex hexes n (only-form text Hex _ hex) size none

      -- only its base64 and runs of it can count
      base64-only : (ts : List TakenValue) → AreFirstBlocks Inner text (Base64 ∷ Runs ∷ []) ts
          → AreFirstBlocks Inner text all_forms ts
      base64-only ts first =
          after-dump ts
          (pass text Hex _ ts no-hex (pass text Numbers _ ts (no-numbers text alone.no_list) first))

      base64-only_long : (Deep : List ℕ → Type 0) → IsFirstTooLong Inner Deep text (Base64 ∷ Runs ∷ [])
          → IsFirstTooLong Inner Deep text all_forms
      base64-only_long Deep long =
          after-dump-long Deep
          (pass-long Deep text Hex _ no-hex
          (pass-long Deep text Numbers _ (no-numbers text alone.no_list) long))

      pub base64-long : (Deep : List ℕ → Type 0) → HoldsTooLong Deep b → IsFirstTooLong Inner Deep text all_forms
      base64-long Deep holds =
          base64-only_long Deep (IsFirstTooLong.inside base64-fitting (BlocksTooLong.base64 holds))

      module _ (ts : List Taken) (m : ℕ) (counts : Counts Inner Base64 None b (map taken_value ts))
          (sizes : m ≡ length ts) where
        base64-form : OnlyForm text Base64 (map taken_value ts)
        base64-form = OnlyForm.counted (b ∷ []) base64-fitting (BlocksCount.base64 complete counts)

        pub base64-first : (m == 0) ≡ false → AreFirstBlocks Inner text all_forms (map taken_value ts)
        base64-first some = base64-only (map taken_value ts) (first-of_form Base64 _ ts m base64-form sizes some)

        pub base64-runs_first : (us : List TakenValue) → (m == 0) ≡ true → AreFirstBlocks Inner text (Runs ∷ []) us
            → AreFirstBlocks Inner text all_forms us
        base64-runs_first us no_base64 runs =
            base64-only us (pass text Base64 _ us (no-blocks text Base64 ts m base64-form sizes no_base64) runs)

        pub base64-runs_long : (Deep : List ℕ → Type 0) → (m == 0) ≡ true
            → IsFirstTooLong Inner Deep text (Runs ∷ []) → IsFirstTooLong Inner Deep text all_forms
        base64-runs_long Deep no_base64 long =
            base64-only_long Deep
            (pass-long Deep text Base64 _ (no-blocks text Base64 ts m base64-form sizes no_base64) long)
