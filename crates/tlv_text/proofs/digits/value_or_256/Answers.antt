use Rattle.std.proofs.Common.{◌≡◌, ◌∙◌, ℕ, Bool, false, true, map, get_or, refl, ap, arith}
use Rattle.std.proofs.lemmas.Bool.{leb-true}
use Rattle.std.specs.List.{range_with_len}
use Rattle.std.specs.Prelude.{nat_le, nat_lt}
use Rattle.hex.specs.Hex.{is_hex_digit}
use Rattle.tlv_text.specs.Private.PairSteps.{value_or_256}
use Rattle.tlv_text.specs.declared.digits.TheConstants.{VALUES}
use Rattle.tlv_text.proofs.TableLemmas.{says-at}
use Rattle.tlv_text.proofs.digits.value_or_256.Goals as goal

abbrev same : ℕ → ℕ
same x = x

abbrev below_16 : ℕ → Bool
below_16 x = nat_lt x 16

abbrev up_to_256 : ℕ → Bool
up_to_256 x = nat_le x 256

abbrev always : ℕ → Bool
always x = true

-- the table says what the definitions say: all are computed at each character
same-says : map same VALUES ≡ map value_or_256 (range_with_len 0 256)
same-says = refl

below_16-says : map below_16 VALUES ≡ map is_hex_digit (range_with_len 0 256)
below_16-says = refl

up_to_256-says : map up_to_256 VALUES ≡ map always (range_with_len 0 256)
up_to_256-says = refl

pub returns-clause-value : goal.returns-clause-value
returns-clause-value c =
    ap (λ (i : ℕ). get_or VALUES i 0) c.from.ensures
    ∙ says-at ℕ 0 same value_or_256 VALUES refl same-says c.args.character (omega arith)

pub returns-clause-digit : goal.returns-clause-digit
returns-clause-digit c =
    ap (λ (i : ℕ). below_16 (get_or VALUES i 0)) c.from.ensures
    ∙ says-at Bool false below_16 is_hex_digit VALUES refl below_16-says c.args.character (omega arith)

pub returns-clause-few : goal.returns-clause-few
returns-clause-few c =
    leb-true _ 256 (ap (λ (i : ℕ). up_to_256 (get_or VALUES i 0)) c.from.ensures
    ∙ says-at Bool false up_to_256 always VALUES refl up_to_256-says c.args.character (omega arith))
