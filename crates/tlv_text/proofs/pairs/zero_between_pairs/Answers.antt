use Rattle.std.proofs.Common.{◌≡◌, ◌∙◌, ℕ, map, get_or, refl, ap, arith}
use Rattle.std.specs.List.{range_with_len}
use Rattle.tlv_text.specs.Private.PairSteps.{zero_between_pairs}
use Rattle.tlv_text.specs.declared.pairs.TheConstants.{NOT_BETWEEN}
use Rattle.tlv_text.proofs.TableLemmas.{says-at}
use Rattle.tlv_text.proofs.pairs.zero_between_pairs.Goals as goal

abbrev same : ℕ → ℕ
same x = x

-- the table says what the definition says: both are computed at each character
same-says : map same NOT_BETWEEN ≡ map zero_between_pairs (range_with_len 0 256)
same-says = refl

pub returns : goal.returns
returns c =
    ap (λ (i : ℕ). get_or NOT_BETWEEN i 0) c.from.ensures
    ∙ says-at ℕ 0 same zero_between_pairs NOT_BETWEEN refl same-says c.args.character (omega arith)
