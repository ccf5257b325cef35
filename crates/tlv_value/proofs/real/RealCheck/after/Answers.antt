use Rattle.std.proofs.Common.{ℕ, ◌-◌, Bool, List, length, take, drop, sym, ap, ap₂, ◌∙◌}
use Rattle.tlv_value.specs.RealState.{real_check_after}
use Rattle.tlv_value.specs.declared.real.RealCheck.{RealCheck}
use Rattle.tlv_value.specs.declared.real.RealPart.{RealPart}
use Rattle.tlv_value.proofs.RealLemmas.RealPieces.{mantissa-after, mantissa_check, real-more}
use Rattle.tlv_value.proofs.real.RealCheck.after.Goals as goal

abbrev with_part : RealCheck → RealPart → RealCheck
with_part check part = record {
  part = part;
  is_canonical_so_far = check.is_canonical_so_far;
  is_zero_so_far = check.is_zero_so_far;
}

pub returns-in-Mantissa : goal.returns-in-Mantissa
returns-in-Mantissa c =
    let rest : List ℕ = c.loop-rest.rest.now in
    let check : RealCheck = c.loop-rest.check in
    ap₂ (λ (last : ℕ) (zero : Bool). mantissa_check last check.is_canonical_so_far zero) c.last_octet.ensures
    c.is_zero_with.ensures
    ∙ sym (mantissa-after c.in-Mantissa.last check.is_canonical_so_far check.is_zero_so_far rest)
    ∙ sym (ap (λ (part : RealPart). real_check_after (with_part check part) rest) c.in-Mantissa.is)
    ∙ c.loop-rest.invariant

pub loop-rest-preserved : goal.loop-rest-preserved
loop-rest-preserved c =
    let rest : List ℕ = c.loop-rest.rest.now in
    ap (λ (s : RealCheck). real_check_after s (take (length rest - 1) (drop 1 rest))) c.next-check.ensures
    ∙ real-more c.loop-rest.check rest c.in-len1-up.len_at_least
    ∙ c.loop-rest.invariant
