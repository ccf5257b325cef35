use Rattle.std.proofs.Common.{◌≡◌, sym, arith}
use Rattle.tlv_value.proofs.CheckLemmas.Noting.{all-other}
use Rattle.tlv_value.proofs.value_check.characters.are_allowed.Goals as goal

pub returns-in_default : goal.returns-in_default
returns-in_default c =
    sym (all-other c.args.number c.args.octets.now (λ (e : c.args.number ≡ 18). omega (arith, e))
    (λ (e : c.args.number ≡ 19). omega (arith, e)) (λ (e : c.args.number ≡ 22). omega (arith, e))
    (λ (e : c.args.number ≡ 26). omega (arith, e)))
