use Rattle.std.proofs.Common.{◌/◌, ◌==◌, ◌∙◌, ℕ, ap, sym}
use Rattle.tlv_text.proofs.DumpLemmas.{pair_octets-length}
use Rattle.tlv_text.proofs.dump.rows.is_full.Goals as goal

pub returns : goal.returns
returns c =
    ap (λ (n : ℕ). n / 2 == c.args.size) c.len.ensures.value
    ∙ ap (λ (n : ℕ). n == c.args.size) (sym (pair_octets-length c.args.last.now.digits.items))
