use Rattle.std.proofs.Common.{List, ℕ, ap, sym, ◌∙◌}
use Rattle.tlv_value.specs.RealState.{real_check_after}
use Rattle.tlv_value.specs.declared.real.RealCheck.{RealCheck}
use Rattle.tlv_value.proofs.RealLemmas.ZeroContents.{real-cleared}
use Rattle.tlv_value.proofs.real.is_clear_real.Goals as goal

pub returns : goal.returns
returns c =
    let contents : List ℕ = c.args.contents.now in
    λ h. real-cleared contents _ (c.after.ensures ∙ ap (λ (s : RealCheck). real_check_after s contents) c.new.ensures)
    (sym c.is_clear.ensures ∙ h)
