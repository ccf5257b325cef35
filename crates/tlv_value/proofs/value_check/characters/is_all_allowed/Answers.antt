use Rattle.std.proofs.Common.{◌&&◌, ◌∙◌, Bool, ap, arith}
use Rattle.tlv_value.proofs.CheckLemmas.Noting.{all-next}
use Rattle.tlv_value.proofs.value_check.characters.is_all_allowed.Goals as goal
use Rattle.tlv_value.specs.Characters.{allows_octet}

pub loop-octet-preserved : goal.loop-octet-preserved
loop-octet-preserved c =
    all-next c.loop-octet.all c.both-all.result (allows_octet c.args.number) c.args.octets.now
    c.loop-octet.octet-index (omega arith)
    (c.both-all.ensures ∙ ap (λ (b : Bool). c.loop-octet.all && b) c.allows_octet.ensures) c.loop-octet.invariant
