use Rattle.std.proofs.Common.{subst, sym}
use Rattle.std.proofs.lemmas.Result.{IfErr-weaker}
use Rattle.tlv_text.specs.Taken.{IsTakingFault}
use Rattle.tlv_text.proofs.take_call.take_input.Goals as goal

pub returns-then-is_empty-clause-fault : goal.returns-then-is_empty-clause-fault
returns-then-is_empty-clause-fault c =
    IfErr-weaker c.take_octets.result _ _ (λ fault is. subst (IsTakingFault c.args.octets.items) (sym is) tt)
    c.take_octets.ensures.fault
