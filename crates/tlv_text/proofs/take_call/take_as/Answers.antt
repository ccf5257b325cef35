use Rattle.std.proofs.Common.{ℕ, List, subst}
use Rattle.tlv_text.specs.Blocks.{IsBlocksFault}
use Rattle.tlv_text.proofs.CountLemmas.{each-fits}
use Rattle.tlv_text.proofs.CountingLemmas.{returned-fault}
use Rattle.tlv_text.proofs.InputLemmas.{text-is}
use Rattle.tlv_text.specs.declared.text_fault.TextFault.TheVariants.{Memory}
use Rattle.tlv_text.proofs.take_call.take_as.Goals as goal

pub returns-in_err-ascii-clause-fault : goal.returns-in_err-ascii-clause-fault
returns-in_err-ascii-clause-fault c =
    returned-fault _ Memory _ c.from_residual.ensures.1 IsBlocksFault.no_memory

pub returns-in_err-blocks-clause-fault : goal.returns-in_err-blocks-clause-fault
returns-in_err-blocks-clause-fault c =
    returned-fault _ c.in_err-blocks.field-0.0 _ c.from_residual-in_err-blocks.ensures.1
    (subst (λ (t : List ℕ). IsBlocksFault t c.args.form c.in_err-blocks.field-0.0)
    (text-is c.args.octets.now _ _ c.text_in.ensures c.in_ok-ascii.ensures)
    c.in_err-blocks.ensures.fault)

pub returns-in_err-all_taken_as-clause-fault : goal.returns-in_err-all_taken_as-clause-fault
returns-in_err-all_taken_as-clause-fault c =
    returned-fault _ Memory _ c.from_residual-in_err-all_taken_as.ensures.1 IsBlocksFault.no_memory

pub all_taken_as-requires : goal.all_taken_as-requires
all_taken_as-requires c = each-fits _ _ c.in_ok-blocks.ensures.fit
