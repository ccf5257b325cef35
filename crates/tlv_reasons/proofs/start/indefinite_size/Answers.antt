use Rattle.std.proofs.Common.{◌≡◌, ◌+◌, ap, arith, false, ℕ, ◌∙◌}
use Rattle.std.specs.Prelude.{Some}
use Rattle.tlv_head.specs.declared.fault.Fault.{Fault}
use Rattle.tlv_head.specs.declared.fault.FaultCode.TheVariants.{StrayEnd}
use Rattle.tlv_open.specs.Opens.{closed_framing}
use Rattle.tlv_walk.proofs.GrammarLemmas.OneEnding.{ending-unique}
use Rattle.tlv_walk.specs.declared.ending.Ending.TheVariants as ending
use Rattle.tlv_walk.specs.Ending.{fault_at, fault_ending}
use Rattle.tlv_reasons.proofs.start.indefinite_size.Goals as goal

fault-offset : (f : Fault) (n : ℕ) → ending.Fault f ≡ fault_ending StrayEnd n → f.offset ≡ n
fault-offset f n e = let same : f ≡ fault_at StrayEnd n = cc in ap (λ (x : Fault). x.offset) same

pub returns-in-Fault-clause-size : goal.returns-in-Fault-clause-size
returns-in-Fault-clause-size c = λ n e k.
    let same : ending.Fault c.in-Fault.fault ≡ fault_ending StrayEnd n =
    ending-unique (closed_framing false) c.args.after.now _ _ c.in-Fault.ensures e in
    let offset : c.in-Fault.fault.offset ≡ n = fault-offset c.in-Fault.fault n same in
    c.definite_size.ensures.size (omega arith) ∙ ap (λ i. Some (i + 2)) offset

pub returns-in_default-clause-size : goal.returns-in_default-clause-size
returns-in_default-clause-size c = λ n e k.
    let same : ending.Fault c.in-Fault.fault ≡ fault_ending StrayEnd n =
    ending-unique (closed_framing false) c.args.after.now _ _ c.in-Fault.ensures e in
    let offset : c.in-Fault.fault.offset ≡ n = fault-offset c.in-Fault.fault n same in
    absurd (omega arith)

pub returns-in_default-2-clause-size : goal.returns-in_default-2-clause-size
returns-in_default-2-clause-size c = λ n e k.
    let same : c.ending_of.result ≡ fault_ending StrayEnd n =
    ending-unique (closed_framing false) c.args.after.now _ _ c.ending_of.ensures e in
    let d = c.in_default.is in
    absurd (cc)
