use Rattle.std.proofs.Common.{◌∙◌, sym}
use Rattle.tlv_reasons.proofs.StartLemmas.{ends-by, ends-from}
use Rattle.tlv_reasons.proofs.start.begins_and_ends.Goals as goal

pub returns-in-Some : goal.returns-in-Some
returns-in-Some c = (
  (λ t. ends-from c.args.octets.now c.in-Some.fields c.in-Some.count c.in-Some.ensures (sym c.ends_near.ensures ∙ t)),
  (λ e. c.ends_near.ensures ∙ ends-by c.args.octets.now c.in-Some.fields c.in-Some.count c.in-Some.ensures e),
)
