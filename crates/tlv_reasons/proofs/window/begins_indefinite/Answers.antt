use Rattle.tlv_reasons.proofs.MendedLemmas.{definite-begins}
use Rattle.tlv_reasons.proofs.window.begins_indefinite.Goals as goal

pub returns-in-Definite : goal.returns-in-Definite
returns-in-Definite c = (
  (λ t. absurd (cc (t))),
  (λ i. absurd
      (definite-begins c.args.octets.now _ c.in-Definite.field-0 c.in-Some.fields c.in-Some.ensures c.in-Definite.is i)),
)
