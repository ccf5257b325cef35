use Rattle.std.proofs.Common.{arith, refl, rules}
use Rattle.std.proofs.lemmas.Grind.{and_numeral, common_steps}
use Rattle.tlv_head.proofs.ReaderLemmas.Steps.{begins_number}
use Rattle.tlv_head.proofs.next_octet.first_identifier.Goals as goal

pub returns-then-low-eq31-2 : goal.returns-then-low-eq31-2
returns-then-low-eq31-2 c = begins_number _ _ (search rules) refl (grind (arith, and_numeral, common_steps))
