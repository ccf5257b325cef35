use Rattle.std.proofs.Common.{ℕ}
use Rattle.std.specs.Prelude.{Option}
use Rattle.tlv_reasons.specs.Doubled.{IsFirstDoubled, block_tries}
use Rattle.tlv_reasons.proofs.doubled.first_doubled.Given as goal

abbrev pub invariant-loop-at : goal.invariant-loop-at
invariant-loop-at l =
    (found : Option ℕ) → IsFirstDoubled l.padding l.octets l.size l.tries l.at found
    → IsFirstDoubled l.padding l.octets l.size block_tries 0 found
