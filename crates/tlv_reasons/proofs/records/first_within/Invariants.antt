use Rattle.std.proofs.Common.{ℕ, drop}
use Rattle.std.specs.Prelude.{Option}
use Rattle.tlv_reasons.proofs.RecordLemmas.{IsFirstTried}
use Rattle.tlv_reasons.proofs.records.first_within.Given as goal

abbrev pub invariant-loop-offset : goal.invariant-loop-offset
invariant-loop-offset l =
    (found : Option ℕ) → IsFirstTried l.padding l.octets l.fault l.left (drop l.offset-index l.offsets) found
    → IsFirstTried l.padding l.octets l.fault l.budget l.offsets found
