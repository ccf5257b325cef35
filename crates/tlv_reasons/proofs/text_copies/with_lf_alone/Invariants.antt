use Rattle.std.proofs.Common.{◌≡◌, ◌++◌, length}
use Rattle.tlv_reasons.specs.TextCopies.{with_lf_alone}
use Rattle.tlv_reasons.proofs.text_copies.with_lf_alone.Given as goal

abbrev pub invariant-loop-rest : goal.invariant-loop-rest
invariant-loop-rest l = with_lf_alone l.octets ≡ l.copy.items ++ with_lf_alone l.rest

abbrev pub decreases-loop-rest : goal.decreases-loop-rest
decreases-loop-rest l = length l.rest
