use Rattle.std.proofs.Common.{length}
use Rattle.tlv_text.proofs.TextLemmas.{IsReadSoFar}
use Rattle.tlv_text.proofs.base64_text.decode_with.Given as goal

abbrev pub invariant-loop-rest : goal.invariant-loop-rest
invariant-loop-rest l = IsReadSoFar l.alphabet l.text l.octets.items l.rest

abbrev pub decreases-loop-rest : goal.decreases-loop-rest
decreases-loop-rest l = length l.rest
