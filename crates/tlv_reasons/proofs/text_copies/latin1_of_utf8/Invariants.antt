use Rattle.std.proofs.Common.{◌≡◌, length}
use Rattle.tlv_reasons.specs.TextCopies.{latin1_of_utf8}
use Rattle.tlv_reasons.proofs.TextLemmas.{octets_and}
use Rattle.tlv_reasons.proofs.text_copies.latin1_of_utf8.Given as goal

abbrev pub invariant-loop-rest : goal.invariant-loop-rest
invariant-loop-rest l = latin1_of_utf8 l.octets ≡ octets_and l.characters.items (latin1_of_utf8 l.rest)

abbrev pub decreases-loop-rest : goal.decreases-loop-rest
decreases-loop-rest l = length l.rest
