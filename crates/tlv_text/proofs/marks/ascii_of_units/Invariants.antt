use Rattle.std.proofs.Common.{◌≡◌, length}
use Rattle.tlv_text.specs.Marks.{ascii_of_units}
use Rattle.tlv_text.proofs.MarkLemmas.{characters_then}
use Rattle.tlv_text.proofs.marks.ascii_of_units.Given as goal

abbrev pub invariant-loop-rest : goal.invariant-loop-rest
invariant-loop-rest l = ascii_of_units l.low_first l.octets
    ≡ characters_then l.text.items (ascii_of_units l.low_first l.rest)

abbrev pub decreases-loop-rest : goal.decreases-loop-rest
decreases-loop-rest l = length l.rest
