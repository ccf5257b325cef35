use Rattle.std.proofs.Common.{◌≡◌, length}
use Rattle.tlv_text.specs.Numbers.{items_read}
use Rattle.tlv_text.specs.declared.numbers.Place.TheVariants.{AtStart}
use Rattle.tlv_text.proofs.NumberLemmas.{part_before}
use Rattle.tlv_text.proofs.numbers.read_items.Given as goal

abbrev pub invariant-loop-rest : goal.invariant-loop-rest
invariant-loop-rest l = items_read l.close 0 AtStart l.text
    ≡ part_before l.octets.items (items_read l.close 0 l.place l.rest)

abbrev pub decreases-loop-rest : goal.decreases-loop-rest
decreases-loop-rest l = length l.rest
