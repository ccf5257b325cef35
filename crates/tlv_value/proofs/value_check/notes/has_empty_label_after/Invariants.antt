use Rattle.std.proofs.Common.{◌≡◌, drop}
use Rattle.tlv_value.specs.ValueCheckState.{has_empty_label_after}
use Rattle.tlv_value.proofs.value_check.notes.has_empty_label_after.Given as goal

abbrev pub invariant-loop-octet : goal.invariant-loop-octet
invariant-loop-octet l =
    has_empty_label_after l.previous (drop l.octet-index l.octets) ≡ has_empty_label_after l.fn.previous l.octets
