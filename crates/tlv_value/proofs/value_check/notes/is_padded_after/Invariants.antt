use Rattle.std.proofs.Common.{◌≡◌, drop}
use Rattle.tlv_value.specs.ValueCheckState.{is_padded_after}
use Rattle.tlv_value.proofs.value_check.notes.is_padded_after.Given as goal

abbrev pub invariant-loop-octet : goal.invariant-loop-octet
invariant-loop-octet l =
    is_padded_after l.previous (drop l.octet-index l.octets) ≡ is_padded_after l.fn.previous l.octets
