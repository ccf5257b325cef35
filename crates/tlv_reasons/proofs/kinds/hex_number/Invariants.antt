use Rattle.std.proofs.Common.{◌≡◌, ◌<◌, ◌^◌, drop}
use Rattle.tlv_reasons.specs.FileKinds.{hex_number}
use Rattle.tlv_reasons.proofs.kinds.hex_number.Given as goal

abbrev pub invariant-loop-octet : goal.invariant-loop-octet
invariant-loop-octet l = record {
  number : hex_number 0 l.digits ≡ hex_number l.number (drop l.octet-index l.digits);
  small : l.number < 16 ^ l.octet-index;
}
