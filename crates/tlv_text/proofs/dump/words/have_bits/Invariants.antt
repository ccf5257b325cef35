use Rattle.std.proofs.Common.{◌≡◌, true, take}
use Rattle.std.specs.List.{list_all}
use Rattle.tlv_text.specs.DumpWords.{has_bits}
use Rattle.tlv_text.proofs.dump.words.have_bits.Given as goal

abbrev pub invariant-loop-octet : goal.invariant-loop-octet
invariant-loop-octet l = list_all has_bits (take l.octet-index l.octets) ≡ true
