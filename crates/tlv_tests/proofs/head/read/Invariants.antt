use Rattle.std.proofs.Common.{◌≡◌, false, []}
use Rattle.tlv_tests.proofs.head.read.Given as goal

abbrev pub invariant-loop-i : goal.invariant-loop-i
invariant-loop-i l = record {
  unfinished : l.reader.done ≡ false;
  place : l.reader.offset ≡ 100;
  first : l.reader.octets ≡ [] → l.i ≡ 0;
}
