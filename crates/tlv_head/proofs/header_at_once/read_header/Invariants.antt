use Rattle.std.proofs.Common.{◌≡◌, false, take}
use Rattle.tlv_head.specs.HeaderSoFar.{Carries, is_whole_header}
use Rattle.tlv_head.specs.declared.next_octet.Part.TheVariants.{Start}
use Rattle.tlv_head.proofs.header_at_once.read_header.Given as goal

abbrev pub invariant-loop-i : goal.invariant-loop-i
invariant-loop-i l = record {
  carries : Carries l.part (take l.i l.octets);
  unfinished : is_whole_header l.part ≡ false;
  first : l.part ≡ Start → l.i ≡ 0;
}
