use Rattle.std.proofs.Common.{◌≡◌, ◌++◌, false}
use Rattle.tlv_text.specs.Dump.{octets_repeated}
use Rattle.tlv_text.proofs.dump.output.add_octets.Given as goal

abbrev pub invariant-loop : goal.invariant-loop
invariant-loop l = record {
  added : l.output.octets.items ≡ l.initial.output.octets.items ++ octets_repeated l.counter l.row.items;
  within : l.output.over ≡ false;
  kept : l.output.limit ≡ l.initial.output.limit;
}
