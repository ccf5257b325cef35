use Rattle.std.proofs.Common.{◌≡◌, length}
use Rattle.tlv_show.specs.Private.SetOrder.{frames_after_octets_from}
use Rattle.tlv_show.proofs.set_order.add_octets_from.Given as goal

abbrev pub invariant-loop-i : goal.invariant-loop-i
invariant-loop-i g l = record {
  same_length : length l.outer.items ≡ length l.initial.outer.items;
  rest : frames_after_octets_from l.i l.octets l.outer.items
      ≡ frames_after_octets_from l.first l.octets l.initial.outer.items;
}
