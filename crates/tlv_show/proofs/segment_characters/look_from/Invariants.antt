use Rattle.std.proofs.Common.{◌≡◌, length}
use Rattle.tlv_show.specs.Private.SegmentCharacters.{segments_after_octets_from}
use Rattle.tlv_show.proofs.segment_characters.look_from.Given as goal

abbrev pub invariant-loop-i : goal.invariant-loop-i
invariant-loop-i l = record {
  same_length : length l.outer.items ≡ length l.initial.outer.items;
  rest : segments_after_octets_from l.i l.octets l.outer.items
      ≡ segments_after_octets_from l.first l.octets l.initial.outer.items;
}
