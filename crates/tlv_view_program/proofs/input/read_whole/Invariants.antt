use Rattle.std.proofs.Common.{◌≡◌, ◌-◌, ◌≤◌, length}
use Rattle.tlv_value.proofs.NamesLemmas.Reads.{OctetsSoFar}
use Rattle.tlv_view_program.specs.ReadWhole.{whole_limit}
use Rattle.tlv_view_program.proofs.input.read_whole.Given as goal

abbrev pub invariant-loop-count : goal.invariant-loop-count
invariant-loop-count g l = record {
  given : OctetsSoFar (g.S.Source.state l.initial.source) (g.S.Source.state l.source) l.octets.items;
  most : length l.octets.items ≤ whole_limit;
  piece : length l.piece ≡ 4096;
  failures : (g.S.Source.state l.source).failures ≡ (g.S.Source.state l.initial.source).failures;
}

abbrev pub decreases-loop-count : goal.decreases-loop-count
decreases-loop-count g l = whole_limit - length l.octets.items
