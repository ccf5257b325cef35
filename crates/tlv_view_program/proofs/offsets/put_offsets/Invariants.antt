use Rattle.std.proofs.Common.{◌≡◌, ◌++◌, ℕ, List, drop}
use Rattle.tlv_io.proofs.Puts.{HasPut}
use Rattle.tlv_view_program.specs.Offsets.{offsets_line}
use Rattle.tlv_view_program.proofs.offsets.put_offsets.Given as goal

abbrev pub invariant-loop-i : goal.invariant-loop-i
invariant-loop-i g l = record {
  put : (text : List ℕ) × HasPut g.D.Drain.state l.initial.out l.out text
      × (text ++ offsets_line (drop l.i l.offsets) ≡ offsets_line l.offsets);
}
