use Rattle.tlv_value.specs.Private.Room.{HaveRoom}
use Rattle.tlv_value.proofs.row_sizes.fitting_length.Given as goal

abbrev pub invariant-loop-i : goal.invariant-loop-i
invariant-loop-i l = HaveRoom l.fn.kind l.begun l.octets l.i
