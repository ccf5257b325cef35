use Rattle.std.proofs.Common.{take}
use Rattle.tlv_io.proofs.Puts.{HasPut}
use Rattle.tlv_view_program.specs.Lines.{printable_name}
use Rattle.tlv_view_program.specs.Private.LineOut.{as_out}
use Rattle.tlv_view_program.proofs.lines.put_printable.Given as goal

abbrev pub invariant-loop-octet : goal.invariant-loop-octet
invariant-loop-octet g l = HasPut g.D.Drain.state (as_out l.initial.out) (as_out l.out) (printable_name (take l.octet-index l.fn.name))
