use Rattle.std.proofs.Common.{flat_map, take}
use Rattle.tlv_io.proofs.Puts.{HasPut}
use Rattle.tlv_open.specs.BrokenLine.{broken_line}
use Rattle.tlv_view_program.specs.Lines.{placed_line}
use Rattle.tlv_view_program.specs.Private.BlockParts.{name_value}
use Rattle.tlv_view_program.specs.Private.LineOut.{as_out}
use Rattle.tlv_view_program.proofs.lines.put_broken_lines.Given as goal

abbrev pub invariant-loop-string : goal.invariant-loop-string
invariant-loop-string g l =
    HasPut g.D.Drain.state (as_out l.initial.out) (as_out l.out)
    (flat_map (λ b. placed_line (name_value l.fn.name) (broken_line b)) (take l.string-index l.fn.broken))
