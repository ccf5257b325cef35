use Rattle.std.proofs.Common.{◌≡◌, map, take}
use Rattle.std.specs.Fmt.{HasWritten, IsPlainFormatter}
use Rattle.tlv_program.specs.Texts.{printed_octet}
use Rattle.tlv_program.proofs.printable.ReplacingWrite.write_str.Given as goal

abbrev pub invariant-loop-octet : goal.invariant-loop-octet
invariant-loop-octet g l =
    (l.self.to.ghost_name ≡ l.initial.self.to.ghost_name)
    × (IsPlainFormatter l.initial.self.to.now → HasWritten g.W.Write.write_str_gives l.initial.self.to.now
    (map printed_octet (take l.octet-index l.text)) l.self.to.now)
