use Rattle.std.proofs.Common.{◌≡◌, map, take}
use Rattle.tlv_reasons.specs.Window.{behind}
use Rattle.tlv_reasons.proofs.window.all_behind.Given as goal

abbrev pub invariant-loop-wrong : goal.invariant-loop-wrong
invariant-loop-wrong l = l.moved.items ≡ map (behind l.front) (take l.wrong-index l.found)
