use Rattle.std.proofs.Common.{◌-◌, ◌≡◌, ◌+◌, ◌≤◌, length, take}
use Rattle.tlv_io.specs.LineTexts.{spaces}
use Rattle.tlv_io.proofs.held_octets.texts.fill_more_spaces.Given as goal

abbrev pub invariant-loop-done : goal.invariant-loop-done
invariant-loop-done l = record {
  blank : take l.done l.to ≡ spaces l.done;
  size : length l.to ≡ length l.initial.to;
  bound : l.done ≤ l.count + 32;
}

abbrev pub decreases-loop-done : goal.decreases-loop-done
decreases-loop-done l = l.count - l.done
