use Rattle.std.proofs.Common.{◌≡◌, ◌≤◌, length}
use Rattle.tlv_text.specs.Numbers.{from_list}
use Rattle.tlv_text.proofs.numbers.first_list.Given as goal

abbrev pub invariant-loop-place : goal.invariant-loop-place
invariant-loop-place l = record {
  same : from_list l.initial.text.now ≡ from_list l.text.now;
  short : length l.text.now ≤ length l.initial.text.now;
}

abbrev pub decreases-loop-place : goal.decreases-loop-place
decreases-loop-place l = length l.text.now
