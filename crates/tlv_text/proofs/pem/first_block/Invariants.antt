use Rattle.std.proofs.Common.{◌≤◌, ◌-◌, length}
use Rattle.tlv_text.proofs.PemLemmas.{NoneBefore_of}
use Rattle.tlv_text.proofs.pem.first_block.Given as goal

abbrev pub invariant-loop-more : goal.invariant-loop-more
invariant-loop-more l = record {
  within : l.start ≤ length l.text;
  before : NoneBefore_of l.text l.start;
}

abbrev pub decreases-loop-more : goal.decreases-loop-more
decreases-loop-more l = length l.text - l.start
