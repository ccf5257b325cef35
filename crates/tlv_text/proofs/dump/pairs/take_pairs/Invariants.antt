use Rattle.std.proofs.Common.{◌≡◌, ◌+◌, length}
use Rattle.tlv_text.specs.DumpPairs.{pairs_after}
use Rattle.tlv_text.specs.Private.PairSteps.{AreWholePairs, pair_octets}
use Rattle.tlv_text.specs.TextRead.{octets_then}
use Rattle.tlv_text.proofs.dump.pairs.take_pairs.Given as goal

abbrev pub invariant-loop-left : goal.invariant-loop-left
invariant-loop-left l = record {
  pairs : AreWholePairs l.digits.items;
  read : octets_then (pair_octets l.initial.digits.items) (pairs_after l.most l.gap l.initial.rest.now)
      ≡ octets_then (pair_octets l.digits.items) (pairs_after l.left l.gap l.rest.now);
  count : length (pair_octets l.digits.items) + l.left ≡ length (pair_octets l.initial.digits.items) + l.most;
}

abbrev pub decreases-loop-left : goal.decreases-loop-left
decreases-loop-left l = l.left
