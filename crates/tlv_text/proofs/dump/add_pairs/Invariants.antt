use Rattle.tlv_text.specs.DumpPairs.{pairs_after, pairs_at}
use Rattle.tlv_text.proofs.DumpOutputLemmas.{IsAddedSoFar}
use Rattle.std.proofs.Common.{◌≡◌, ◌≤◌, ◌+◌, length}
use Rattle.tlv_text.specs.Private.PairSteps.{AreWholePairs, pair_octets}
use Rattle.tlv_text.specs.TextRead.{octets_then}
use Rattle.tlv_text.proofs.dump.add_pairs.Given as goal

abbrev pub invariant-loop-digits : goal.invariant-loop-digits
invariant-loop-digits l = record {
  pairs : AreWholePairs l.digits.items;
  few : length l.digits.items ≤ 2;
  added : IsAddedSoFar (pairs_at (length l.text) l.gap l.text).octets
      (octets_then (pair_octets l.digits.items) (pairs_after l.left l.gap l.rest)).octets l.initial.output l.output;
  count : length (pairs_at (length l.text) l.gap l.text).octets + l.left
      ≡ length (pairs_after l.left l.gap l.rest).octets + length l.text;
  rest : (pairs_at (length l.text) l.gap l.text).rest ≡ (pairs_after l.left l.gap l.rest).rest;
}

abbrev pub decreases-loop-digits : goal.decreases-loop-digits
decreases-loop-digits l = l.left
