use Rattle.std.proofs.Common.{◌≡◌, ◌≤◌, length}
use Rattle.tlv_text.specs.Pairs.{pairs_read}
use Rattle.tlv_text.specs.Plain.{are_lines_of_digits}
use Rattle.tlv_text.specs.TextRead.{octets_then}
use Rattle.tlv_text.proofs.pairs.take_four_pairs.Given as goal

abbrev pub invariant-loop-rest : goal.invariant-loop-rest
invariant-loop-rest l = record {
  read : octets_then l.fn.octets.items (pairs_read l.fn.text.now)
      ≡ octets_then l.octets.items (pairs_read l.rest);
  digits : are_lines_of_digits l.rest ≡ are_lines_of_digits l.fn.text.now;
  less : length l.rest ≤ length l.fn.text.now;
}

abbrev pub decreases-loop-rest : goal.decreases-loop-rest
decreases-loop-rest l = length l.rest
