use Rattle.std.proofs.Common.{◌≡◌, length}
use Rattle.tlv_text.specs.Pairs.{pairs_read}
use Rattle.tlv_text.specs.Plain.{are_lines_of_digits}
use Rattle.tlv_text.specs.TextRead.{octets_then}
use Rattle.tlv_text.proofs.pairs.joined_octets.Given as goal

abbrev pub invariant-loop-octets : goal.invariant-loop-octets
invariant-loop-octets l = record {
  read : pairs_read l.text ≡ octets_then l.octets.items (pairs_read l.rest);
  digits : are_lines_of_digits l.rest ≡ are_lines_of_digits l.text;
}

abbrev pub decreases-loop-octets : goal.decreases-loop-octets
decreases-loop-octets l = length l.rest
