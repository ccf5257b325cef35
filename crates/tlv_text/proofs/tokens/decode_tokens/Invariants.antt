use Rattle.std.proofs.Common.{◌≡◌, ◌≤◌, length}
use Rattle.tlv_text.specs.TextRead.{octets_then}
use Rattle.tlv_text.specs.Tokens.{pieces, pieces_read, tokens_read}
use Rattle.tlv_text.proofs.tokens.decode_tokens.Given as goal

abbrev pub invariant-loop-rest : goal.invariant-loop-rest
invariant-loop-rest l = record {
  read : tokens_read l.text ≡ octets_then l.octets.items (pieces_read l.begun (pieces 0 l.before l.rest));
  less : length l.rest ≤ length l.text;
}

abbrev pub decreases-loop-rest : goal.decreases-loop-rest
decreases-loop-rest l = length l.rest
