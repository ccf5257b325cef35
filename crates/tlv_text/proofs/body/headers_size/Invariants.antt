use Rattle.std.proofs.Common.{◌≡◌, ◌≤◌, ◌+◌, true, length}
use Rattle.tlv_text.specs.PemBody.{headers_size}
use Rattle.tlv_text.proofs.body.headers_size.Given as goal

abbrev pub invariant-loop-rest : goal.invariant-loop-rest
invariant-loop-rest l = record {
  size : headers_size true l.text + length l.rest ≡ length l.text + headers_size l.blank l.rest;
  less : length l.rest ≤ length l.text;
}

abbrev pub decreases-loop-rest : goal.decreases-loop-rest
decreases-loop-rest l = length l.rest
