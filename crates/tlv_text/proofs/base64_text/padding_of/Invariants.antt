use Rattle.std.proofs.Common.{◌≡◌, ◌≤◌, ◌+◌, length}
use Rattle.std.specs.Prelude.{option_map}
use Rattle.tlv_text.specs.Base64.{padding_of}
use Rattle.tlv_text.proofs.base64_text.padding_of.Given as goal

abbrev pub invariant-loop-rest : goal.invariant-loop-rest
invariant-loop-rest l = record {
  read : padding_of l.text ≡ option_map (λ n. l.count + n) (padding_of l.rest);
  less : length l.rest + l.count ≤ length l.text;
}

abbrev pub decreases-loop-rest : goal.decreases-loop-rest
decreases-loop-rest l = length l.rest
