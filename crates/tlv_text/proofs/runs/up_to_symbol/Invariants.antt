use Rattle.std.proofs.Common.{◌≡◌, ◌+◌, length}
use Rattle.tlv_text.specs.Runs.{up_to_symbol}
use Rattle.tlv_text.proofs.runs.up_to_symbol.Given as goal

abbrev pub invariant-loop-rest : goal.invariant-loop-rest
invariant-loop-rest l = record {
  size : up_to_symbol l.before l.text ≡ up_to_symbol l.size l.rest;
  within : l.size + length l.rest ≡ l.before + length l.text;
}

abbrev pub decreases-loop-rest : goal.decreases-loop-rest
decreases-loop-rest l = length l.rest
