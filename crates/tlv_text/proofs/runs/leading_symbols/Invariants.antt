use Rattle.std.proofs.Common.{◌≡◌, ◌+◌, length}
use Rattle.tlv_text.specs.Runs.{leading_symbols}
use Rattle.tlv_text.proofs.runs.leading_symbols.Given as goal

abbrev pub invariant-loop-rest : goal.invariant-loop-rest
invariant-loop-rest l = record {
  count : leading_symbols l.text ≡ l.count + leading_symbols l.rest;
  within : l.count + length l.rest ≡ length l.text;
}

abbrev pub decreases-loop-rest : goal.decreases-loop-rest
decreases-loop-rest l = length l.rest
