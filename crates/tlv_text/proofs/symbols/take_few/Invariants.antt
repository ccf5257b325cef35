use Rattle.std.proofs.Common.{◌≤◌, length}
use Rattle.tlv_text.specs.Private.SymbolSteps.{TakesSymbols}
use Rattle.tlv_text.proofs.symbols.take_few.Given as goal

abbrev pub invariant-loop-rest : goal.invariant-loop-rest
invariant-loop-rest l = record {
  takes : TakesSymbols l.alphabet l.initial.rest.now l.initial.symbols.items l.rest.now l.symbols.items;
  few : length l.symbols.items ≤ 4096;
}

abbrev pub decreases-loop-rest : goal.decreases-loop-rest
decreases-loop-rest l = length l.rest.now
