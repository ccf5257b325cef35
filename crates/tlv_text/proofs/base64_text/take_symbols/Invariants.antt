use Rattle.std.proofs.Common.{◌≡◌, ◌≤◌, ◌+◌, length}
use Rattle.tlv_text.specs.Base64.{symbols_read}
use Rattle.tlv_text.specs.Private.SymbolSteps.{AreSymbols, symbols_then}
use Rattle.tlv_text.proofs.base64_text.take_symbols.Given as goal

abbrev pub invariant-loop-alphabet : goal.invariant-loop-alphabet
invariant-loop-alphabet l = record {
  symbols : AreSymbols l.alphabet l.symbols.items;
  read : symbols_read l.alphabet l.initial.rest.now
      ≡ symbols_then l.symbols.items (symbols_read l.alphabet l.rest.now);
  few : length l.symbols.items ≤ 4096;
  less : length l.rest.now + length l.symbols.items ≤ length l.initial.rest.now;
}

abbrev pub decreases-loop-alphabet : goal.decreases-loop-alphabet
decreases-loop-alphabet l = length l.rest.now
