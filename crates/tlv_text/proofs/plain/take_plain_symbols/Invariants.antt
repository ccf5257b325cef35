use Rattle.std.proofs.Common.{◌≡◌, ◌≤◌, ◌+◌, length}
use Rattle.tlv_text.specs.Base64.{symbols_read}
use Rattle.tlv_text.specs.Plain.{is_plain_text}
use Rattle.tlv_text.specs.Private.SymbolSteps.{AreSymbols, symbols_then}
use Rattle.tlv_text.specs.declared.base64_text.Alphabet.TheVariants.{Standard}
use Rattle.tlv_text.proofs.plain.take_plain_symbols.Given as goal

abbrev pub invariant-loop-x : goal.invariant-loop-x
invariant-loop-x l = record {
  symbols : AreSymbols Standard l.symbols.items;
  read : symbols_read Standard l.initial.rest.now
      ≡ symbols_then l.symbols.items (symbols_read Standard l.rest.now);
  plain : is_plain_text Standard l.rest.now ≡ is_plain_text Standard l.initial.rest.now;
  few : length l.symbols.items ≤ 4096;
  less : length l.rest.now + length l.symbols.items ≤ length l.initial.rest.now;
}

abbrev pub decreases-loop-x : goal.decreases-loop-x
decreases-loop-x l = length l.rest.now
