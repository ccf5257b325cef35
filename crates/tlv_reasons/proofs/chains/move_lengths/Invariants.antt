use Rattle.std.proofs.Common.{List, drop, ℕ}
use Rattle.tlv_reasons.specs.Chains.{AreMoved}
use Rattle.tlv_reasons.proofs.chains.move_lengths.Given as goal

abbrev pub invariant-loop-header : goal.invariant-loop-header
invariant-loop-header l = record {
  moved : (changed : List ℕ) → AreMoved l.difference (drop l.header-index l.headers) l.octets changed
      → AreMoved l.difference l.headers l.fn.octets changed;
  unmoved : (changed : List ℕ) → AreMoved l.difference l.headers l.fn.octets changed
      → AreMoved l.difference (drop l.header-index l.headers) l.octets changed;
}
