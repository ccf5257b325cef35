use Rattle.std.proofs.Common.{◌≡◌, ◌≤◌, ◌-◌, ◌++◌, List, drop, length}
use Rattle.tlv_reasons.specs.declared.lengths.WrongLength.{WrongLength}
use Rattle.tlv_reasons.specs.WrongLength.{AreWrongLengths, most_named}
use Rattle.tlv_reasons.proofs.lengths.lengths_among.Given as goal

abbrev pub invariant-loop-candidate : goal.invariant-loop-candidate
invariant-loop-candidate l = record {
  copied : l.copy ≡ l.octets;
  few : length l.found.items ≤ most_named l.bounds.wide;
  so_far : (rest : List WrongLength)
      → AreWrongLengths l.framing l.bounds l.octets l.holders (most_named l.bounds.wide - length l.found.items)
      (drop l.candidate-index l.candidates) rest
      → AreWrongLengths l.framing l.bounds l.octets l.holders (most_named l.bounds.wide) l.candidates
      (l.found.items ++ rest);
}
