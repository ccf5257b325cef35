use Rattle.std.proofs.Common.{◌≡◌, ℕ, ◌-◌, drop}
use Rattle.std.specs.Prelude.{Option}
use Rattle.tlv_reasons.specs.FirstOf.{IsFirstOf}
use Rattle.tlv_reasons.specs.Private.Lengths.{MendedWithOctets, sayable}
use Rattle.tlv_reasons.proofs.lengths.first_right_length.Given as goal

abbrev pub invariant-loop-length : goal.invariant-loop-length
invariant-loop-length l = record {
  copied : l.copy ≡ l.octets;
  first : (found : Option ℕ)
      → IsFirstOf (MendedWithOctets l.framing l.bounds l.place.start l.place.end l.octets)
      (sayable (l.place.end - l.place.start) (drop l.length-index l.lengths)) found
      → IsFirstOf (MendedWithOctets l.framing l.bounds l.place.start l.place.end l.octets)
      (sayable (l.place.end - l.place.start) l.lengths) found;
}
