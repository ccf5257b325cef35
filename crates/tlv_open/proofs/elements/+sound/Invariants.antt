use Rattle.std.proofs.Common.{◌-◌, ◌+◌, ◌*◌, ◌≤◌, length, drop, ℕ}
use Rattle.tlv_open.specs.Private.Elements.{BeginsWithElements, place_at}
use Rattle.tlv_open.proofs.elements.+sound.Given as goal

abbrev pub decreases-element_size : goal.decreases-element_size
decreases-element_size l = 4 * length l.octets.now + 2

abbrev pub decreases-long_element_size : goal.decreases-long_element_size
decreases-long_element_size l = 4 * length l.octets.now + 1

abbrev pub decreases-size_with : goal.decreases-size_with
decreases-size_with l = 4 * length l.octets.now

abbrev pub decreases-elements_size : goal.decreases-elements_size
decreases-elements_size l = 4 * length l.octets.now + 3

abbrev pub invariant-elements_size-loop-at : goal.invariant-elements_size-loop-at
invariant-elements_size-loop-at l = record {
  within : l.at ≤ length l.octets;
  onward : (n : ℕ)
      → BeginsWithElements (place_at (l.offset + l.at) l.depth) l.likely l.end_octets (drop l.at l.octets) n
      → BeginsWithElements (place_at l.offset l.depth) l.likely l.end_octets l.octets (l.at + n);
  back : (n : ℕ) → BeginsWithElements (place_at l.offset l.depth) l.likely l.end_octets l.octets n
      → (m : ℕ) × BeginsWithElements (place_at (l.offset + l.at) l.depth) l.likely l.end_octets (drop l.at l.octets) m;
}

abbrev pub decreases-elements_size-loop-at : goal.decreases-elements_size-loop-at
decreases-elements_size-loop-at l = length l.octets - l.at
