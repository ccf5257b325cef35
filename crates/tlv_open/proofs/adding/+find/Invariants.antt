use Rattle.std.proofs.Common.{◌-◌, ◌+◌, ◌*◌, ◌≤◌, length}
use Rattle.tlv_open.specs.Private.Adds.{IsKept}
use Rattle.tlv_open.specs.Private.Finds.{AddsFirst, found_of}
use Rattle.tlv_open.proofs.FinderLemmas.Sounds.{SaysSoFar}
use Rattle.tlv_open.proofs.adding.+find.Given as goal

abbrev pub decreases-add_string : goal.decreases-add_string
decreases-add_string l = 7 * length l.octets.now

abbrev pub decreases-add_held : goal.decreases-add_held
decreases-add_held l = 7 * length l.octets.now + 6

abbrev pub decreases-add_all_strings : goal.decreases-add_all_strings
decreases-add_all_strings l = 7 * length l.octets.now + 5

abbrev pub decreases-add_ended_strings : goal.decreases-add_ended_strings
decreases-add_ended_strings l = 7 * length l.octets.now + 5

abbrev pub decreases-add_strings : goal.decreases-add_strings
decreases-add_strings l = 7 * length l.octets.now + 4

abbrev pub decreases-add_after_long : goal.decreases-add_after_long
decreases-add_after_long l = 7 * length l.octets.now + 3

abbrev pub decreases-add_with : goal.decreases-add_with
decreases-add_with l = 7 * length l.octets.now + 2

abbrev pub decreases-add_in_holder : goal.decreases-add_in_holder
decreases-add_in_holder l = 7 * length l.octets.now + 1

abbrev pub decreases-add_in_indefinite : goal.decreases-add_in_indefinite
decreases-add_in_indefinite l = 7 * length l.octets.now

abbrev pub invariant-add_strings-loop-at : goal.invariant-add_strings-loop-at
invariant-add_strings-loop-at l = record {
  within : l.at ≤ length l.octets;
  adds : AddsFirst l.spot l.offset l.end_octets l.octets (found_of l.initial.found) (found_of l.found) l.at;
  far : SaysSoFar l.spot l.offset l.end_octets l.octets l.at l.sound;
  kept : IsKept (found_of l.initial.found) (found_of l.found);
}

abbrev pub decreases-add_strings-loop-at : goal.decreases-add_strings-loop-at
decreases-add_strings-loop-at l = length l.octets - l.at
