use Rattle.std.proofs.Common.{◌≤◌, ◌+◌, ◌-◌, length}
use Rattle.tlv_reasons.proofs.TrackLemmas.TrackedWalks.{TracksOn}
use Rattle.tlv_reasons.proofs.facts_call.track_over.Given as goal

abbrev pub invariant-steps : goal.invariant-steps
invariant-steps l = record {
  within : l.walker.offset + length l.rest ≤ l.initial.walker.offset + length l.octets;
  tracks : TracksOn l.initial.walker.framing l.octets l.walker l.rest l.tracker;
}

-- each event counts, and no more events are yielded than octets are taken
abbrev pub decreases-steps : goal.decreases-steps
decreases-steps l = l.walker.offset + length l.rest - l.walker.events
