use Rattle.std.proofs.Common.{◌≤◌, ◌+◌, ◌-◌, ◌++◌, List, ℕ, length}
use Rattle.tlv_walk.specs.declared.framing.Framing.{Framing}
use Rattle.tlv_open.specs.Private.Walks.{HasWalkedOver}
use Rattle.tlv_open.proofs.FinderLemmas.Walks.{IsOnItsWay}
use Rattle.tlv_open.proofs.reading.walk_on.Given as goal

abbrev pub invariant-steps : goal.invariant-steps
invariant-steps l = record {
  within : l.walker.offset + length l.rest ≤ l.initial.walker.offset + length l.octets;
  walks : (framing : Framing) (octets : List ℕ) → HasWalkedOver framing octets l.initial.walker
      → IsOnItsWay framing (octets ++ l.octets) l.walker l.rest;
}

-- each event counts, and no more events are yielded than octets are taken
abbrev pub decreases-steps : goal.decreases-steps
decreases-steps l = l.walker.offset + length l.rest - l.walker.events
