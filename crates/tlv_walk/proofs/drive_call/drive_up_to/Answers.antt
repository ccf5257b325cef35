use Rattle.std.proofs.Common.{rules, ◌≡◌, ℕ, sym}
use Rattle.std.specs.Prelude.{Result}
use Rattle.std.proofs.lemmas.Result.{err_from_is_err_and}
use Rattle.tlv_walk.specs.declared.run.DeviceFault.{DeviceFault}
use Rattle.tlv_io.specs.Device.{DrainState, SourceState}
use Rattle.tlv_walk.specs.declared.framing.Framing.{Framing}
use Rattle.tlv_walk.specs.declared.run.Run.{Run}
use Rattle.tlv_walk.specs.DriveJob.{Drives, drive_states}
use Rattle.tlv_walk.specs.Events.{EventValue}
use Rattle.tlv_walk.specs.Follow.{Effect}
use Rattle.tlv_io.specs.Out.{drain_of}
use Rattle.tlv_walk.proofs.FollowerLemmas.WalkSoFar.{walking_none}
use Rattle.tlv_walk.proofs.FollowerLemmas.Drives.{drives_ended, drives_err, walking_on}
use Rattle.tlv_walk.proofs.FollowerLemmas.MadeAll.{laws_by}
use Rattle.tlv_walk.proofs.drive_call.drive_up_to.Goals as goal

-- what a walk comes to, said of the drain that was lent
drives_lent : {S D : Type 0} (next : S → EventValue → Effect S) (drain : D → DrainState) (f : Framing) (limit : ℕ)
    (s t : S) (old new : SourceState) (d d' e e' : D)
    (result : Result Run DeviceFault) → d ≡ e → d' ≡ e'
    → Drives next f limit (drive_states s old (drain e)) (drive_states t new (drain e')) result
    → Drives next f limit (drive_states s old (drain d)) (drive_states t new (drain d')) result
drives_lent next drain f limit s t old new d d' e e' result from to x = rw (from, to) x

pub turns-init : goal.turns-init
turns-init g c = record {
  taken = search rules;
  walking =
      rw c.new-walker.ensures.state
      (walking_none g.F.Follow.next _ _ _ _ (rw c.new-walker.ensures.state at c.new-walker.ensures.stands));
  ready = search rules;
  room = search rules;
  empty = search rules;
  same_reference = search rules;
}

pub turns-preserved : goal.turns-preserved
turns-preserved g c = record {
  taken = search rules;
  walking =
      walking_on g.F.Follow.next _ _ _ _ _ _ c.turns.invariant.walking _ _ _ c.turn_with.ensures.read (search rules)
      c.turns.invariant.taken (search rules);
  ready = search rules;
  room = search rules;
  empty = search rules;
  same_reference = search rules;
}

pub returns-in_err-turn_with : goal.returns-in_err-turn_with
returns-in_err-turn_with g c =
    let law = g.met.F.Follow in
    let p = err_from_is_err_and c.from_residual.result c.from_residual.ensures.1 in rw (p.1, p.2)
    (drives_lent g.F.Follow.next g.D.Drain.state _ _ _ _ _ _ _ _ (drain_of c.new-out.result).now
    (drain_of c.turn_with.new.out).now _ (sym c.new-out.ensures.drain) (search rules)
    (drives_err g.F.Follow.next _ _ _ _ _ _ c.turns.invariant.walking _ _ _ c.turn_with.ensures.read (search rules)
    c.turns.invariant.taken
    (laws_by g.F.Follow.next law.bytes_join law.bytes_empty law.bytes_go_on law.pad_join law.pad_empty law.pad_go_on)
    c.in_err-turn_with.field-0.0 (search rules)))

pub returns-in-Ended : goal.returns-in-Ended
returns-in-Ended g c =
    let law = g.met.F.Follow in
    drives_lent g.F.Follow.next g.D.Drain.state _ _ _ _ _ _ _ _ (drain_of c.new-out.result).now
    (drain_of c.turn_with.new.out).now _ (sym c.new-out.ensures.drain) (search rules)
    (drives_ended g.F.Follow.next _ _ _ _ _ _ c.turns.invariant.walking _ _ _ c.turn_with.ensures.read (search rules)
    c.turns.invariant.taken
    (laws_by g.F.Follow.next law.bytes_join law.bytes_empty law.bytes_go_on law.pad_join law.pad_empty law.pad_go_on)
    _ (search rules))
