use Rattle.std.proofs.Common.{◌+◌, ◌∙◌, ◌≤◌, ◌-◌, length, sym, arith}
use Rattle.tlv_show.proofs.FindingLemmas.KeptFrames.{at-floor, fewer-kept, one_each, open-full, opens-frame}
use Rattle.tlv_show.proofs.FindingLemmas.KeptFrames.{rises}
use Rattle.tlv_show.specs.Private.Nesting.{all_frames, outer_frames}
use Rattle.tlv_show.proofs.nesting.Nesting.open.Goals as goal

pub push-requires : goal.push-requires
push-requires c = omega (arith, fewer-kept c.self.inside.floor c.self.inside.outer c.self.invariant.rising)

pub returns : goal.returns
returns c =
    let n = c.self.inside in
    let known = c.self.invariant in
    rw (← c.self.view_is, c.frame_of-self-inside.ensures, c.push.ensures)
    (opens-frame n.frame n.floor n.depth n.outer known.within known.innermost known.rising c.args.header.now
    (omega arith) (sym c.has_frame.ensures ∙ c.if-not-has_frame.false))

pub returns-then-self : goal.returns-then-self
returns-then-self c =
    let n = c.self.inside in
    let known = c.self.invariant in
    let e = one_each n.frame n.floor n.depth n.outer known.within known.rising in
    let full : 128 ≤ length (outer_frames n.frame (n.depth - n.floor) (all_frames n.floor n.outer)) =
    omega (arith, e, c.if-self.true) in
    rw (← c.self.view_is) (open-full _ c.args.header.now full)

pub invariant_of-self : goal.invariant_of-self
invariant_of-self c =
    let n = c.self.inside in
    let known = c.self.invariant in
    rw c.push.ensures
    (record {
      shallow = omega (arith, c.if-self.false, known.shallow);
      within = omega arith;
      innermost = at-floor c.frame_of-self-inside.result (n.depth + 1);
      rising = rises n.frame n.floor n.depth n.outer known.within known.innermost known.rising;
    })
