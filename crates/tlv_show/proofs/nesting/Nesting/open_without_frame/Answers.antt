use Rattle.std.proofs.Common.{◌≡◌, ◌≤◌, ◌-◌, ◌∙◌, false, length, sym, ap, arith}
use Rattle.tlv_show.specs.NestingState.{NestingState, has_frame}
use Rattle.tlv_show.specs.Private.Nesting.{all_frames, outer_frames}
use Rattle.tlv_show.proofs.FindingLemmas.KeptFrames.{frame-same, one_each, open-full, opens-without_frame}
use Rattle.tlv_show.proofs.FindingLemmas.KeptFrames.{without-frame}
use Rattle.tlv_show.proofs.nesting.Nesting.open_without_frame.Goals as goal

pub returns-then-self-lt128 : goal.returns-then-self-lt128
returns-then-self-lt128 c =
    let n = c.self.inside in
    let known = c.self.invariant in
    let none : has_frame n.frame c.args.header.now ≡ false =
    sym (frame-same n.frame (n.depth - n.floor) c.args.header.now known.innermost)
    ∙ ap (λ (s : NestingState). has_frame s.frame c.args.header.now) c.self.view_is
    ∙ c.requires in
    rw (← c.self.view_is)
    (opens-without_frame n.frame n.floor n.depth n.outer known.within known.innermost known.rising c.args.header.now
    c.if-self-lt128.true none)

pub returns-else-self-lt128 : goal.returns-else-self-lt128
returns-else-self-lt128 c =
    let n = c.self.inside in
    let known = c.self.invariant in
    let e = one_each n.frame n.floor n.depth n.outer known.within known.rising in
    let full : 128 ≤ length (outer_frames n.frame (n.depth - n.floor) (all_frames n.floor n.outer)) =
    omega (arith, e, c.if-self-lt128.false) in
    rw (← c.self.view_is) (open-full _ c.args.header.now full)

pub invariant_of-self : goal.invariant_of-self
invariant_of-self c =
    let n = c.self.inside in
    let known = c.self.invariant in
    let none : has_frame n.frame c.args.header.now ≡ false =
    sym (frame-same n.frame (n.depth - n.floor) c.args.header.now known.innermost)
    ∙ ap (λ (s : NestingState). has_frame s.frame c.args.header.now) c.self.view_is
    ∙ c.requires in
    record {
      shallow = omega (arith, c.if-self-lt128.true);
      within = omega (arith, known.within);
      innermost = without-frame n.frame n.floor n.depth c.args.header.now known.within none;
      rising = known.rising;
    }
