use Rattle.std.proofs.Common.{◌≡◌, sym, ap, ◌∙◌, arith, false, true}
use Rattle.tlv_head.specs.Header.{HeaderValue}
use Rattle.tlv_walk.specs.Follow.{effect_of, whole_events}
use Rattle.tlv_walk.proofs.FollowerLemmas.WholeResults.{if_failed, if_followed}
use Rattle.tlv_run.specs.declared.extract_follower.Position.TheVariants.{Before, Within, After}
use Rattle.tlv_run.specs.ExtractStep.{ExtractState, extract_step}
use Rattle.tlv_run.proofs.ExtractLemmas.Primitives.{differ-differ, has_failed_whole, has_put_none, has_put_whole}
use Rattle.tlv_run.proofs.ExtractLemmas.Primitives.{whole_before, whole_after, whole_inside}
use Rattle.tlv_run.proofs.extract_follower.ExtractFollow.whole.Goals as goal
use Rattle.tlv_run.proofs.extract_follower.ExtractFollow.whole.Goals.{in-Before}
use Rattle.tlv_run.proofs.extract_follower.ExtractFollow.whole.Goals.{in-Within+in_ok-put-in-Within}
use Rattle.tlv_run.proofs.extract_follower.ExtractFollow.whole.Goals.{in-Within-2, in-After}

pub returns-in_err-put-in-Within-clause-failed : goal.returns-in_err-put-in-Within-clause-failed
returns-in_err-put-in-Within-clause-failed g c =
    let is : c.args.self.now.position ≡ Within c.in-Within.count =
    ap (λ (s : ExtractState). s.position) (sym c.self.view_is) ∙ c.in-Within.is in
    if_failed g.D.Drain.state _ _ _ _ _ _
    (has_failed_whole g.D.Drain.state c.args.out.now c.put.new.self c.args.self.now _ c.args.octets.now _
    c.from_residual.result _
    (whole_inside c.args.self.now c.args.header.now c.args.octets.now c.in-Within.count is
    (omega arith) c.requires.whole.header)
    c.in_err-put-in-Within.ensures.puts c.from_residual.ensures.0)

pub returns-clause-followed : goal.returns-clause-followed
returns-clause-followed g c =
    let s = c.args.self.now in
    let h = c.args.header.now in
    let octets = c.args.octets.now in
    let m = effect_of extract_step s (whole_events h octets) in
    elim c.match-self.branch [
      | in-Before w ↦
          let is : s.position ≡ Before = ap (λ (s : ExtractState). s.position) (sym c.self.view_is) ∙ w.in-Before.is in
          rw (w.out-is, w.result-is)
          (if_followed g.D.Drain.state _ _ _ s _ _
          (has_put_none g.D.Drain.state c.args.out.now s m _
          (λ x. whole_before s h octets is
          (differ-differ h.offset s.offset c.header.inside.offset c.self.inside.offset
          (sym (ap (λ (k : HeaderValue). k.offset) c.header.view_is))
          (sym (ap (λ (k : ExtractState). k.offset) c.self.view_is)) x))))
      | in-Within+in_ok-put-in-Within w ↦
          let is : s.position ≡ Within w.in-Within.count =
          ap (λ (s : ExtractState). s.position) (sym c.self.view_is) ∙ w.in-Within.is in
          rw (w.out-is, w.result-is)
          (if_followed g.D.Drain.state _ _ _ s _ _
          (has_put_whole g.D.Drain.state c.args.out.now w.put.new.self s m octets
          (whole_inside s h octets w.in-Within.count is (omega arith) c.requires.whole.header)
          w.in_ok-put-in-Within.ensures.puts))
      | in-Within-2 w ↦ rw (w.out-is, w.result-is)
          (if_followed g.D.Drain.state _ _ _ s _ _
          (has_put_none g.D.Drain.state c.args.out.now s m false (λ x. absurd (cc (x)))))
      | in-After w ↦
          let is : s.position ≡ After = ap (λ (s : ExtractState). s.position) (sym c.self.view_is) ∙ w.in-After.is in
          rw (w.out-is, w.result-is) (if_followed g.D.Drain.state _ _ _ s _ _
          (has_put_none g.D.Drain.state c.args.out.now s m true
          (λ x. whole_after s h octets is)))
    ]
