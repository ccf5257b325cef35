use Rattle.std.proofs.Common.{List, ℕ, min, ap, subst, sym, ◌∙◌}
use Rattle.tlv_show.specs.declared.segment_frame.SegmentFrame.{SegmentFrame}
use Rattle.tlv_show.specs.Private.SegmentCharacters.{AreDone}
use Rattle.tlv_show.proofs.SegmentLemmas.KeptFrames.{done_taken}
use Rattle.tlv_show.proofs.segment_characters.SegmentCharacters.leave.Goals as goal

pub invariant_of-self : goal.invariant_of-self
invariant_of-self c =
    let s = c.self.inside in
    let rest : List SegmentFrame = c.pop.new.self.items in
    record {
      done =
          subst (λ (n : ℕ). AreDone n rest) (sym (c.min-self-inside.ensures ∙ ap (min s.done) c.len.ensures.value))
          (done_taken s.done rest c.in-Some.frame
          (subst (λ (l : List SegmentFrame). AreDone s.done l) c.in-Some.ensures.items c.self.invariant.done));
      none = λ e. absurd (cc (e, c.if-not-self.false));
    }
