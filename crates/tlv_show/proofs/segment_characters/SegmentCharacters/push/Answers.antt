use Rattle.std.proofs.Common.{List, sym, subst}
use Rattle.std.proofs.lemmas.Bool.{true≢false}
use Rattle.tlv_show.specs.declared.segment_frame.SegmentFrame.{SegmentFrame}
use Rattle.tlv_show.specs.Private.SegmentCharacters.{AreDone}
use Rattle.tlv_show.proofs.SegmentLemmas.KeptFrames.{done_pushed}
use Rattle.tlv_show.proofs.segment_characters.SegmentCharacters.push.Goals.{then-self, else-self}
use Rattle.tlv_show.proofs.segment_characters.SegmentCharacters.push.Goals as goal

pub invariant_of-self : goal.invariant_of-self
invariant_of-self c =
    let s = c.self.inside in
    record {
      done = elim c.if-self.branch [
        | then-self w ↦ subst (λ t. AreDone t.done t.outer.items) (sym w.self-inside-is)
            (subst (λ (l : List SegmentFrame). AreDone s.done l) (sym w.push.ensures.items)
            (done_pushed s.done s.outer.items _ c.self.invariant.done))
        | else-self w ↦ subst (λ t. AreDone t.done t.outer.items) (sym w.self-inside-is) c.self.invariant.done
      ];
      none = λ e. absurd (true≢false e);
    }
