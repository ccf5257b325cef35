use Rattle.std.proofs.Common.{◌<◌, List, length, get_or, ap, subst, sym, ◌∙◌, arith}
use Rattle.tlv_show.specs.declared.segment_frame.SegmentFrame.{SegmentFrame}
use Rattle.tlv_show.specs.Private.SegmentCharacters.{AreDone}
use Rattle.tlv_show.proofs.SegmentLemmas.KeptFrames.{after_all_done, after_from_done, done_after, done-fewer, done_next}
use Rattle.tlv_show.proofs.SegmentLemmas.KeptFrames.{length-after}
use Rattle.tlv_show.specs.Private.SegmentCharacters.{is_done}
use Rattle.tlv_show.proofs.segment_characters.look_outside.Goals as goal

pub returns-then-done-len-clause-frames : goal.returns-then-done-len-clause-frames
returns-then-done-len-clause-frames c =
    let outer = c.args.outer.now.items in
    sym
    (after_all_done c.args.octets.now outer
    (done-fewer c.args.done _ outer (omega (arith, c.len.ensures.value, c.if-done-len.true)) c.requires))

pub returns-then-is_done-clause-frames : goal.returns-then-is_done-clause-frames
returns-then-is_done-clause-frames c =
    c.look_from.ensures ∙ after_from_done c.args.done c.args.octets.now c.args.outer.now.items c.requires

pub returns-then-is_done-clause-done : goal.returns-then-is_done-clause-done
returns-then-is_done-clause-done c =
    let outer = c.look_from.new.outer.items in
    let few : c.args.done < length outer =
    omega (
      arith,
      c.len.ensures.value,
      c.if-done-len.false,
      ap length c.look_from.ensures,
      length-after c.args.done c.args.octets.now c.args.outer.now.items,
    ) in
    let rest : AreDone c.args.done outer =
    subst (λ (l : List SegmentFrame). AreDone c.args.done l) (sym c.look_from.ensures)
    (done_after c.args.done c.args.octets.now c.args.outer.now.items c.requires) in
    let one_more = ap (λ (l : List SegmentFrame). is_done (get_or l c.args.done _)) c.deref.ensures.0 in
    done_next c.args.done outer _ rest few (sym one_more ∙ sym c.if-is_done.ensures)

pub returns-else-is_done-clause-frames : goal.returns-else-is_done-clause-frames
returns-else-is_done-clause-frames c =
    c.look_from.ensures ∙ after_from_done c.args.done c.args.octets.now c.args.outer.now.items c.requires

pub returns-else-is_done-clause-done : goal.returns-else-is_done-clause-done
returns-else-is_done-clause-done c =
    subst (λ (l : List SegmentFrame). AreDone c.args.done l) (sym c.look_from.ensures)
    (done_after c.args.done c.args.octets.now c.args.outer.now.items c.requires)
