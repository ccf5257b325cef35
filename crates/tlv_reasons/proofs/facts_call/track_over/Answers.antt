use Rattle.std.proofs.Common.{◌∙◌, arith, ap, length, length-append}
use Rattle.tlv_reasons.proofs.TrackLemmas.TrackedWalks.{event-size, track-ended, tracks-on}
use Rattle.tlv_reasons.proofs.facts_call.track_over.Goals as goal

pub note-requires : goal.note-requires
note-requires c =
    c.offset.ensures.value ∙ event-size _ _ _ _ _ _ _ _ c.steps.invariant.tracks c.in-Event.ensures

pub steps-preserved : goal.steps-preserved
steps-preserved c =
    let y = c.in-Event.ensures in
    record {
      within =
          omega (
            arith,
            c.steps.invariant.within,
            y.takes.offset,
            ap length y.takes.piece_is,
            length-append y.takes.taken c.step.new.piece.now,
          );
      tracks = tracks-on _ _ _ _ _ _ _ _ _ c.steps.invariant.tracks y c.note.ensures;
    }

pub returns-in-NeedMore : goal.returns-in-NeedMore
returns-in-NeedMore c =
    track-ended _ _ _ _ _ _ _ _ c.steps.invariant.tracks c.step.ensures c.in-NeedMore.is
