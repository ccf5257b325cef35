use Rattle.std.proofs.Common.{ap, ◌∙◌}
use Rattle.tlv_show.specs.SegmentCharactersState.{segments_after_octets}
use Rattle.tlv_show.proofs.SegmentLemmas.KeptFrames.{kept_after}
use Rattle.tlv_show.proofs.segment_characters.SegmentCharacters.octets.Goals as goal

pub returns-then-self : goal.returns-then-self
returns-then-self c =
    let s = c.self.inside in
    let octets = c.args.octets.now in
    kept_after s.is_open octets s.frame c.look_at.new.frame s.outer.items c.look_outside-self-inside.new.outer.items
    c.look_at.ensures c.look_outside-self-inside.ensures.frames
    ∙ ap (segments_after_octets octets) c.self.view_is
