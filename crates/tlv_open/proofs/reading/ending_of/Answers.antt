use Rattle.tlv_open.specs.Opens.{closed_framing}
use Rattle.tlv_walk.proofs.GrammarLemmas.Endings.{sound-done}
use Rattle.tlv_walk.proofs.WalkerLemmas.HasRead.{has_ending}
use Rattle.tlv_open.proofs.reading.ending_of.Goals as goal

pub finish-requires : goal.finish-requires
finish-requires c = c.walk_over.ensures.idle

pub returns : goal.returns
returns c =
    let w = c.walk_over.ensures in
    let ends =
    has_ending _ c.args.octets.now w.yielded _ c.finish.ensures.ending c.finish.ensures.refused w.at_end in
    rw (w.framing_is, c.none.ensures) at ends.is_ending

pub returns-then-are_sound_elements : goal.returns-then-are_sound_elements
returns-then-are_sound_elements c =
    sound-done (closed_framing c.args.padding) c.args.octets.now
    (c.are_sound_elements.ensures (cc c.if-are_sound_elements.true) c.args.padding)
