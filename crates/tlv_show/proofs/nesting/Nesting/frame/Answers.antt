use Rattle.std.proofs.Common.{◌-◌, ◌∙◌, ap}
use Rattle.tlv_show.specs.NestingState.{NestingState, surroundings_in}
use Rattle.tlv_show.proofs.FindingLemmas.KeptFrames.{around-same}
use Rattle.tlv_show.proofs.nesting.Nesting.frame.Goals as goal

pub returns-clause-around : goal.returns-clause-around
returns-clause-around c =
    let n = c.self.inside in
    around-same n.frame (n.depth - n.floor) c.self.invariant.innermost
    ∙ ap (λ (s : NestingState). surroundings_in s.frame) c.self.view_is
