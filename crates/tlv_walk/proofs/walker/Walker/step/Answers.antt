use Rattle.tlv_walk.proofs.WalkerLemmas.StepStands.{steps_to}
use Rattle.tlv_walk.proofs.walker.Walker.step.Goals as goal

pub returns : goal.returns
returns c = steps_to _ _ _ _ c.next_step.result c.next_step.ensures.steps c.next_step.ensures.again
