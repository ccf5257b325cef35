use Rattle.tlv_walk.specs.Events.{events}
use Rattle.tlv_show.specs.FinderState.{new_check}
use Rattle.tlv_show.proofs.FindingLemmas.CheckFolds.{all_on, count-made, text-made}
use Rattle.tlv_show.proofs.laws.checks_make_texts.Goals as goal

pub returns : goal.returns
returns c =
    λ wanted framing b f few
    r. (text-made wanted framing b f few r, count-made wanted framing b f few r, all_on (new_check wanted) (events f))
