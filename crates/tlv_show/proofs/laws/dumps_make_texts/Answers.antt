use Rattle.tlv_walk.specs.Events.{events}
use Rattle.tlv_show.specs.ShowJob.{top_layout}
use Rattle.tlv_show.specs.WantedJobs.{wanted_in}
use Rattle.tlv_show.specs.DumpStep.{new_dump_with}
use Rattle.tlv_show.proofs.DumpLemmas.DumpFolds.{count-made, text-made}
use Rattle.tlv_show.proofs.DumpLemmas.DumpSteps.{all_on}
use Rattle.tlv_show.proofs.laws.dumps_make_texts.Goals as goal

pub returns : goal.returns
returns c =
    λ scope with_text options names b f few
    r. (
      text-made scope with_text options names b f few r,
      count-made scope with_text options names b f few r,
      all_on (new_dump_with with_text (wanted_in scope options) (top_layout options) names) (events f),
    )
