use Rattle.tlv_show.proofs.DumpLemmas.DumpEvents.{primitives_are_shown}
use Rattle.tlv_show.proofs.laws.primitives_are_shown.Goals as goal

pub returns : goal.returns
returns c = primitives_are_shown
