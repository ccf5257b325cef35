use Rattle.tlv_show.proofs.FindingLemmas.ListedTables.{dumps-listed}
use Rattle.tlv_show.proofs.dump_call.dump.Goals as goal

pub returns : goal.returns
returns g c = dumps-listed c.args.options.now _ _ _ _ c.dump_by.ensures
