use Rattle.tlv_show.proofs.FindingLemmas.ListedTables.{checks-listed}
use Rattle.tlv_show.proofs.check_call.check.Goals as goal

pub returns : goal.returns
returns g c =
    checks-listed c.listed.result c.args.rules c.args.framing.now _ _ _ c.listed.ensures c.check_by.ensures
