use Rattle.tlv_value.proofs.TextLemmas.UnitSteps.{is_utf8-same}
use Rattle.tlv_value.proofs.value_check.utf8_rows.is_utf8.Goals as goal

pub returns : goal.returns
returns c = is_utf8-same c.args.octets.now c.is_utf8.result c.is_utf8.ensures
