use Rattle.std.proofs.Common.{rules}
use Rattle.tlv_value.proofs.value_check.ValueCheck.of_type.Goals as goal

pub returns : goal.returns
returns c = search rules
