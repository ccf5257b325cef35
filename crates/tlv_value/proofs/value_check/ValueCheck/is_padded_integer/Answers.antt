use Rattle.std.proofs.Common.{rules}
use Rattle.tlv_value.proofs.value_check.ValueCheck.is_padded_integer.Goals as goal

pub returns-in-0 : goal.returns-in-0
returns-in-0 c = search rules

pub returns-in-255 : goal.returns-in-255
returns-in-255 c = search rules
