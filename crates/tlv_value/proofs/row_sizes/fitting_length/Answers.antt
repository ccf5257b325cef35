use Rattle.std.proofs.Common.{rules}
use Rattle.tlv_value.proofs.row_sizes.fitting_length.Goals as goal

pub loop-i-preserved : goal.loop-i-preserved
loop-i-preserved c = search rules
