use Rattle.std.proofs.Common.{arith}
use Rattle.std.proofs.lemmas.Grind.{common_steps}
use Rattle.tlv_show.proofs.headers.is_length_padded.Goals as goal

pub returns-else-announced_length-lt128 : goal.returns-else-announced_length-lt128
returns-else-announced_length-lt128 c = grind (arith, common_steps)
