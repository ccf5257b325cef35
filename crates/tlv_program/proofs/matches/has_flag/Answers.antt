use Rattle.std.proofs.Common.{rules}
use Rattle.tlv_program.proofs.matches.has_flag.Goals as goal

pub returns-in-Some : goal.returns-in-Some
returns-in-Some c = search rules
