use Rattle.std.proofs.Common.{rules}
use Rattle.tlv_head.proofs.head_reader.contents_fit.Goals as goal

pub returns-in-Definite-Some : goal.returns-in-Definite-Some
returns-in-Definite-Some c = search rules
