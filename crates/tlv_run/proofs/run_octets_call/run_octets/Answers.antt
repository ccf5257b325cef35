use Rattle.std.proofs.Common.{rules}
use Rattle.tlv_run.proofs.run_octets_call.run_octets.Goals as goal

pub returns-else-read_fails : goal.returns-else-read_fails
returns-else-read_fails g c = search rules

pub returns-then-read_fails : goal.returns-then-read_fails
returns-then-read_fails g c = search rules
