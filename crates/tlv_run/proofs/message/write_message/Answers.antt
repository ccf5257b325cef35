use Rattle.std.proofs.Common.{rules}
use Rattle.tlv_run.proofs.message.write_message.Goals as goal

pub returns-clause-writes : goal.returns-clause-writes
returns-clause-writes g c = (c.send.result, search rules)

pub returns-clause-status : goal.returns-clause-status
returns-clause-status g c = search rules
