use Rattle.std.proofs.Common.{rules}
use Rattle.tlv_run.proofs.command.Command.file.Goals as goal

pub returns-in-Dump : goal.returns-in-Dump
returns-in-Dump c = search rules
