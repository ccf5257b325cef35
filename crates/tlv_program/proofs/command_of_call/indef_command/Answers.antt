use Rattle.std.proofs.Common.{rules}
use Rattle.tlv_program.proofs.command_of_call.indef_command.Goals as goal

pub returns : goal.returns
returns c = search rules
