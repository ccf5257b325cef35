use Rattle.std.proofs.Common.{rules}
use Rattle.tlv_program.proofs.command_of_call.dump_command.Goals as goal

pub returns-in_default-limit_value : goal.returns-in_default-limit_value
returns-in_default-limit_value c = search rules

pub returns : goal.returns
returns c = search rules
