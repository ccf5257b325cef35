use Rattle.std.proofs.Common.{rules}
use Rattle.tlv_program.proofs.values.limit_value.Goals as goal

pub returns-in-Some-bounded_number : goal.returns-in-Some-bounded_number
returns-in-Some-bounded_number c = search rules
