use Rattle.std.proofs.Common.{arith, rules}
use Rattle.std.proofs.lemmas.Grind.{common_steps}
use Rattle.tlv_walk.proofs.walker.Walker.next_step.Goals as goal

pub returns-in-Refused : goal.returns-in-Refused
returns-in-Refused c = search rules

pub returns-then-is_empty : goal.returns-then-is_empty
returns-then-is_empty c = grind (arith, common_steps)

pub end_filled-requires : goal.end_filled-requires
end_filled-requires c = search rules

pub between-requires : goal.between-requires
between-requires c = search rules
