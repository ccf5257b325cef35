use Rattle.std.proofs.Common.{rules}
use Rattle.tlv_walk.proofs.walker.Walker.header.Goals as goal

pub read_on-requires-clause-can : goal.read_on-requires-clause-can
read_on-requires-clause-can c = search rules

pub returns-then-matches : goal.returns-then-matches
returns-then-matches c = search rules
