use Rattle.std.proofs.Common.{arith, rules}
use Rattle.std.proofs.lemmas.Grind.{elements}
use Rattle.tlv_show.proofs.lines.put_bytes.Goals as goal

pub bytes-requires : goal.bytes-requires
bytes-requires g c = search rules

pub returns-clause-state : goal.returns-clause-state
returns-clause-state g c = grind (arith, elements)

pub returns-clause-puts : goal.returns-clause-puts
returns-clause-puts g c = grind (arith, elements)
