use Rattle.std.proofs.Common.{arith, sym}
use Rattle.std.proofs.lemmas.Grind.{common_steps}
use Rattle.tlv_value.proofs.CheckLemmas.Noting.{no-80}
use Rattle.tlv_value.proofs.value_check.notes.is_padded_after.Goals as goal

pub returns-then-not-contains : goal.returns-then-not-contains
returns-then-not-contains c = sym (no-80 c.args.previous c.args.octets.now (sym c.if-not-contains.ensures.value))

pub returns-then-octet : goal.returns-then-octet
returns-then-octet c = grind (arith, common_steps)

pub loop-octet-preserved : goal.loop-octet-preserved
loop-octet-preserved c = grind (arith, common_steps)

pub returns : goal.returns
returns c = grind (arith, common_steps)
