use Rattle.std.proofs.Common.{arith}
use Rattle.std.proofs.lemmas.Bool.Decides.{nat_tests}
use Rattle.tlv_value.proofs.CheckLemmas.UnitsNoted.{units-closed}
use Rattle.tlv_value.proofs.value_check.units.take_units.Goals as goal

pub returns-then-octets-size-eq0-clause-unit : goal.returns-then-octets-size-eq0-clause-unit
returns-then-octets-size-eq0-clause-unit c =
    units-closed c.args.size c.args.unit.now.items c.args.octets.now c.requires.size
    (grind (arith, nat_tests)) (grind (arith, nat_tests))
