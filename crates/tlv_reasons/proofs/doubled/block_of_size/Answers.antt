use Rattle.std.proofs.Common.{arith}
use Rattle.std.specs.Prelude.{None, Some}
use Rattle.tlv_reasons.specs.Doubled.{not_searched, searched}
use Rattle.tlv_reasons.proofs.doubled.block_of_size.Goals as goal

pub returns-then-octets-gt-WIDE_LIMIT : goal.returns-then-octets-gt-WIDE_LIMIT
returns-then-octets-gt-WIDE_LIMIT c = not_searched (omega (arith, c.if-octets-gt-WIDE_LIMIT.true))

pub returns-in-Some : goal.returns-in-Some
returns-in-Some c =
    searched {found = Some c.in-Some.at} (omega (arith, c.if-octets-gt-WIDE_LIMIT.false))
    (rw c.in-Some.is at c.in_ok-at.ensures)

pub returns-in-None : goal.returns-in-None
returns-in-None c =
    searched {found = None} (omega (arith, c.if-octets-gt-WIDE_LIMIT.false)) (rw c.in-None.is at c.in_ok-at.ensures)
