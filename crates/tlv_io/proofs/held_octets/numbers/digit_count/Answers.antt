use Rattle.std.proofs.Common.{sym}
use Rattle.itoa.proofs.Decimal.{length_one}
use Rattle.tlv_io.proofs.HeldTexts.{digits_of_power}
use Rattle.tlv_io.proofs.held_octets.numbers.digit_count.Goals as goal

pub returns-then-number-lt10 : goal.returns-then-number-lt10
returns-then-number-lt10 c = sym (length_one c.args.number c.if-number-lt10.true)

pub returns-else-number-lt10 : goal.returns-else-number-lt10
returns-else-number-lt10 c =
    digits_of_power c.ilog10.result c.args.number c.ranges.number.fits c.ilog10.ensures.power_le
    c.ilog10.ensures.next_power_gt
