use Rattle.tlv_io.proofs.HeldTexts.{one_digit, two_places_of}
use Rattle.tlv_io.proofs.held_octets.numbers.short_digits.Goals as goal

pub returns-then-number-lt10-clause-digits : goal.returns-then-number-lt10-clause-digits
returns-then-number-lt10-clause-digits c =
    one_digit c.args.number c.in_two_places.result c.if-number-lt10.true c.in_two_places.ensures

pub returns-else-number-lt10-clause-digits : goal.returns-else-number-lt10-clause-digits
returns-else-number-lt10-clause-digits c =
    two_places_of c.args.number c.in_two_places.result c.if-number-lt10.false c.requires c.in_two_places.ensures
