use Rattle.std.proofs.Common.{decimal, arith}
use Rattle.std.proofs.lemmas.Fmt.{length-decimal-le}
use Rattle.tlv_io.proofs.HeldTexts.{digits_over, places_over}
use Rattle.tlv_io.proofs.held_octets.numbers.write_size.Goals as goal

pub write_digits-requires : goal.write_digits-requires
write_digits-requires c =
    let few = length-decimal-le 6 c.args.size (omega arith) c.requires.places (omega arith) in
    (omega (arith, few), c.requires.within)

pub returns-then-size-lt100 : goal.returns-then-size-lt100
returns-then-size-lt100 c =
    let few = length-decimal-le 2 c.args.size (omega arith) c.if-size-lt100.true c.ranges.size.fits in
    places_over c.args.octets.now c.args.start c.requires.within c.requires.blank c.in_two_places.result
    (decimal c.args.size) c.in_two_places.ensures few

pub returns-else-size-lt100 : goal.returns-else-size-lt100
returns-else-size-lt100 c =
    let w = c.write_digits in
    let few = length-decimal-le 6 c.args.size (omega arith) c.requires.places c.ranges.size.fits in
    digits_over c.args.octets.now c.args.start c.requires.within c.requires.blank w.new.buf (decimal c.args.size) w.result
    few w.ensures.start w.ensures.before w.ensures.written
