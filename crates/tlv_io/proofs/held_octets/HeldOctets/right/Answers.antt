use Rattle.std.proofs.Common.{◌∙◌, ◌++◌, decimal, ap, arith, rules}
use Rattle.std.proofs.lemmas.Fmt.{length-decimal-le}
use Rattle.tlv_io.specs.LineTexts.{at_right}
use Rattle.tlv_io.proofs.HeldTexts.{right_written, held_up_to}
use Rattle.tlv_io.proofs.held_octets.HeldOctets.right.Goals as goal

pub overflow_add-end : goal.overflow_add-end
overflow_add-end c =
    let few = length-decimal-le 20 c.args.number (omega arith) (omega arith) c.ranges.number.fits in
    omega (arith, c.len-start.ensures.within, c.max.ensures, c.digit_count.ensures, few, c.requires.places)

pub write_digits-requires : goal.write_digits-requires
write_digits-requires c =
    let few = length-decimal-le 20 c.args.number (omega arith) (omega arith) c.ranges.number.fits in
    (omega (arith, few), search rules)

pub returns : goal.returns
returns c =
    let w = c.write_digits in
    right_written c.self.inside.octets w.new.buf _ (decimal c.args.number) _ c.copy_from_slice.new.self
    c.len-start.result w.result _ c.args.places 20 (search rules) c.requires.places (omega arith) (omega arith)
    c.copy_from_slice.ensures.after w.ensures.before w.ensures.written
    ∙ ap (λ l. l ++ at_right c.args.places (decimal c.args.number))
    (held_up_to _ _ _ _ c.self.view_is c.len-start.ensures.count (omega (arith, c.self.invariant, c.self.told)))
