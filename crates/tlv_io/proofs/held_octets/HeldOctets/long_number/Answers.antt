use Rattle.std.proofs.Common.{◌≡◌, ◌∙◌, ◌++◌, take, decimal, ap, arith, rules}
use Rattle.std.proofs.lemmas.Fmt.{length-decimal-le}
use Rattle.tlv_io.proofs.HeldTexts.{text_written, held_up_to}
use Rattle.tlv_io.proofs.held_octets.HeldOctets.long_number.Goals as goal

pub overflow_add-end : goal.overflow_add-end
overflow_add-end c =
    let few = length-decimal-le 20 c.args.number (omega arith) (omega arith) c.ranges.number.fits in
    omega (arith, c.self.invariant, c.digit_count.ensures, few)

pub write_digits-requires : goal.write_digits-requires
write_digits-requires c =
    let few = length-decimal-le 20 c.args.number (omega arith) (omega arith) c.ranges.number.fits in
    (omega (arith, c.digit_count.ensures), search (rules, few))

pub returns : goal.returns
returns c =
    let w = c.write_digits in
    let at : w.result ≡ c.len.result = omega (arith, w.ensures.start, c.digit_count.ensures) in
    text_written w.new.buf _ (decimal c.args.number) _ w.result
    _ (w.ensures.before ∙ ap (λ n. take n c.self.inside.octets) at) w.ensures.written
    (omega (arith, w.ensures.start))
    ∙ ap (λ l. l ++ decimal c.args.number)
    (held_up_to _ _ _ _ c.self.view_is c.len.ensures.count (omega (arith, c.self.invariant, c.self.told)))
