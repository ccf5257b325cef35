use Rattle.std.proofs.Common.{◌≡◌, ◌<◌, ◌≤◌, ◌-◌, ◌%◌, ◌∙◌, ℕ, [], ap, arith}
use Rattle.std.proofs.lemmas.Fmt.{length-decimal-le}
use Rattle.tlv_io.specs.LineTexts.{columns}
use Rattle.tlv_io.specs.Private.OffsetText.{zero_bit_of}
use Rattle.tlv_io.proofs.OffsetTexts.{all_digits, bit-of_none, bit-of_some, digits_before}
use Rattle.tlv_io.proofs.held_octets.offset_text.OffsetText.take_other.Goals as goal
use Rattle.tlv_io.proofs.held_octets.offset_text.OffsetText.take_other.Goals.{then-ten_thousands-gt0+then-first-ten_thousands, else-ten_thousands-gt0}
use Rattle.tlv_io.proofs.held_octets.offset_text.OffsetText.take_other.Goals.{then-first-gt0, else-first-gt0}

pub write_digits-requires : goal.write_digits-requires
write_digits-requires c =
    let n : ℕ = c.args.offset - c.args.offset % 100 in
    let below : n < 100000000 = omega (arith, c.requires) in
    (length-decimal-le 8 n (omega arith) below (omega (arith, below)), omega arith)

pub invariant_of-self : goal.invariant_of-self
invariant_of-self c =
    let kept = c.args.self.now in
    let n : ℕ = c.args.offset - c.args.offset % 100 in
    let below : n < 100000000 = omega (arith, c.requires) in
    let others : n % 100 ≡ 0 = omega arith in
    let is : c.if-ten_thousands-gt0.self.1.1.0 ≡ columns n [] = elim c.if-ten_thousands-gt0.branch [
      | then-ten_thousands-gt0+then-first-ten_thousands w ↦
          let many : 10000 ≤ kept.first = omega (arith, w.if-ten_thousands-gt0.true) in
          ap (λ t. t.1.1.0) w.self-is
          ∙ digits_before kept.first n kept.text w.two_digits.result many kept.within below kept.zeros
          others w.if-first-ten_thousands.true kept.is w.two_digits.ensures
      | else-ten_thousands-gt0 w ↦ ap (λ t. t.1.1.0) w.self-is
          ∙ all_digits n w.write_digits.result w.write_digits.new.buf below w.write_digits.ensures.start
          w.write_digits.ensures.before w.write_digits.ensures.written
    ] in
    let bit : c.if-first-gt0.self ≡ zero_bit_of n = elim c.if-first-gt0.branch [
      | then-first-gt0 w ↦ w.self-is ∙ bit-of_some n w.if-first-gt0.true
      | else-first-gt0 w ↦ w.self-is ∙ bit-of_none n w.if-first-gt0.false
    ] in
    record {
      is = is;
      zeros = others;
      within = below;
      bit = bit;
    }
