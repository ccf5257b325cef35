use Rattle.std.proofs.Common.{◌<◌, ◌≤◌, ◌+◌, ◌∙◌, ◌++◌, List, [], ℕ, decimal, drop, ap, arith, length, take}
use Rattle.std.proofs.lemmas.Fmt.{length-decimal-le}
use Rattle.tlv_io.specs.LineTexts.{columns}
use Rattle.tlv_io.proofs.HeldTexts.{held_up_to, no_size_written, word_written}
use Rattle.tlv_io.proofs.held_octets.HeldOctets.word_columns.Goals as goal

pub returns : goal.returns
returns c =
    let octets : List ℕ = c.self.inside.octets in
    let at : ℕ = c.len-start.result in
    let kept = c.take_for.new.self in
    let first : List ℕ = decimal c.args.offset in
    let tail : List ℕ = drop (at + 17) octets in
    let within : at ≤ length octets = omega (arith, c.len-start.ensures.within, c.self.told) in
    let below : c.args.offset < 100000000 =
    omega (arith, kept.within, kept.zeros, c.in-Some.ensures.0, c.in-Some.ensures.1) in
    let short : length first ≤ 8 = length-decimal-le 8 c.args.offset (omega arith) below c.ranges.offset.fits in
    let there =
    no_size_written octets first tail at within short _
    (c.write.ensures ∙ ap (λ (n : ℕ). take at octets ++ (columns n [] ++ tail)) c.in-Some.ensures.0) in
    word_written octets first tail at within short _ c.copy_from_slice.new.self c.args.word.now there c.told-word
    c.copy_from_slice.ensures.after
    ∙ ap (λ (l : List ℕ). l ++ columns c.args.offset c.args.word.now)
    (held_up_to _ _ _ _ c.self.view_is (c.len-start.ensures.count ∙ ap length c.self.view_is)
    (omega (arith, c.self.invariant, c.self.told)))
