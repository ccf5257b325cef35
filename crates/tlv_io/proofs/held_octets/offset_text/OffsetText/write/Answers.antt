use Rattle.std.proofs.Common.{◌≡◌, ◌+◌, ◌-◌, ◌≤◌, ◌∙◌, ◌++◌, List, [], ℕ, ap, arith, drop, length, take}
use Rattle.std.proofs.lemmas.List.{drop-drop}
use Rattle.tlv_io.specs.LineTexts.{columns}
use Rattle.tlv_io.proofs.OffsetTexts.{last_digits}
use Rattle.tlv_io.proofs.held_octets.offset_text.OffsetText.write.Goals as goal

pub returns : goal.returns
returns c =
    let octets : List ℕ = c.args.octets.now in
    let at : ℕ = c.args.start in
    let kept = c.args.self.now in
    let within : at ≤ length octets = omega (arith, c.requires.within) in
    let end : at + (at + 17 - at) ≡ at + 17 = omega arith in
    let tail : List ℕ = drop (at + 17 - at) (drop at octets) in
    last_digits kept.first c.args.last at kept.zero_bit octets c.copy_from_slice.new.self tail c.in_two_places.result
    within kept.within kept.zeros c.requires.digits (c.copy_from_slice.ensures.after ∙ kept.is) kept.bit
    c.in_two_places.ensures
    ∙ ap (λ (l : List ℕ). take at octets ++ (columns (kept.first + c.args.last) [] ++ l))
    (drop-drop (at + 17 - at) at octets ∙ ap (λ (n : ℕ). drop n octets) end)
