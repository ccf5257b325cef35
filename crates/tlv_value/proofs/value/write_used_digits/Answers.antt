use Rattle.std.proofs.Common.{◌≡◌, ℕ, ◌+◌, ◌-◌, ◌++◌, ◌∷◌, [], List, length, take, get_or, sym, ap, ap₂, ◌∙◌, arith}
use Rattle.std.proofs.Common.{length-append, length-take}
use Rattle.std.proofs.lemmas.List.{take_all}
use Rattle.tlv_value.specs.Bits.{bits_of, last_bits}
use Rattle.tlv_value.specs.Value.{used_digits}
use Rattle.tlv_value.proofs.TextLemmas.Texts.{digits-cut, length-digits, length-digits_of_octet, used-last}
use Rattle.tlv_value.proofs.value.write_used_digits.Goals as goal
use Rattle.tlv_value.specs.Private.Rows.{digits_of_bits}

pub add-requires-in-loop-octet : goal.add-requires-in-loop-octet
add-requires-in-loop-octet c =
    let prefix : List ℕ = c.in-Some.prefix.now in
    let i : ℕ = c.loop-octet.octet-index in
    let all : length c.args.octets.now ≡ length prefix + 1 =
    ap length c.in-Some.ensures.cases.0 ∙ length-append prefix (c.in-Some.last.now ∷ []) in
    let size = length-digits_of_octet (get_or prefix i 0) in
    omega (
      arith,
      ap length c.loop-octet.invariant,
      length-append c.args.held.now (32 ∷ digits_of_bits (bits_of (take i prefix))),
      length-digits (take i prefix),
      length-take i prefix,
      all,
      ap length c.digits_of_octet.ensures,
      size,
      c.requires.short,
      c.requires.room,
      c.loop-octet-test.true,
    )

pub add-requires-2 : goal.add-requires-2
add-requires-2 c =
    let prefix : List ℕ = c.in-Some.prefix.now in
    let i : ℕ = c.loop-octet.octet-index in
    let all : length c.args.octets.now ≡ length prefix + 1 =
    ap length c.in-Some.ensures.cases.0 ∙ length-append prefix (c.in-Some.last.now ∷ []) in
    omega (
      arith,
      ap length c.loop-octet.invariant,
      length-append c.args.held.now (32 ∷ digits_of_bits (bits_of (take i prefix))),
      length-digits (take i prefix),
      length-take i prefix,
      all,
      ap length c.digits_of_octet-2.ensures,
      length-digits_of_octet c.in-Some.last.now,
      c.requires.short,
      c.requires.room,
    )

pub returns : goal.returns
returns c =
    let prefix : List ℕ = c.in-Some.prefix.now in
    let shown : List ℕ = 32 ∷ digits_of_bits (bits_of prefix) in
    let digits : List ℕ = digits_of_bits (last_bits 8 c.in-Some.last.now) in
    let looped : c.loop-octet.held ≡ c.args.held.now ++ shown =
    c.loop-octet.invariant
    ∙ ap (λ (l : List ℕ). c.args.held.now ++ 32 ∷ digits_of_bits (bits_of l))
    (take_all c.loop-octet.octet-index prefix (omega (arith, c.loop-octet-test.false))) in
    let added : c.add-2.new.self ≡ (c.args.held.now ++ shown) ++ digits =
    c.add-2.ensures ∙ ap₂ (λ (l d : List ℕ). l ++ d) looped c.digits_of_octet-2.ensures in
    let n : ℕ = c.len.result - c.from.result in
    let cut =
    digits-cut c.args.held.now shown digits c.args.unused_bits n c.requires.unused_bits
    (length-digits_of_octet c.in-Some.last.now)
    (omega (arith, c.len.ensures.count, ap length added, c.from.ensures)) in
    let used : used_digits c.args.unused_bits c.args.octets.now ≡ shown ++ take (8 - c.args.unused_bits) digits =
    ap (used_digits c.args.unused_bits) c.in-Some.ensures.cases.0
    ∙ used-last c.args.unused_bits prefix c.in-Some.last.now c.requires.unused_bits in
    c.truncate.ensures ∙ ap (λ (l : List ℕ). take n l) added ∙ cut
    ∙ ap (λ (l : List ℕ). c.args.held.now ++ l) (sym used)
