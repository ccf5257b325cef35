use Rattle.std.proofs.Common.{ℕ, ◌-◌, ◌*◌, ◌≤◌, ◌∷◌, [], append_assoc, length, ap, arith, length-append, refl}
use Rattle.std.specs.Prelude.{codes, decimal}
use Rattle.tlv_value.proofs.TextLemmas.RowTextLengths.{digits-short}
use Rattle.tlv_value.proofs.value.write_bit_count.Goals as goal

pub add-requires-2 : goal.add-requires-2
add-requires-2 c =
    let n : ℕ = 8 * c.from.result - c.from-2.result in
    let short : length (decimal n) ≤ 39 = digits-short n (omega (arith, c.from.ensures, c.ranges.octet_count.fits)) in
    omega (
      arith,
      ap length c.wide_number.ensures,
      length-append c.add.new.self (decimal n),
      ap length c.add.ensures,
      length-append c.args.held.now (32 ∷ []),
      short,
      c.requires.room,
    )

pub returns : goal.returns
returns c =
    let n : ℕ = 8 * c.from.result - c.from-2.result in
    let short : length (decimal n) ≤ 39 = digits-short n (omega (arith, c.from.ensures, c.ranges.octet_count.fits)) in
    record {
      text =
          rw (c.add-2.ensures, c.wide_number.ensures, c.add.ensures, c.from.ensures, c.from-2.ensures)
          (simp append_assoc refl);
      within = omega (
        arith,
        ap length c.add-2.ensures,
        length-append c.wide_number.new.self (codes " bits"),
        ap length c.wide_number.ensures,
        length-append c.add.new.self (decimal n),
        ap length c.add.ensures,
        length-append c.args.held.now (32 ∷ []),
        short,
      );
    }
