use Rattle.std.proofs.Common.{◌∙◌, ◌++◌, List, ℕ, ap, arith, length, length-take}
use Rattle.tlv_io.specs.LineTexts.{spaced_pairs}
use Rattle.tlv_io.proofs.HeldTexts.{prefix_written, held_up_to, pairs-size}
use Rattle.tlv_io.proofs.held_octets.HeldOctets.spaced_row.Goals as goal

pub returns : goal.returns
returns c =
    prefix_written c.self.inside.octets c.write_spaced_row.new.to _ (spaced_pairs c.args.octets.now) c.len-len.result
    48 (omega (arith, c.self.invariant, c.self.told))
    (omega (
      arith,
      ap length c.write_spaced_row.ensures.text,
      length-take 48 c.write_spaced_row.new.to,
      pairs-size c.args.octets.now,
      c.told-octets,
    ))
    c.write_spaced_row.ensures.text
    ∙ ap (λ (l : List ℕ). l ++ spaced_pairs c.args.octets.now)
    (held_up_to _ _ _ _ c.self.view_is c.len-len.ensures.count (omega (arith, c.self.invariant, c.self.told)))
