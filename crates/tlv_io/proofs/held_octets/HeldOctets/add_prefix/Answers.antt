use Rattle.std.proofs.Common.{◌∙◌, ◌++◌, List, ℕ, ap, arith, length, take}
use Rattle.tlv_io.proofs.HeldTexts.{prefix_written, held_up_to}
use Rattle.tlv_io.proofs.held_octets.HeldOctets.add_prefix.Goals as goal

pub returns : goal.returns
returns g c =
    let text : List ℕ = take c.args.count c.args.octets.now in
    prefix_written c.self.inside.octets c.copy_from_slice.new.self _ text c.len-len.result c.args.count
    (omega (arith, c.self.invariant, c.self.told))
    (omega (arith, c.requires.within, c.told-octets, ap length c.copy_from_slice.ensures.after))
    (ap (take c.args.count) c.copy_from_slice.ensures.after)
    ∙ ap (λ (l : List ℕ). l ++ text)
    (held_up_to _ _ _ _ c.self.view_is c.len-len.ensures.count (omega (arith, c.self.invariant, c.self.told)))
