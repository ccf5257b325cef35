use Rattle.std.proofs.Common.{◌≡◌, ◌≤◌, ◌∙◌, ◌++◌, List, ℕ, ap, arith, length}
use Rattle.std.proofs.lemmas.List.{take_all}
use Rattle.tlv_io.proofs.HeldTexts.{prefix_written, held_up_to}
use Rattle.tlv_io.proofs.held_octets.HeldOctets.add.Goals as goal

pub returns : goal.returns
returns c =
    let text : List ℕ = c.args.octets.now in
    let copied : List ℕ = c.copy_from_slice.new.self in
    let same : length copied ≡ length text = ap length c.copy_from_slice.ensures.after in
    let long : length text ≤ length copied = omega (arith, same) in
    let short : length copied ≤ length text = omega (arith, same) in
    prefix_written c.self.inside.octets copied _ text c.len-len.result (length text)
    (omega (arith, c.self.invariant, c.self.told)) long
    (take_all (length text) copied short ∙ c.copy_from_slice.ensures.after)
    ∙ ap (λ (l : List ℕ). l ++ text)
    (held_up_to _ _ _ _ c.self.view_is c.len-len.ensures.count (omega (arith, c.self.invariant, c.self.told)))
