use Rattle.std.proofs.Common.{◌≡◌, ◌++◌, ◌∷◌, [], ◌∙◌, List, ℕ, ap, arith, length}
use Rattle.std.specs.Prelude.{false, nat_le, true}
use Rattle.std.proofs.lemmas.Bool.Decides.{nat_tests}
use Rattle.tlv_value.proofs.value_text.begin_row.Goals as goal

pub push-requires : goal.push-requires
push-requires c = (omega arith, omega (arith, ap length c.requires))

pub returns-then-unused_bits-gt7 : goal.returns-then-unused_bits-gt7
returns-then-unused_bits-gt7 c =
    let b : nat_le c.args.unused_bits 7 ≡ false = grind (arith, nat_tests) in
    rw b (c.push.ensures.items ∙ ap (λ (row : List ℕ). row ++ c.args.unused_bits ∷ []) c.requires)

pub returns-else-unused_bits-gt7 : goal.returns-else-unused_bits-gt7
returns-else-unused_bits-gt7 c =
    let b : nat_le c.args.unused_bits 7 ≡ true = grind (arith, nat_tests) in
    rw b c.requires
