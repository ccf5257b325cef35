use Rattle.std.proofs.Common.{◌+◌, ◌++◌, ◌∙◌, ℕ, List, ap, arith, max, rules, sym, take}
use Rattle.std.proofs.lemmas.Grind.{common_steps}
use Rattle.std.proofs.lemmas.List.{drop-drop}
use Rattle.std.proofs.lemmas.Slice.{drop-put_mid, take-put_mid}
use Rattle.tlv_io.proofs.memory.MemDrainDrain.write.Goals as goal

pub returns-then-free-eq0-clause-writes : goal.returns-then-free-eq0-clause-writes
returns-then-free-eq0-clause-writes c = search rules

pub returns-clause-writes : goal.returns-clause-writes
returns-clause-writes c = grind (arith, common_steps)

pub returns-clause-state : goal.returns-clause-state
returns-clause-state c =
    let used : ℕ = c.args.self.now.used in
    let count : ℕ = c.min-count.result in
    let room : List ℕ = c.args.self.now.room.now in
    let taken =
    take-put_mid used _ room c.copy_from_slice.new.self (used + count) (search rules) (omega (arith, c.fits-self))
    ∙ ap (λ (l : List ℕ). take used room ++ l) (search rules) in
    let rest =
    drop-put_mid used _ room c.copy_from_slice.new.self (used + count) (search rules) (omega (arith, c.fits-self))
    (search rules)
    ∙ sym (drop-drop count used room) in
    λ i. record {
      taken = taken i;
      rest = rest i;
      most = max 1 c.args.self.now.most;
      failures = c.args.self.now.failures;
    }
