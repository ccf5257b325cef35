use Rattle.std.proofs.Common.{◌≡◌, ℕ, ◌+◌, ◌-◌, List, ◌∷◌, length, take, drop, refl, sym, subst, inl, arith, rules}
use Rattle.std.proofs.lemmas.Grind.{common_steps}
use Rattle.tlv_walk.specs.Stack.{bound_of}
use Rattle.tlv_walk.specs.Stack.{IsWithin}
use Rattle.tlv_walk.specs.Private.Yields.{YieldsStep}
use Rattle.tlv_walk.proofs.WalkerLemmas.AfterFirstZero.{room_more, step_after}
use Rattle.tlv_walk.proofs.WalkerLemmas.YieldedEvents.{yields_zero}
use Rattle.tlv_walk.proofs.walker.Walker.between.Goals.{else-indefinite-via-then-indefinite+else-eq}
use Rattle.tlv_walk.proofs.walker.Walker.between.Goals.{else-indefinite-via-else-indefinite}
use Rattle.tlv_walk.proofs.WalkerLemmas.Refusals.{refuses_front, refuses_missing, refuses_stray_front}
use Rattle.tlv_walk.proofs.walker.Walker.between.Goals as goal

pub returns-then-eq : goal.returns-then-eq
returns-then-eq c = record {
  counts = search rules;
  yields =
      rw c.refuse.ensures.0
      (inl
      (rw (← c.self.view_is)
      (refuses_front _ c.args.piece.now.now _ c.in-len1-up.len_at_least
      (refuses_missing _ _ _ (search rules) (search rules) (search rules) (search rules)
      (search rules)))));
}

pub returns-then-indefinite-2 : goal.returns-then-indefinite-2
returns-then-indefinite-2 c =
    let room : IsWithin (bound_of c.self.inside.stack) (c.self.inside.offset + 1) = elim c.else-indefinite.branch [
      | else-indefinite-via-then-indefinite+else-eq w ↦ room_more _ _ (search rules) (search rules)
      | else-indefinite-via-else-indefinite w ↦ absurd (search rules)
    ] in
    let piece : c.args.piece.now.now ≡ 0 ∷ take (length c.args.piece.now.now - 1) (drop 1 c.args.piece.now.now) =
    grind (arith, common_steps) in
    record {
      counts = search rules;
      yields =
          subst
          (λ (o : List ℕ). YieldsStep c.args.self.now c.second_zero.new.self o c.second_zero.new.piece.now
          c.second_zero.result)
          (sym piece)
          (step_after _ _ _ 0 (rw (← c.self.view_is) (yields_zero _ (search rules) (search rules) room)) (search rules)
          (search rules) _ _ _ refl c.second_zero.ensures.yields);
    }

pub returns : goal.returns
returns c = record {
  counts = search rules;
  yields =
      rw c.refuse-2.ensures.0
      (inl
      (refuses_stray_front _ c.args.piece.now.now c.in-len1-up.len_at_least (search rules) (search rules)
      (search rules) (search rules) (search rules)));
}

pub padding-requires-clause-top : goal.padding-requires-clause-top
padding-requires-clause-top c = search rules

pub header-requires-clause-can : goal.header-requires-clause-can
header-requires-clause-can c = search rules

pub padding-requires-clause-zero : goal.padding-requires-clause-zero
padding-requires-clause-zero c = search rules
