use Rattle.std.proofs.Common.{◌≡◌, ◌+◌, ◌-◌, ◌∙◌, List, ℕ, false, ap, drop, subst, sym, arith, ◌≤◌}
use Rattle.std.proofs.lemmas.List.{length-take-le}
use Rattle.tlv_head.specs.declared.header.Size.TheVariants.{Definite}
use Rattle.tlv_head.specs.ReadHeader.{BeginsWithFields}
use Rattle.tlv_reasons.proofs.ChainLemmas.{CanMove, can-move, moved-apart, moved-there, put-said}
use Rattle.tlv_reasons.proofs.LengthLemmas.{begins-there, start-is}
use Rattle.tlv_reasons.specs.Chains.{IsMoved, moved_length}
use Rattle.tlv_reasons.proofs.chains.move_length.Goals as goal

pub returns-in_default-size-clause-unmoved : goal.returns-in_default-size-clause-unmoved
returns-in_default-size-clause-unmoved c = λ _ changed m.
    let k : CanMove c.args.difference c.in-Some.fields c.in-Some.count =
    can-move c.args.difference c.args.octets.now c.args.offset c.in-Some.fields c.in-Some.count
    (begins-there c.args.octets.now c.args.offset c.in-Some.count c.in-Some.fields c.in-Some.ensures) changed m in
    c.in_default-size.not-Definite k.said k.size_is

pub returns-in_default-moved_length-clause-unmoved : goal.returns-in_default-moved_length-clause-unmoved
returns-in_default-moved_length-clause-unmoved c = λ _ changed m.
    let k : CanMove c.args.difference c.in-Some.fields c.in-Some.count =
    can-move c.args.difference c.args.octets.now c.args.offset c.in-Some.fields c.in-Some.count
    (begins-there c.args.octets.now c.args.offset c.in-Some.count c.in-Some.fields c.in-Some.ensures) changed m in
    let same : Definite c.in-Definite.said ≡ Definite k.said = sym c.in-Definite.is ∙ k.size_is in
    let said : c.in-Definite.said ≡ k.said = cc in
    c.in_default-moved_length.not-Some k.would
    (c.moved_length.ensures.moved ∙ ap (moved_length c.args.difference) said ∙ k.would_is)

pub returns-then-not-can_say-clause-unmoved : goal.returns-then-not-can_say-clause-unmoved
returns-then-not-can_say-clause-unmoved c = λ _ changed m.
    let k : CanMove c.args.difference c.in-Some.fields c.in-Some.count =
    can-move c.args.difference c.args.octets.now c.args.offset c.in-Some.fields c.in-Some.count
    (begins-there c.args.octets.now c.args.offset c.in-Some.count c.in-Some.fields c.in-Some.ensures) changed m in
    moved-apart c.args.difference c.in-Some.fields c.in-Some.count c.in-Definite.said c.in-Some-moved_length.would
    ((c.args.offset + c.in-Some.count) - (c.args.offset + c.from.result)) k c.in-Definite.is
    (sym c.moved_length.ensures.moved ∙ c.in-Some-moved_length.is) (omega (arith, c.from.ensures))
    (sym c.can_say.ensures ∙ c.if-not-can_say.true)

pub returns-clause-moved : goal.returns-clause-moved
returns-clause-moved c = λ _.
    let rest : List ℕ = drop c.args.offset c.args.octets.now in
    let b : BeginsWithFields rest c.args.offset false c.in-Some.fields c.in-Some.count =
    begins-there c.args.octets.now c.args.offset c.in-Some.count c.in-Some.fields c.in-Some.ensures in
    let start : ℕ = c.args.offset + c.from.result in
    let end : ℕ = c.args.offset + c.in-Some.count in
    let order : start ≤ end =
    omega (arith, c.from.ensures, b.sized.identifier, length-take-le c.in-Some.count rest b.within) in
    subst (λ (o : List ℕ). IsMoved c.args.difference c.args.offset c.args.octets.now o)
    (sym (put-said start end c.in-Some-moved_length.would c.args.octets.now c.set_length.new.octets order
    c.set_length.ensures))
    (moved-there c.args.difference c.args.octets.now c.args.offset c.in-Some.fields c.in-Some.count b start
    c.in-Definite.said c.in-Some-moved_length.would c.if-offset-octets.false
    (start-is c.args.offset _ _ c.from.ensures) c.in-Definite.is
    (sym c.moved_length.ensures.moved ∙ c.in-Some-moved_length.is)
    (sym c.can_say.ensures ∙ c.if-not-can_say.false))
