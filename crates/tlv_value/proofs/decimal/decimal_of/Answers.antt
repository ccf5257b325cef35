use Rattle.std.proofs.Common.{length-take, ◌≡◌, ◌+◌, ◌<◌, ℕ, get_or, take, arith, sym, refl, ap, ◌∙◌, to_z, of_z}
use Rattle.std.proofs.Common.{add-one, FitsSigned, rules}
use Rattle.std.proofs.lemmas.Grind.{common_steps}
use Rattle.std.specs.Prelude.{ℤ, pos, ◌+ℤ◌, ◌*ℤ◌}
use Rattle.std.proofs.lemmas.Int.{to_z-of_z}
use Rattle.std.proofs.lemmas.List.{take_more}
use mir.Syntax.{w128}
use Rattle.tlv_value.specs.Number.{twos_complement}
use Rattle.tlv_value.proofs.TextLemmas.Numbers.{twos-fits, twos-fits_all, twos-more}
use Rattle.tlv_value.proofs.decimal.decimal_of.Goals as goal

sum-wraps_not : (n from sum next : ℤ) (x : ℕ) → x < 256 → FitsSigned w128 (n *ℤ pos 256) → FitsSigned w128 next → n
    ≡ sum
    → from ≡ pos x → next ≡ sum *ℤ pos 256 +ℤ pos x
    → to_z w128 (of_z w128 (to_z w128 (of_z w128 (n *ℤ pos 256)) +ℤ to_z w128 (of_z w128 from))) ≡ next
sum-wraps_not n from sum next x small f g e h m =
    let a : to_z w128 (of_z w128 (n *ℤ pos 256)) ≡ n *ℤ pos 256 = to_z-of_z w128 (n *ℤ pos 256) f in
    let r : FitsSigned w128 from = rw h (record { sfits = omega arith }) in
    let b : to_z w128 (of_z w128 from) ≡ from = to_z-of_z w128 from r in
    let s : n *ℤ pos 256 +ℤ from ≡ next = rw (h, e) (sym m) in
    let both : to_z w128 (of_z w128 (n *ℤ pos 256)) +ℤ to_z w128 (of_z w128 from) ≡ next =
    ap (λ z. z +ℤ to_z w128 (of_z w128 from)) a ∙ ap (λ z. n *ℤ pos 256 +ℤ z) b ∙ s in
    ap (λ z. to_z w128 (of_z w128 z)) both ∙ to_z-of_z w128 next g

pub overflow_mul-number : goal.overflow_mul-number
overflow_mul-number c =
    let e : to_z w128 c.loop-octet.number-bits
    ≡ twos_complement (take (c.loop-octet.octet-index + 1) c.args.contents.now) =
    c.loop-octet.invariant in
    let first = c.in_ok-first.ensures.cases in
    rw e (twos-fits (take (c.loop-octet.octet-index + 1) c.args.contents.now) (omega (arith, length-take {A = ℕ})))

pub loop-octet-preserved : goal.loop-octet-preserved
loop-octet-preserved c =
    let i : ℕ = c.loop-octet.octet-index in
    let e : to_z w128 c.loop-octet.number-bits ≡ twos_complement (take (i + 1) c.args.contents.now) =
    c.loop-octet.invariant in
    let x : ℕ = get_or c.args.contents.now (i + 1) 0 in
    let first = c.in_ok-first.ensures.cases in
    let same : get_or c.in_ok-first.rest.now i 0 ≡ x = rw (first.0, add-one) refl in
    let m : twos_complement (take (i + 1 + 1) c.args.contents.now)
    ≡ twos_complement (take (i + 1) c.args.contents.now) *ℤ pos 256 +ℤ pos x =
    ap twos_complement (take_more c.args.contents.now (i + 1) 0 (omega arith))
    ∙ twos-more (take (i + 1) c.args.contents.now) x (omega (arith, length-take {A = ℕ}))
    (c.type_inv.contents (i + 1)).fits in
    let f : FitsSigned w128 (to_z w128 c.loop-octet.number-bits *ℤ pos 256) =
    rw e (twos-fits (take (i + 1) c.args.contents.now) (omega (arith, length-take {A = ℕ}))) in
    let g : FitsSigned w128 (twos_complement (take (i + 1 + 1) c.args.contents.now)) =
    twos-fits_all (take (i + 1 + 1) c.args.contents.now) (omega (arith, length-take {A = ℕ})) in
    let from : c.from.result ≡ pos x = c.from.ensures ∙ ap pos same in
    sum-wraps_not (to_z w128 c.loop-octet.number-bits) c.from.result
    (twos_complement (take (i + 1) c.args.contents.now))
    (twos_complement (take (i + 1 + 1) c.args.contents.now)) x (c.type_inv.contents (i + 1)).fits f g e from m

pub loop-octet-init : goal.loop-octet-init
loop-octet-init c = search rules

pub returns : goal.returns
returns c = grind (arith, common_steps)

pub returns-then-contents-gt16 : goal.returns-then-contents-gt16
returns-then-contents-gt16 c = search rules
