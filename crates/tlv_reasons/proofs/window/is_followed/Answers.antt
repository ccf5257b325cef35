use Rattle.std.proofs.Common.{◌≡◌, ◌∙◌, length, refl, rules, true}
use Rattle.tlv_reasons.proofs.MendedLemmas.{followed-by, unstated-by}
use Rattle.tlv_reasons.specs.Spacing.{are_alike}
use Rattle.tlv_reasons.specs.Window.{by_a_record, by_nothing, without_length}
use Rattle.tlv_reasons.proofs.window.is_followed.Goals as goal

pub returns-in_default : goal.returns-in_default
returns-in_default c = (
  (λ t. without_length (c.begins_indefinite.ensures.0 t)),
  (λ f. c.begins_indefinite.ensures.1
      (unstated-by c.args.framing.now c.args.cut c.args.octets.now c.in_default.ensures.end f)),
)

pub returns-then-end-octets : goal.returns-then-end-octets
returns-then-end-octets c = ((λ _. by_nothing c.in-Some.end c.in-Some.ensures.end (search rules)), (λ _. refl))

pub returns-then-not-are_alike : goal.returns-then-not-are_alike
returns-then-not-are_alike c =
    let more : c.in-Some.end ≡ length c.args.octets.now → ⊥ = search rules in (
      (λ t. absurd (cc (t))),
      (λ f.
          let alike = (followed-by c.args.framing.now c.args.cut c.args.octets.now c.in-Some.end c.in-Some.ensures.end more f).0 in
          cc (c.if-not-are_alike.true, c.are_alike.ensures ∙ alike)),
    )

pub returns : goal.returns
returns c =
    let more : c.in-Some.end ≡ length c.args.octets.now → ⊥ = search rules in
    let alike : are_alike c.args.octets.now 0 c.in-Some.end ≡ true = search rules in
    let parses = rw c.octets_from.ensures at c.parses_on.ensures in (
      (λ t. by_a_record c.in-Some.end c.in-Some.ensures.end alike (parses.0 t)),
      (λ f. parses.1
          (followed-by c.args.framing.now c.args.cut c.args.octets.now c.in-Some.end c.in-Some.ensures.end more f).1),
    )
