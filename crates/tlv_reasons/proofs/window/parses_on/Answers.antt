use Rattle.std.proofs.Common.{◌≡◌, ◌∙◌, false, refl, rules, sym}
use Rattle.tlv_reasons.proofs.MendedLemmas.{cut-short-by, short-ending}
use Rattle.tlv_reasons.specs.Window.{cut_short, whole_list}
use Rattle.tlv_walk.proofs.GrammarLemmas.Endings.{done-sound}
use Rattle.tlv_reasons.proofs.window.parses_on.Goals as goal

pub returns-in-Done : goal.returns-in-Done
returns-in-Done c = (
  (λ _. whole_list (done-sound c.args.framing.now c.args.octets.now (rw c.in-Done.is at c.ending_in.ensures))),
  (λ _. refl),
)

pub returns-then-not-cut : goal.returns-then-not-cut
returns-then-not-cut c =
    let none : c.args.cut ≡ false = search rules in (
      (λ t. absurd (cc (t))),
      (λ p.
          let k = cut-short-by c.args.framing.now c.args.cut c.args.octets.now c.in-Fault.fault
          (rw c.in-Fault.is at c.ending_in.ensures) p in
          sym none ∙ k.is_cut),
    )

pub returns : goal.returns
returns c =
    let ends = rw c.in-Fault.is at c.ending_in.ensures in (
      (λ t. cut_short c.in-Fault.fault.offset (search rules)
          (short-ending c.args.framing.now c.args.octets.now c.in-Fault.fault (sym c.says_sizes.ensures ∙ t) ends)),
      (λ p.
          c.says_sizes.ensures
          ∙ (cut-short-by c.args.framing.now c.args.cut c.args.octets.now c.in-Fault.fault ends p).is_short),
    )
