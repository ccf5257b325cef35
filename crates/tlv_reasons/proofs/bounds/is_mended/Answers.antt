use Rattle.std.proofs.Common.{◌≡◌, ◌∙◌, false, refl, rules, sym}
use Rattle.tlv_reasons.proofs.MendedLemmas.{cut-off-by, short-ending}
use Rattle.tlv_reasons.specs.Mended.{cut_off, whole}
use Rattle.tlv_walk.proofs.GrammarLemmas.Endings.{done-sound}
use Rattle.tlv_reasons.proofs.bounds.is_mended.Goals as goal

pub returns-in-Done : goal.returns-in-Done
returns-in-Done c = (
  (λ _. whole (done-sound c.args.framing.now c.args.octets.now (rw c.in-Done.is at c.ending_in.ensures))),
  (λ _. refl),
)

pub returns-then-not-bounds : goal.returns-then-not-bounds
returns-then-not-bounds c =
    let none : c.args.bounds.cut ≡ false = search rules in (
      (λ t. absurd (cc (t))),
      (λ m.
          let k = cut-off-by c.args.framing.now c.args.bounds c.args.octets.now c.in-Fault.fault
          (rw c.in-Fault.is at c.ending_in.ensures) m in
          sym none ∙ k.is_cut),
    )

pub returns-then-not-says_sizes : goal.returns-then-not-says_sizes
returns-then-not-says_sizes c = (
  (λ t. absurd (cc (t))),
  (λ m.
      let k = cut-off-by c.args.framing.now c.args.bounds c.args.octets.now c.in-Fault.fault
      (rw c.in-Fault.is at c.ending_in.ensures) m in
      let short = k.is_short in
      absurd (cc (short, c.if-not-says_sizes.true, c.says_sizes.ensures))),
)

pub returns : goal.returns
returns c =
    let ends = rw c.in-Fault.is at c.ending_in.ensures in (
      (λ t. cut_off c.in-Fault.fault.offset (search rules) (c.begins_whole.ensures.0 t)
          (short-ending c.args.framing.now c.args.octets.now c.in-Fault.fault (search rules) ends)),
      (λ m. c.begins_whole.ensures.1
          (cut-off-by c.args.framing.now c.args.bounds c.args.octets.now c.in-Fault.fault ends m).begins),
    )
