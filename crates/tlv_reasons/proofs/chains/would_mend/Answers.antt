use Rattle.std.proofs.Common.{◌≡◌, ◌∙◌, List, ℕ, arith, false, length, subst, sym, true}
use Rattle.std.proofs.lemmas.Bool.{eqb-false}
use Rattle.tlv_reasons.proofs.ChainLemmas.{mended-sound}
use Rattle.tlv_reasons.specs.Chains.{AreMoved}
use Rattle.tlv_reasons.proofs.chains.would_mend.Goals.{else-move_lengths, then-move_lengths}
use Rattle.tlv_reasons.proofs.chains.would_mend.Goals as goal

pub returns-clause-mends : goal.returns-clause-mends
returns-clause-mends c = elim c.if-move_lengths.branch [
  | then-move_lengths b ↦
      let all : AreMoved c.args.difference c.args.headers.now c.args.octets.now c.move_lengths.new.octets =
      subst (λ (o : List ℕ). AreMoved c.args.difference c.args.headers.now o c.move_lengths.new.octets)
      c.requires.copied (c.move_lengths.ensures.moved b.if-move_lengths.true) in (
        (λ t. record {
          some =
              omega (
                arith,
                eqb-false (length c.args.headers.now) 0 (sym c.is_empty.ensures ∙ c.if-is_empty.false),
              );
          few = omega (arith, c.if-headers-gt-CHAIN_LIMIT.false);
          changed = c.move_lengths.new.octets;
          are_moved = all;
          sound = b.is_sound-mends.ensures.0 (sym b.mends-is ∙ t);
        }),
        (λ k. b.mends-is ∙ b.is_sound-mends.ensures.1 (mended-sound c.move_lengths.new.octets all k)),
      )
  | else-move_lengths b ↦ (
    (λ t. let e : true ≡ false = sym t ∙ b.mends-is ∙ b.if-move_lengths.false in absurd (cc)),
    (λ k. absurd (c.move_lengths.ensures.unmoved b.if-move_lengths.false k.changed
        (subst (λ (o : List ℕ). AreMoved c.args.difference c.args.headers.now o k.changed) (sym c.requires.copied)
        k.are_moved))),
  )
]
