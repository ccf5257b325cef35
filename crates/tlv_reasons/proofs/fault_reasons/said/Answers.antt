use Rattle.std.proofs.Common.{◌≡◌, ◌+◌, ◌<◌, ◌++◌, ◌∙◌, ℕ, List, [], ◌∷◌, ap, arith, get_or, length, sym, take}
use Rattle.std.specs.List.{cons_option}
use Rattle.std.specs.Prelude.{Option}
use Rattle.std.proofs.lemmas.List.{take_more}
use Rattle.std.proofs.lemmas.List.Elements.{filter_map-append}
use Rattle.tlv_reasons.specs.declared.sentence.Sentence.{Sentence}
use Rattle.tlv_reasons.specs.FaultReasons.{said}
use Rattle.tlv_reasons.proofs.fault_reasons.said.Goals as goal

-- one sentence more
said-more : (xs : List (Option Sentence)) (i : ℕ) (d : Option Sentence) → i < length xs
    → said (take i xs) ++ cons_option (get_or xs i d) [] ≡ said (take (i + 1) xs)
said-more xs i d h =
    sym (ap said (take_more xs i d h) ∙ filter_map-append (λ s. s) (take i xs) (get_or xs i d ∷ []))

pub loop-sentence-preserved : goal.loop-sentence-preserved
loop-sentence-preserved c = record {
  kept =
      (rw c.loop-sentence.invariant.kept at c.add.ensures.added)
      ∙ said-more c.args.sentences.now c.loop-sentence.sentence-index _ c.loop-sentence-test.true;
  few = omega (arith, c.add.ensures.few, c.loop-sentence.invariant.few);
}
