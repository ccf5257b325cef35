use Rattle.std.proofs.Common.{◌≡◌, ◌≤◌, length, take}
use Rattle.std.specs.Prelude.{not}
use Rattle.std.specs.List.{filter}
use Rattle.tlv_reasons.specs.Remedies.{is_suspicion}
use Rattle.tlv_reasons.proofs.mend.without_suspicions.Given as goal

abbrev pub invariant-loop-sentence : goal.invariant-loop-sentence
invariant-loop-sentence l = record {
  kept : l.kept.items ≡ filter (λ s. not (is_suspicion s)) (take l.sentence-index l.sentences);
  few : length l.kept.items ≤ l.sentence-index;
}
