use Rattle.std.proofs.Common.{◌≡◌, drop}
use Rattle.std.specs.Prelude.{Option}
use Rattle.tlv_reasons.specs.Chains.{IsFirstChain}
use Rattle.tlv_reasons.specs.declared.chains.Chain.{Chain}
use Rattle.tlv_reasons.proofs.chains.first_chain.Given as goal

abbrev pub invariant-loop-candidate : goal.invariant-loop-candidate
invariant-loop-candidate l = record {
  copied : l.copy ≡ l.octets;
  first : (found : Option Chain)
      → IsFirstChain l.padding l.octets l.difference (drop l.candidate-index l.candidates) found
      → IsFirstChain l.padding l.octets l.difference l.candidates found;
}
