use Rattle.std.proofs.Common.{◌∙◌, sym}
use Rattle.std.specs.Prelude.{None}
use Rattle.tlv_reasons.proofs.ChainLemmas.{chain-end, chain-here, chain-later}
use Rattle.tlv_reasons.proofs.chains.first_chain.Goals as goal

pub returns-then-is_some : goal.returns-then-is_some
returns-then-is_some c =
    c.loop-candidate.invariant.first c.chain_at-chain.result
    (chain-here c.args.padding c.args.octets.now c.args.difference c.args.candidates.now
    c.loop-candidate.candidate-index c.chain_at-chain.result c.loop-candidate-test.true c.chain_at-chain.ensures.found
    (sym c.is_some.ensures ∙ c.if-is_some.true))

pub loop-candidate-preserved : goal.loop-candidate-preserved
loop-candidate-preserved c = record {
  copied = c.chain_at-chain.ensures.copied;
  first = λ found f. c.loop-candidate.invariant.first found
      (chain-later c.args.padding c.args.octets.now c.args.difference c.args.candidates.now
      c.loop-candidate.candidate-index c.chain_at-chain.result found c.loop-candidate-test.true
      c.chain_at-chain.ensures.found (sym c.is_some.ensures ∙ c.if-is_some.false) f);
}

pub returns : goal.returns
returns c =
    c.loop-candidate.invariant.first None
    (chain-end c.args.padding c.args.octets.now c.args.difference c.args.candidates.now
    c.loop-candidate.candidate-index c.loop-candidate-test.false)
