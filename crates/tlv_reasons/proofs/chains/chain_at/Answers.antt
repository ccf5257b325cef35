use Rattle.std.proofs.Common.{◌∙◌, arith}
use Rattle.tlv_reasons.proofs.ChainLemmas.{mend-none, mend-of}
use Rattle.tlv_reasons.specs.Chains as chains
use Rattle.tlv_reasons.proofs.chains.chain_at.Goals as goal

pub returns-then-offset-octets-clause-found : goal.returns-then-offset-octets-clause-found
returns-then-offset-octets-clause-found c = chains.outside (omega (arith, c.if-offset-octets.true))

pub returns-then-would_mend-clause-found : goal.returns-then-would_mend-clause-found
returns-then-would_mend-clause-found c =
    rw (c.chain_of.ensures, c.as_slice-then-would_mend.ensures.value)
    (chains.around c.if-offset-octets.false c.headers_around-headers.ensures.around
    (mend-of c.as_slice.ensures.value (c.would_mend.ensures.mends.0 c.if-would_mend.true)))

pub returns-then-would_mend-2-clause-found : goal.returns-then-would_mend-2-clause-found
returns-then-would_mend-2-clause-found c =
    rw (c.chain_of-then-would_mend-2.ensures, c.as_slice-then-would_mend-2.ensures.value, c.push.ensures.items)
    (chains.with_header c.if-offset-octets.false c.headers_around-headers.ensures.around
    (mend-none c.as_slice.ensures.value c.would_mend.ensures.mends.1 c.if-would_mend.false)
    (mend-of (c.as_slice-2.ensures.value ∙ c.push.ensures.items)
    (c.would_mend-2.ensures.mends.0 c.if-would_mend-2.true)))

pub returns-clause-found : goal.returns-clause-found
returns-clause-found c =
    chains.in_vain c.if-offset-octets.false c.headers_around-headers.ensures.around
    (mend-none c.as_slice.ensures.value c.would_mend.ensures.mends.1 c.if-would_mend.false)
    (mend-none (c.as_slice-2.ensures.value ∙ c.push.ensures.items) c.would_mend-2.ensures.mends.1
    c.if-would_mend-2.false)
