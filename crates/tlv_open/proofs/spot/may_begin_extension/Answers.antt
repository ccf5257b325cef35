use Rattle.std.proofs.Common.{arith, inl, inr, rules}
use Rattle.tlv_open.proofs.FinderLemmas.Extensions.{named-first}
use Rattle.tlv_open.proofs.spot.may_begin_extension.Goals as goal

pub returns-in_default-matches : goal.returns-in_default-matches
returns-in_default-matches c p f depth offset ends rest r is =
    elim (named-first p f depth offset ends c.args.octets.now rest r is (search rules) (search rules)) [
      | inl goes_on ↦ absurd (c.in_default-matches.is-1.1 goes_on.1)
      | inr other ↦ absurd (omega (arith, other.0, c.in_default-matches.is-0))
    ]

pub returns-in_default-matches-2 : goal.returns-in_default-matches-2
returns-in_default-matches-2 c p f depth offset ends rest r is =
    elim (named-first p f depth offset ends c.args.octets.now rest r is (search rules) (search rules)) [
      | inl other ↦ absurd (omega (arith, other.0, c.in_default-matches.is-0))
      | inr goes_on ↦ absurd (c.in_default-matches.is-1.1 goes_on.1)
    ]
