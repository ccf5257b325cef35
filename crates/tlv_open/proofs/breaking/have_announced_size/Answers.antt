use Rattle.std.proofs.Common.{◌≡◌, arith}
use Rattle.std.proofs.lemmas.Bool.{le-leb, leb-true}
use Rattle.tlv_open.proofs.BreakLemmas.Suspects.{announced-early, announced-late, announced-size, announced-some}
use Rattle.tlv_open.proofs.breaking.have_announced_size.Goals as goal

pub returns-in_default-size : goal.returns-in_default-size
returns-in_default-size c = (
  λ t. absurd (cc (t)),
  λ s.
      absurd (c.in_default-size.not-Definite s.announced
      (announced-size c.args.octets.now c.in-Some.fields c.in-Some.count c.in-Some.ensures s)),
)

pub returns-then-length-rest : goal.returns-then-length-rest
returns-then-length-rest c = (
  λ t.
      announced-some c.args.octets.now c.in-Some.fields c.in-Some.count c.in-Some.ensures c.in-Definite.length
      (omega (arith, c.if-octets-le-FEW_OCTETS.false)) c.in-Definite.is c.if-length-rest.true (leb-true _ _ t),
  λ s.
      let size = announced-size c.args.octets.now c.in-Some.fields c.in-Some.count c.in-Some.ensures s in
      let same : s.announced ≡ c.in-Definite.length = cc (size, c.in-Definite.is) in
      le-leb _ _
      (omega (arith, same, announced-early c.args.octets.now c.in-Some.fields c.in-Some.count c.in-Some.ensures s)),
)

pub returns-else-length-rest : goal.returns-else-length-rest
returns-else-length-rest c = (
  λ t. absurd (omega (arith, leb-true _ _ t, c.if-length-rest.false)),
  λ s.
      let size = announced-size c.args.octets.now c.in-Some.fields c.in-Some.count c.in-Some.ensures s in
      let same : s.announced ≡ c.in-Definite.length = cc (size, c.in-Definite.is) in
      le-leb _ _
      (omega (arith, same, announced-late c.args.octets.now c.in-Some.fields c.in-Some.count c.in-Some.ensures s)),
)
