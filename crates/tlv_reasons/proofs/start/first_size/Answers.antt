use Rattle.std.proofs.Common.{refl, ◌+◌}
use Rattle.std.proofs.lemmas.List.{take_rest}
use Rattle.tlv_reasons.proofs.StartLemmas.{first-encoding, headless-none, none-found, size-found, size-is}
use Rattle.tlv_reasons.proofs.start.first_size.Goals as goal

pub returns-in_default-clause-size : goal.returns-in_default-clause-size
returns-in_default-clause-size c = λ k. absurd (headless-none c.args.octets.now c.in_default.ensures k)

pub returns-clause-size : goal.returns-clause-size
returns-clause-size c = λ k. (
  c.in-Some.count + c.in-Some-contents_size.size,
  refl,
  size-is c.args.octets.now c.in-Some.count c.in-Some-contents_size.size c.contents_size.result
      c.in-Some-contents_size.is
      (size-found c.args.octets.now _ c.in-Some.fields c.in-Some.count c.contents_size.result
      (take_rest c.args.octets.now c.in-Some.count) c.contents_size.ensures.definite c.contents_size.ensures.indefinite
      (first-encoding c.args.octets.now c.in-Some.fields c.in-Some.count c.in-Some.ensures k)),
)

pub returns-in_default-contents_size-clause-size : goal.returns-in_default-contents_size-clause-size
returns-in_default-contents_size-clause-size c = λ k.
    absurd (none-found c.args.octets.now c.in-Some.count c.contents_size.result c.in_default-contents_size.is
    (size-found c.args.octets.now _ c.in-Some.fields c.in-Some.count c.contents_size.result
    (take_rest c.args.octets.now c.in-Some.count) c.contents_size.ensures.definite c.contents_size.ensures.indefinite
    (first-encoding c.args.octets.now c.in-Some.fields c.in-Some.count c.in-Some.ensures k)))
