use Rattle.std.proofs.Common.{◌+◌, ◌∙◌}
use Rattle.tlv_reasons.proofs.LengthLemmas.{IsTried, begins-there, found-at, indefinite-none, none-at, start-is}
use Rattle.tlv_reasons.proofs.lengths.wrong_length_at.Goals as goal

pub returns-in_default-clause-found : goal.returns-in_default-clause-found
returns-in_default-clause-found c =
    indefinite-none c.args.framing.now c.args.bounds c.args.octets.now c.args.holders.now c.args.offset c.in_ok-fields.count
    c.in_ok-fields.fields
    (begins-there c.args.octets.now c.args.offset c.in_ok-fields.count c.in_ok-fields.fields c.in_ok-fields.ensures)
    c.in_default.not-Definite

pub returns-in-Some-clause-found : goal.returns-in-Some-clause-found
returns-in-Some-clause-found c =
    let tried : IsTried c.args.bounds.wide c.args.octets.now c.args.offset (c.args.offset + c.from.result) c.in_ok-fields.count
    c.in_ok-fields.fields c.in-Definite.said c.args.holders.now c.as_slice.result.now =
    record {
      within = c.if-offset-octets.false;
      begins = begins-there c.args.octets.now c.args.offset c.in_ok-fields.count c.in_ok-fields.fields c.in_ok-fields.ensures;
      start_is = start-is c.args.offset _ _ c.from.ensures;
      size_is = c.in-Definite.is;
      lengths_are = c.as_slice.ensures.value ∙ (rw c.reach_in-reach.ensures at c.tried_lengths-lengths.ensures.lengths);
    } in
    found-at c.args.framing.now c.args.bounds tried c.in-Some.would c.in-Some.ensures.first

pub returns-in-None-clause-found : goal.returns-in-None-clause-found
returns-in-None-clause-found c =
    let tried : IsTried c.args.bounds.wide c.args.octets.now c.args.offset (c.args.offset + c.from.result) c.in_ok-fields.count
    c.in_ok-fields.fields c.in-Definite.said c.args.holders.now c.as_slice.result.now =
    record {
      within = c.if-offset-octets.false;
      begins = begins-there c.args.octets.now c.args.offset c.in_ok-fields.count c.in_ok-fields.fields c.in_ok-fields.ensures;
      start_is = start-is c.args.offset _ _ c.from.ensures;
      size_is = c.in-Definite.is;
      lengths_are = c.as_slice.ensures.value ∙ (rw c.reach_in-reach.ensures at c.tried_lengths-lengths.ensures.lengths);
    } in
    none-at c.args.framing.now c.args.bounds tried c.in-None.ensures.first
