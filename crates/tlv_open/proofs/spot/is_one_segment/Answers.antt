use Rattle.std.proofs.Common.{inl, inr, sym, ap, ◌∙◌, ◌&&◌, Bool, arith, length}
use Rattle.tlv_head.specs.Header.{announced_length}
use Rattle.tlv_open.specs.Private.Elements.{is_elements_end}
use Rattle.tlv_open.proofs.ElementLemmas.Elements.{tail-all, tail-of_tail}
use Rattle.tlv_open.proofs.FinderLemmas.OneSegment.{is-one, not-one}
use Rattle.tlv_open.proofs.spot.is_one_segment.Goals.{then-fields-via-then-fields}
use Rattle.tlv_open.proofs.spot.is_one_segment.Goals.{then-fields-via-else-fields+then-length-rest}
use Rattle.tlv_open.proofs.spot.is_one_segment.Goals as goal

pub returns-then-fields : goal.returns-then-fields
returns-then-fields c = λ p f depth rest z r.
    ap (λ (k : Bool). k && is_elements_end c.args.end_octets rest)
    (sym (not-one c.args.octets.now c.args.offset c.in-Some.fields c.in-Some.count c.in-Some.ensures p f depth
    c.args.end_octets rest r (elim c.then-fields.branch [
      | then-fields-via-then-fields w ↦ inl w.if-fields.true
      | then-fields-via-else-fields+then-length-rest w ↦
          inr (omega (
            arith,
            w.if-length-rest.true,
            ap announced_length c.in-Definite.is,
            ap length (tail-all c.args.octets.now c.in-Some.count),
          ))
    ])))

pub returns : goal.returns
returns c = λ p f depth rest z r.
    c.is_elements_end.ensures
    ∙ (ap (is_elements_end c.args.end_octets) (tail-of_tail c.args.octets.now c.in-Some.count c.in-Definite.length)
    ∙ is-one c.args.octets.now c.args.offset c.in-Some.fields c.in-Some.count c.in-Some.ensures p f depth
    c.args.end_octets rest c.in-Definite.length r c.if-fields.false (sym (ap announced_length c.in-Definite.is))
    (omega (arith, c.if-length-rest.false, ap length (tail-all c.args.octets.now c.in-Some.count))))
