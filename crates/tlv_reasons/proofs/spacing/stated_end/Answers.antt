use Rattle.std.proofs.Common.{◌≡◌, arith, false, true}
use Rattle.tlv_reasons.proofs.LengthLemmas.{begins-there}
use Rattle.tlv_reasons.proofs.SpacingLemmas.{stated-by}
use Rattle.tlv_reasons.proofs.spacing.stated_end.Goals as goal

pub returns-in_default-clause-end : goal.returns-in_default-clause-end
returns-in_default-clause-end c = λ e w.
    let b = begins-there c.args.octets.now c.args.offset c.in_ok-fields.count c.in_ok-fields.fields
    c.in_ok-fields.ensures in
    let by = stated-by c.args.octets.now c.args.offset e c.in_ok-fields.count c.in_ok-fields.fields b w in
    cc (c.in_default.is, by.1)

pub returns-then-not-fields-clause-end : goal.returns-then-not-fields-clause-end
returns-then-not-fields-clause-end c = λ e w.
    let b = begins-there c.args.octets.now c.args.offset c.in_ok-fields.count c.in_ok-fields.fields
    c.in_ok-fields.ensures in
    let by = stated-by c.args.octets.now c.args.offset e c.in_ok-fields.count c.in_ok-fields.fields b w in
    let t : false ≡ true = rw by.2 at c.if-not-fields.true in cc

pub returns-then-size-octets-clause-end : goal.returns-then-size-octets-clause-end
returns-then-size-octets-clause-end c = λ e w.
    let b = begins-there c.args.octets.now c.args.offset c.in_ok-fields.count c.in_ok-fields.fields
    c.in_ok-fields.ensures in
    let by = stated-by c.args.octets.now c.args.offset e c.in_ok-fields.count c.in_ok-fields.fields b w in
    let same : by.0 ≡ c.in-Definite.size = cc (c.in-Definite.is, by.1) in
    omega (arith, w.within, by.3, same, c.if-size-octets.true)
