use Rattle.std.proofs.Common.{refl, sym, ◌∙◌}
use Rattle.tlv_reasons.proofs.LengthLemmas.{begins-there}
use Rattle.tlv_reasons.proofs.RecordLemmas.{ends-there, not-false, not-true, record-far, record-to-end, vain-fault}
use Rattle.tlv_reasons.proofs.RecordLemmas.{vain-no_header, vain-past, vain-primitive}
use Rattle.tlv_reasons.proofs.records.record_at.Goals as goal

pub returns-then-offset-octets-clause-vain : goal.returns-then-offset-octets-clause-vain
returns-then-offset-octets-clause-vain c =
    vain-past c.args.padding c.args.octets.now c.args.fault c.args.offset c.if-offset-octets.true

pub returns-in_default-clause-vain : goal.returns-in_default-clause-vain
returns-in_default-clause-vain c =
    vain-no_header c.args.padding c.args.octets.now c.args.fault c.args.offset c.in_default.ensures

pub returns-then-not-fields-clause-vain : goal.returns-then-not-fields-clause-vain
returns-then-not-fields-clause-vain c =
    vain-primitive c.args.padding c.args.octets.now c.args.fault c.args.offset c.in-Some.field-0-1 c.in-Some.fields
    (begins-there c.args.octets.now c.args.offset c.in-Some.field-0-1 c.in-Some.fields c.in-Some.ensures)
    (not-false c.in-Some.fields.constructed c.if-not-fields.true)

pub returns-in-Done-clause-there : goal.returns-in-Done-clause-there
returns-in-Done-clause-there c =
    rw c.record_up_to.ensures (
      refl,
      record-to-end c.args.padding c.args.octets.now c.args.fault c.args.offset c.in-Some.field-0-1 c.in-Some.fields
          (begins-there c.args.octets.now c.args.offset c.in-Some.field-0-1 c.in-Some.fields c.in-Some.ensures)
          (not-true c.in-Some.fields.constructed c.if-not-fields.false)
          (ends-there c.args.padding c.args.octets.now c.args.fault c.args.offset _ _ _ c.closed_framing.ensures c.in-Done.is
          c.ending_in.ensures),
    )

pub returns-then-is_far-clause-there : goal.returns-then-is_far-clause-there
returns-then-is_far-clause-there c =
    rw (c.record_up_to-then-is_far.ensures, c.saturating_add.ensures) (
      refl,
      record-far c.args.padding c.args.octets.now c.args.fault c.args.offset c.in-Some.field-0-1 c.in-Some.fields
          (begins-there c.args.octets.now c.args.offset c.in-Some.field-0-1 c.in-Some.fields c.in-Some.ensures) c.in-Fault.next
          (not-true c.in-Some.fields.constructed c.if-not-fields.false)
          (ends-there c.args.padding c.args.octets.now c.args.fault c.args.offset _ _ _ c.closed_framing.ensures c.in-Fault.is
          c.ending_in.ensures) (sym c.is_far.ensures ∙ c.if-is_far.true),
    )

pub returns-else-is_far-clause-vain : goal.returns-else-is_far-clause-vain
returns-else-is_far-clause-vain c =
    vain-fault c.args.padding c.args.octets.now c.args.fault c.args.offset c.in-Some.field-0-1 c.in-Some.fields
    (begins-there c.args.octets.now c.args.offset c.in-Some.field-0-1 c.in-Some.fields c.in-Some.ensures) c.in-Fault.next
    (not-true c.in-Some.fields.constructed c.if-not-fields.false)
    (ends-there c.args.padding c.args.octets.now c.args.fault c.args.offset _ _ _ c.closed_framing.ensures c.in-Fault.is
    c.ending_in.ensures) (sym c.is_far.ensures ∙ c.if-is_far.false)
