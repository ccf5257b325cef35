use Rattle.std.proofs.Common.{◌≡◌, refl, rules}
use Rattle.std.specs.Option.{option_map}
use Rattle.tlv_reasons.specs.Remedies.{record_sentence}
use Rattle.tlv_reasons.proofs.mend.other_reasons.Goals as goal

pub returns-clause-reasons : goal.returns-clause-reasons
returns-clause-reasons c =
    let next : c.map.result ≡ option_map record_sentence c.next_record-next.result = search rules in
    record {
      remedy = c.in_ok-remedy.remedy;
      is_remedy = c.in_ok-remedy.ensures;
      record_after = c.next_record-next.result;
      is_record =
          rw (c.fault_offset-fault.ensures, c.named_at-wrong.ensures, c.as_slice.ensures.value, c.lengths_in.ensures, c.start_in.ensures)
          at c.next_record-next.ensures;
      sentences_are =
          rw (
            c.joined.ensures,
            c.as_slice-4.ensures.value,
            c.as_slice-5.ensures.value,
            c.said-front.ensures.said,
            c.replaced_sentence.ensures,
            c.joined-others.ensures,
            c.as_slice-2.ensures.value,
            c.as_slice-3.ensures.value,
            c.reasons_if-reasons.ensures.reasons,
            c.said-record.ensures.said,
            c.is_some.ensures,
            next,
          ) refl;
    }
