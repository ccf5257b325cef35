use Rattle.std.proofs.Common.{◌∙◌, sym, arith}
use Rattle.tlv_reasons.specs.NextRecord.{another_length, none_in_front, searched}
use Rattle.tlv_reasons.proofs.records.record_without_start.Goals as goal

pub returns-then-top-eq0 : goal.returns-then-top-eq0
returns-then-top-eq0 c = none_in_front c.if-top-eq0.true

pub returns-then-is_length_of : goal.returns-then-is_length_of
returns-then-is_length_of c = another_length (sym c.is_length_of.ensures ∙ c.if-is_length_of.true)

pub returns : goal.returns
returns c =
    searched (omega arith) (sym c.is_length_of.ensures ∙ c.if-is_length_of.false) c.record_after.ensures
