use Rattle.tlv_text.proofs.DumpStepLemmas.{first-among}
use Rattle.tlv_text.specs.Dump.{DumpPlace, rows_read}
use Rattle.tlv_text.specs.DumpLines.{dump_lines}
use Rattle.tlv_text.specs.Private.PairSteps.{pair_octets}
use Rattle.tlv_text.proofs.dump.read_among.Goals as goal

pub returns : goal.returns
returns c =
    first-among c.args.limit _ (pair_octets c.row_digits.new.digits.items) c.no_octets-output.result
    c.add_octets.new.output c.args.left c.args.row.offset
    (λ (place : DumpPlace). rows_read c.args.radix c.args.size place (dump_lines c.args.rest.now)) _
    c.if-not-row_digits.ensures.octets c.no_octets-output.ensures
    (rw c.as_slice.ensures.value at c.in_ok-add_octets.ensures) c.in_ok-left.ensures.octets c.in_ok-left.ensures.left
