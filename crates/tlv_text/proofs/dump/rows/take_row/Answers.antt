use Rattle.std.proofs.Common.{◌≡◌, ◌∙◌, Bool, Some, ap, refl, sym}
use Rattle.tlv_text.proofs.DumpOutputLemmas.{repeated-once}
use Rattle.tlv_text.proofs.DumpStepLemmas.{row-taken}
use Rattle.tlv_text.specs.Dump.{octets_repeated}
use Rattle.tlv_text.specs.DumpPairs.{dump_row_octets, octets_if}
use Rattle.tlv_text.specs.Private.DumpSteps.{IsAdded, dump_place_of, row_seen}
use Rattle.tlv_text.specs.Private.PairSteps.{pair_octets}
use Rattle.tlv_text.proofs.dump.rows.take_row.Goals as goal

pub returns-clause-taken : goal.returns-clause-taken
returns-clause-taken c =
    let digits = c.row_digits.new.digits in
    let octets : Some (pair_octets digits.items) ≡ dump_row_octets c.args.size (row_seen c.args.row) =
    ap (λ (fits : Bool). octets_if fits (pair_octets digits.items)) (sym c.if-not-row_digits.false)
    ∙ c.row_digits.ensures.octets in
    let first : IsAdded (octets_repeated c.in-Some.times (pair_octets c.args.last.now.digits.items)) c.args.output.now
    c.add_octets-2.new.output =
    rw c.as_slice-2.ensures.value at c.in_ok-add_octets-2.ensures in
    let second : IsAdded (pair_octets digits.items) c.add_octets-2.new.output c.add_octets-3.new.output =
    rw (c.as_slice-3.ensures.value, repeated-once (pair_octets digits.items)) at c.in_ok-add_octets-3.ensures in
    row-taken c.args.size c.in-Some.times (dump_place_of c.args.last.now) (row_seen c.args.row) _
    c.args.output.now c.add_octets-2.new.output c.add_octets-3.new.output refl c.in-Some.ensures
    (sym c.are_blanks.ensures ∙ c.if-are_blanks.false) (sym c.is_full.ensures ∙ c.if-not-is_full.false) octets first second
