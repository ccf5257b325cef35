use Rattle.std.proofs.Common.{refl}
use Rattle.std.proofs.lemmas.Result.{err_from_is_err_and}
use Rattle.tlv_io.proofs.Sends.{sends_err, sends_then}
use Rattle.tlv_run.specs.Report.{report_value_of}
use Rattle.tlv_reasons.specs.Sentences.{sentences_text}
use Rattle.tlv_view_program.specs.Reasons.{findings_text, parsing_sentences}
use Rattle.tlv_view_program.proofs.explain.write_parsing.Goals as goal

pub returns-in_err-write_sentences : goal.returns-in_err-write_sentences
returns-in_err-write_sentences g c =
    let p = err_from_is_err_and c.from_residual.result c.from_residual.ensures.1 in
    rw p.1
    (sends_err _ _ (sentences_text c.args.octets.now (parsing_sentences c.args.octets.now c.args.facts.now c.args.found.now.kinds)) _ _ p.0 (rw (c.as_slice.ensures.value, c.parsing_sentences-sentences.ensures) at c.in_err-write_sentences.ensures)
    record {
      rest =
          findings_text (report_value_of c.args.found.now.ber.report).message
          (report_value_of c.args.found.now.der).message c.args.found.now.first.items;
      is = refl;
    })

pub returns : goal.returns
returns g c =
    sends_then _ _ _ (sentences_text c.args.octets.now (parsing_sentences c.args.octets.now c.args.facts.now c.args.found.now.kinds)) _ tt _
    (rw (c.as_slice.ensures.value, c.parsing_sentences-sentences.ensures) at c.in_ok-write_sentences.ensures)
    (rw (c.as_slice-2.ensures.value, c.as_slice-3.ensures.value, c.as_slice-4.ensures.value) at c.write_findings.ensures)
