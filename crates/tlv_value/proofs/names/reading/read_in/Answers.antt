use Rattle.std.proofs.lemmas.Result.{err_from_is_err_and}
use Rattle.tlv_value.proofs.NamesLemmas.Reads.{reads-from_table, failed-reads_from}
use Rattle.tlv_value.proofs.names.reading.read_in.Goals as goal

pub returns-in_err-octets : goal.returns-in_err-octets
returns-in_err-octets g c =
    let p = err_from_is_err_and c.from_residual.result c.from_residual.ensures.1 in rw (p.1, p.2)
    (failed-reads_from _ _ _ c.in_err-octets.ensures)

pub returns : goal.returns
returns g c = reads-from_table _ _ _ _ c.in_ok-octets.ensures (rw c.as_slice.ensures.value at c.names_of.ensures)
