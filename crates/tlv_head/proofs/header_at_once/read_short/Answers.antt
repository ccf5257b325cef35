use Rattle.std.proofs.Common.{rules}
use Rattle.tlv_head.proofs.ReaderLemmas.Prefix.{begins_short}
use Rattle.tlv_head.proofs.ReaderLemmas.ShortPrefixes.{no-short_identifier, no-short_length}
use Rattle.tlv_head.proofs.header_at_once.read_short.Goals as goal

pub returns-in_err-identifier-clause-begins : goal.returns-in_err-identifier-clause-begins
returns-in_err-identifier-clause-begins c =
    rw c.from_residual.ensures (no-short_identifier c.args.octets.now c.in_err-identifier.ensures)

pub returns-in_err-size-clause-begins : goal.returns-in_err-size-clause-begins
returns-in_err-size-clause-begins c =
    rw c.from_residual-in_err-size.ensures
    (no-short_length c.args.octets.now c.in_ok-identifier.identifier c.from-id_len.result (search rules)
    (search rules) c.in_err-size.ensures)

pub returns-clause-begins : goal.returns-clause-begins
returns-clause-begins c =
    rw c.header_fields.ensures
    (begins_short c.args.octets.now c.args.offset c.args.named c.in_ok-identifier.identifier c.in_ok-size.size
    c.from-id_len.result c.in_ok-size.count
    (search rules) (search rules) (search rules))
