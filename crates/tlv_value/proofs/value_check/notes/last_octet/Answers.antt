use Rattle.tlv_value.proofs.CheckLemmas.Noting.{last-some}
use Rattle.tlv_value.proofs.value_check.notes.last_octet.Goals as goal

pub returns-in-len1-up : goal.returns-in-len1-up
returns-in-len1-up c = last-some c.args.previous c.args.octets.now c.in-len1-up.len_at_least
