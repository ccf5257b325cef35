use Rattle.std.proofs.Common.{sym, ◌∙◌}
use Rattle.tlv_value.specs.Times.{hour, minute, sign}
use Rattle.tlv_value.proofs.CheckLemmas.Forms.{no-third, third}
use Rattle.tlv_value.proofs.time.is_utc_difference.Goals as goal

pub returns-in-Some : goal.returns-in-Some
returns-in-Some c =
    c.is_minute.ensures ∙ sym (third sign hour minute c.args.octets.now c.in-Some.rest.now c.in-Some.ensures)

pub returns-in-None : goal.returns-in-None
returns-in-None c = no-third sign hour minute c.args.octets.now c.in-None.ensures
