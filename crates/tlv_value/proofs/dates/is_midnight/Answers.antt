use Rattle.std.proofs.Common.{sym, ◌∙◌}
use Rattle.tlv_value.specs.Dates.{midnight_form}
use Rattle.tlv_value.proofs.CheckLemmas.Forms.{no-octets-is, no_whole, whole_rest}
use Rattle.tlv_value.proofs.dates.is_midnight.Goals as goal

pub returns-in-Some : goal.returns-in-Some
returns-in-Some c =
    c.is_empty.ensures
    ∙ sym (whole_rest midnight_form c.args.octets.now c.in-Some.rest.now c.in-Some.ensures ∙ no-octets-is c.in-Some.rest.now)

pub returns-in-None : goal.returns-in-None
returns-in-None c = no_whole midnight_form c.args.octets.now c.in-None.ensures
