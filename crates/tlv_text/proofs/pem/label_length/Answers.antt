use Rattle.std.proofs.Common.{◌∙◌, sym}
use Rattle.tlv_text.proofs.PemLemmas.{no-label-at_hyphen, no-label-without_hyphen}
use Rattle.tlv_text.proofs.pem.label_length.Goals as goal

pub returns-in_default : goal.returns-in_default
returns-in_default c =
    no-label-at_hyphen c.args.text.now c.in-Some.length c.in-Some.ensures
    (sym c.is_label_before_dashes.ensures ∙ c.if-is_label_before_dashes.false)

pub returns-in_default-2 : goal.returns-in_default-2
returns-in_default-2 c = no-label-without_hyphen c.args.text.now c.in_default.ensures
