use Rattle.tlv_text.proofs.PemLemmas.{no-dashes, no-dashes-at_all}
use Rattle.tlv_text.proofs.pem.first_hyphen.Goals as goal

pub returns-in-Some-clause-none : goal.returns-in-Some-clause-none
returns-in-Some-clause-none c = no-dashes c.args.text.now c.in-Some.length c.in-Some.ensures

pub returns-in-None-clause-none : goal.returns-in-None-clause-none
returns-in-None-clause-none c = no-dashes-at_all c.args.text.now c.in-None.ensures
