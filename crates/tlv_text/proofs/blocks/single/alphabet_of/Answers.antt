use Rattle.tlv_text.proofs.BlockLemmas.{standard-without}
use Rattle.tlv_text.proofs.blocks.single.alphabet_of.Goals as goal

pub returns-in-None : goal.returns-in-None
returns-in-None c = standard-without c.args.text.now c.in-None.ensures
