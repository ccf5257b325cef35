use Rattle.std.proofs.Common.{rules}
use Rattle.tlv_head.proofs.header.spell_indefinite.Goals as goal

pub returns : goal.returns
returns c = search rules
