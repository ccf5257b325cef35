use Rattle.std.proofs.Common.{rules}
use Rattle.tlv_head.proofs.tag.tag_text.Goals as goal

pub returns : goal.returns
returns c = search rules
