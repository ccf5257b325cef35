use Rattle.std.proofs.Common.{rules}
use Rattle.tlv_head.proofs.head_reader.HeadReader.done.Goals as goal

pub returns-in-Whole : goal.returns-in-Whole
returns-in-Whole c = search rules
