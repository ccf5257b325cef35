use Rattle.std.proofs.Common.{rules}
use Rattle.tlv_show.proofs.lines.Lines.new.Goals as goal

pub returns : goal.returns
returns g c = search rules
