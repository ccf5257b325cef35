use Rattle.std.proofs.Common.{rules}
use Rattle.tlv_show.proofs.lines.Lines.close.Goals as goal

pub returns : goal.returns
returns g c is_open = record { puts = search rules; state = search rules }
