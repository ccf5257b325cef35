use Rattle.std.proofs.Common.{refl}
use Rattle.tlv_head.proofs.fault.Fault.text.Goals as goal

pub returns-in-Overrun-clause-text : goal.returns-in-Overrun-clause-text
returns-in-Overrun-clause-text c = rw c.in-Overrun.is refl
