use Rattle.std.proofs.Common.{refl}
use Rattle.tlv_view_program.specs.ShowsBlock.{explained}
use Rattle.tlv_view_program.proofs.octets.show_octets.Goals as goal

pub returns-in-Why : goal.returns-in-Why
returns-in-Why g c = explained c.in-Why.closed _ _ (rw c.in-Why.is refl) c.explain.ensures
