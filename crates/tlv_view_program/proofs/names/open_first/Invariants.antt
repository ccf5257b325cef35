use Rattle.std.proofs.Common.{Option, drop}
use Rattle.tlv_io.specs.Device.{SourceState}
use Rattle.tlv_view_program.specs.ShowsAll.{OpensFirst}
use Rattle.tlv_view_program.proofs.names.open_first.Given as goal

-- what comes of the places that are left comes of all of them
abbrev pub invariant-loop-place : goal.invariant-loop-place
invariant-loop-place g l =
    (new : _) (found : Option SourceState)
    → OpensFirst g.S.System.allows (drop l.place-index l.fn.places) l.system new found
    → OpensFirst g.S.System.allows l.fn.places l.fn.system new found
