use Rattle.std.proofs.Common.{◌≡◌, drop}
use Rattle.tlv_show.specs.SetOrderState.{frame_after_octets}
use Rattle.tlv_show.proofs.set_frame.compare_octets.Given as goal

abbrev pub invariant-loop-octet : goal.invariant-loop-octet
invariant-loop-octet l =
    frame_after_octets l.frame (drop l.octet-index l.octets) ≡ frame_after_octets l.initial.frame l.octets
