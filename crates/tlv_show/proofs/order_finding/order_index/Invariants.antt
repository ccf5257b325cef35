use Rattle.std.proofs.Common.{◌≡◌, ◌++◌, drop, take}
use Rattle.tlv_show.specs.ShownFindings.{with_order}
use Rattle.tlv_show.proofs.order_finding.order_index.Given as goal

abbrev pub invariant-loop-i : goal.invariant-loop-i
invariant-loop-i l = with_order l.findings ≡ take l.i l.findings ++ with_order (drop l.i l.findings)
