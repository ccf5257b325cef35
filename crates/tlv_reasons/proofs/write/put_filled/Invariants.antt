use Rattle.std.proofs.Common.{drop}
use Rattle.tlv_reasons.proofs.FilledLemmas.{IsFilledTo}
use Rattle.tlv_reasons.proofs.write.put_filled.Given as goal

abbrev pub invariant-loop-octet : goal.invariant-loop-octet
invariant-loop-octet g l =
    IsFilledTo g.D.Drain.state l.initial.out l.out l.octets l.words l.values (drop l.octet-index l.words) l.left
