use Rattle.std.proofs.Common.{ap}
use Rattle.tlv_io.proofs.Puts.{puts_nothing}
use Rattle.tlv_show.specs.FinderState.{FinderState}
use Rattle.tlv_show.proofs.FindingLemmas.CheckLaws.{each-found}
use Rattle.tlv_show.proofs.check_follower.Check.put_lines.Goals as goal

pub returns-in-Bytes : goal.returns-in-Bytes
returns-in-Bytes g c =
    rw (c.in-Bytes.is, each-found c.args.self.now c.in-Bytes.octets.now, ← c.self.view_is)
    (record {
      puts = puts_nothing g.D.Drain.state c.args.out.now tt;
      state = ap (λ (f : FinderState). f.kept) c.bytes.ensures;
    })
