use Rattle.std.proofs.Common.{◌∙◌, ◌≡◌, Bool, ap, subst}
use Rattle.std.proofs.lemmas.Result.{on_ok_weaker}
use Rattle.std.specs.Option.{is_some}
use Rattle.tlv_walk.specs.Follow.{HasEffect, each_octet}
use Rattle.tlv_show.specs.DumpStep.{DumpState}
use Rattle.tlv_show.specs.FinderState.{CheckState, FinderState, finder_bytes_step}
use Rattle.tlv_show.specs.LinesStep.{LinesState, lines_octet_step}
use Rattle.tlv_show.specs.Private.KeptLines.{lines_if}
use Rattle.tlv_show.proofs.DumpLemmas.DumpSteps.{each-shown}
use Rattle.tlv_show.proofs.DumpLemmas.FinderKeeps.{dump_with, open-after_bytes}
use Rattle.tlv_show.proofs.dump_follower.Dump.bytes.Goals as goal

pub returns : goal.returns
returns g c =
    let s : DumpState = dump_with c.self.inside.lines c.self.inside.finder.kept in
    let octets = c.args.octets.now in
    let f : CheckState = finder_bytes_step s.finder octets in
    let kept : c.bytes.new.self.kept ≡ f = ap (λ (u : FinderState). u.kept) c.bytes.ensures in
    let same = open-after_bytes s.finder octets in
    let shown =
    subst
    (λ (b : Bool). HasEffect g.D.Drain.state (each_octet lines_octet_step (lines_if b c.self.inside.lines) octets)
    c.args.out.now c.bytes-2.new.out (lines_if b c.bytes-2.new.self) c.bytes-2.result)
    (c.is_open.ensures ∙ ap (λ (u : CheckState). is_some u.open_primitive) kept ∙ same) c.bytes-2.ensures in
    rw (← c.self.view_is, each-shown s octets)
    (record {
      puts = shown.puts;
      state =
          on_ok_weaker c.bytes-2.result
          (λ e. ap (dump_with c.bytes-2.new.self) kept
          ∙ ap (λ (b : Bool). record { lines = lines_if b c.bytes-2.new.self; finder = f }) same
          ∙ ap (λ (l : LinesState). record { lines = l; finder = f }) e)
          shown.state;
    })
