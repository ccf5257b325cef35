use Rattle.std.proofs.Common.{ap, rules, subst, ℕ}
use Rattle.std.proofs.lemmas.Result.{on_ok_weaker}
use Rattle.std.specs.Option.{is_some}
use Rattle.tlv_walk.specs.Follow.{HasEffect, each_octet}
use Rattle.tlv_show.specs.LinesStep.{LinesState, lines_padding_step}
use Rattle.tlv_show.specs.DumpStep.{DumpState}
use Rattle.tlv_show.specs.Private.KeptLines.{lines_if}
use Rattle.tlv_show.proofs.DumpLemmas.DumpSteps.{each-filled}
use Rattle.tlv_show.proofs.DumpLemmas.FinderKeeps.{dump_with}
use Rattle.tlv_show.proofs.dump_follower.Dump.put_lines.Goals as goal

pub returns-in-Pad : goal.returns-in-Pad
returns-in-Pad g c =
    let s : DumpState = dump_with c.self-in-Pad.inside.lines c.self-in-Pad.inside.finder.kept in
    let is_open = is_some s.finder.open_primitive in
    let shown =
    subst
    (λ (n : ℕ). HasEffect g.D.Drain.state (each_octet (lines_padding_step n) s.lines c.in-Pad.octets.now)
    c.args.out.now c.pad.new.out (lines_if is_open c.pad.new.self) c.pad.result)
    c.level.ensures (c.pad.ensures is_open) in
    rw (c.in-Pad.is, ← c.self-in-Pad.view_is, each-filled s c.in-Pad.octets.now)
    (record {
      puts = shown.puts;
      state =
          on_ok_weaker c.pad.result (ap (λ (l : LinesState). record { lines = l; finder = s.finder })) shown.state;
    })

pub returns-in-End : goal.returns-in-End
returns-in-End g c = search rules
