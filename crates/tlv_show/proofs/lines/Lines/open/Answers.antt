use Rattle.std.proofs.Common.{ap, refl, rules}
use Rattle.tlv_io.proofs.Puts.{puts_as, puts_text}
use Rattle.tlv_value.specs.declared.layout.Layout.{Layout}
use Rattle.tlv_show.specs.HolderLines.{opening_line}
use Rattle.tlv_show.proofs.lines.Lines.open.Goals as goal

pub returns : goal.returns
returns g c is_open =
    let line = ap (λ (l : Layout). opening_line l c.args.header.now c.args.word.now) c.layout_at.ensures in
    record {
      puts = puts_text g.D.Drain.state _ _ _ _ _ line
          (puts_as g.D.Drain.state _ _ _ _ _ _ c.in_ok-put_opening.ensures refl);
      state = search rules;
    }
