use Rattle.std.proofs.Common.{◌∙◌, ap}
use Rattle.std.specs.FinMap as finite
use Rattle.tlv_io.proofs.Puts.{puts_text}
use Rattle.tlv_value.specs.declared.layout.Layout.{Layout}
use Rattle.tlv_value.specs.TextBeside.{whole_lines_with}
use Rattle.tlv_value.specs.Value.{NameOf}
use Rattle.tlv_show.specs.Private.KeptLines.{KeptLines}
use Rattle.tlv_show.specs.Texts.{layout_at}
use Rattle.tlv_show.proofs.lines.Lines.whole.Goals as goal

pub returns-clause-puts : goal.returns-clause-puts
returns-clause-puts g c =
    let h = c.args.header.now in
    let octets = c.args.contents.now in
    let named =
    ap (λ (n : NameOf). whole_lines_with c.self.inside.with_text n h c.layout_at.result octets)
    (g.met.N.FiniteNames.has_table c.self.inside.names.now) in
    let laid =
    ap (λ (l : Layout). whole_lines_with c.self.inside.with_text
    (finite.get (g.N.FiniteNames.table c.self.inside.names.now)) h l octets)
    c.layout_at.ensures in
    let same =
    ap (λ (k : KeptLines). whole_lines_with k.with_text (finite.get k.names) h (layout_at k.layout c.args.level) octets)
    c.self.view_is in
    puts_text g.D.Drain.state _ _ _ _ _ (named ∙ laid ∙ same) c.put_whole_with.ensures
