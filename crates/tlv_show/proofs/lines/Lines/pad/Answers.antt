use Rattle.std.proofs.Common.{◌≡◌, ◌-◌, ◌^◌, ◌<◌, ◌≤◌, ℕ, true, length, ap, sym, ◌∙◌, arith}
use Rattle.std.proofs.lemmas.Result.{on_ok_weaker}
use Rattle.tlv_walk.specs.Follow.{Effect, each_octet}
use Rattle.tlv_value.specs.declared.layout.Layout.{Layout}
use Rattle.tlv_show.specs.HolderLines.{padding_line}
use Rattle.tlv_show.specs.LinesStep.{LinesState, lines_padding_step}
use Rattle.tlv_show.specs.Private.KeptLines.{KeptLines, lines_if}
use Rattle.tlv_show.specs.Private.IfOpen.{if_open}
use Rattle.tlv_show.proofs.DumpLemmas.OctetPieces.{padded_first, padded_more}
use Rattle.tlv_io.proofs.Puts.{puts_nothing, puts_text}
use Rattle.tlv_show.proofs.lines.Lines.pad.Goals as goal
use Rattle.tlv_show.specs.SaturatingSum.{saturating_sum}

pub returns-then-self : goal.returns-then-self
returns-then-self g c is_open =
    let s = c.self.inside in
    let within : s.offset ≤ 2 ^ 64 - 1 = omega arith in
    let there : c.saturating_add-self-inside.result ≡ saturating_sum s.offset (length c.args.octets.now) =
    omega (arith, c.saturating_add-self-inside.ensures, within) in
    let is =
    ap (λ (k : KeptLines). each_octet (lines_padding_step c.args.level) (lines_if is_open k) c.args.octets.now)
    (sym c.self.view_is)
    ∙ padded_more c.args.level _ c.args.octets.now c.if-self.true in
    record {
      puts = puts_text g.D.Drain.state _ _ _ _ _ (sym (ap (λ (t : Effect LinesState). t.put) is))
          (puts_nothing g.D.Drain.state _ tt);
      state =
          ap (λ (o : ℕ).
          record {
            layout =
                s.layout;
            with_text = s.with_text;
            names = g.N.FiniteNames.table s.names.now;
            offset = o;
            in_padding = s.in_padding;
            open_text = if_open is_open s.text;
          })
          there
          ∙ sym (ap (λ (t : Effect LinesState). t.state) is);
    }

pub returns : goal.returns
returns g c is_open =
    let s = c.self.inside in
    let within : s.offset ≤ 2 ^ 64 - 1 = omega arith in
    let some : 0 < length c.args.octets.now = search arith in
    let there : c.saturating_add-self-inside.result ≡ saturating_sum s.offset (length c.args.octets.now) =
    omega (arith, c.saturating_add-self-inside.ensures, within) in
    let line = ap (λ (l : Layout). padding_line l s.offset) c.layout_at.ensures in
    let is =
    ap (λ (k : KeptLines). each_octet (lines_padding_step c.args.level) (lines_if is_open k) c.args.octets.now)
    (sym c.self.view_is)
    ∙ padded_first c.args.level _ c.args.octets.now some c.if-self.false in
    record {
      puts = puts_text g.D.Drain.state _ _ _ _ _ (line ∙ sym (ap (λ (t : Effect LinesState). t.put) is))
          c.put_padding.ensures;
      state = on_ok_weaker c.put_padding.result
          (λ
          _. ap (λ (o : ℕ).
          record {
            layout =
                s.layout;
            with_text = s.with_text;
            names = g.N.FiniteNames.table s.names.now;
            offset = o;
            in_padding = true;
            open_text = if_open is_open s.text;
          })
          there
          ∙ sym (ap (λ (t : Effect LinesState). t.state) is))
          c.put_padding.ensures.held;
    }
