use Rattle.std.proofs.Common.{◌≡◌, ◌-◌, ◌^◌, ◌<◌, ◌≤◌, ℕ, length, ap, ap₂, sym, ◌∙◌, arith}
use Rattle.std.proofs.lemmas.Result.{on_ok_weaker}
use Rattle.std.specs.Prelude.{Option}
use Rattle.tlv_value.specs.ValueTextState.{ValueTextState}
use Rattle.tlv_walk.specs.Follow.{Effect, each_octet}
use Rattle.tlv_show.specs.LinesStep.{LinesState, lines_octet_step}
use Rattle.tlv_show.specs.Private.KeptLines.{KeptLines, lines_if}
use Rattle.tlv_show.proofs.DumpLemmas.OctetPieces.{dumped_bytes}
use Rattle.tlv_io.proofs.Puts.{puts_text}
use Rattle.tlv_show.proofs.lines.Lines.bytes.Goals as goal
use Rattle.tlv_show.specs.SaturatingSum.{saturating_sum}

pub returns : goal.returns
returns g c =
    let s = c.self.inside in
    let octets = c.args.octets.now in
    let some : 0 < length octets = search arith in
    let within : s.offset ≤ 2 ^ 64 - 1 = omega arith in
    let is =
    ap (λ (k : KeptLines). each_octet lines_octet_step (lines_if c.args.is_open k) octets) (sym c.self.view_is)
    ∙ dumped_bytes _ octets (λ e. absurd (omega (arith, some, ap length e))) in
    let there : c.saturating_add-self-inside.result ≡ saturating_sum s.offset (length octets) =
    omega (arith, c.saturating_add-self-inside.ensures, within) in
    record {
      puts = puts_text g.D.Drain.state _ _ _ _ _ (sym (ap (λ (t : Effect LinesState). t.put) is))
          c.put_bytes.ensures.puts;
      state = on_ok_weaker c.put_bytes.result
          (λ e. ap₂
          (λ (o : ℕ) (v : Option ValueTextState).
          record { layout = s.layout; with_text = s.with_text; names = g.N.FiniteNames.table s.names.now; offset = o; in_padding = s.in_padding; open_text = v })
          there e
          ∙ sym (ap (λ (t : Effect LinesState). t.state) is))
          c.put_bytes.ensures.state;
    }
