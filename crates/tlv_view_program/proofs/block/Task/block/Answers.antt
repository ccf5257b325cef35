use Rattle.std.proofs.Common.{◌≡◌, ℕ, Bool, List, [], ap, refl, ◌∙◌}
use Rattle.std.specs.Prelude.{Result, ⊤, max}
use Rattle.tlv_io.specs.Device.{DrainState}
use Rattle.tlv_io.specs.Out.{Sends}
use Rattle.tlv_io.specs.declared.drain.WriteFault.{WriteFault}
use Rattle.tlv_open.specs.declared.strings.BrokenString.{BrokenString}
use Rattle.tlv_run.specs.Report.{ReportValue, report_value_of}
use Rattle.tlv_view_program.specs.Lines.{MessagePlace}
use Rattle.tlv_view_program.specs.Private.BlockParts.{block_contents, place_value}
use Rattle.tlv_view_program.specs.ShowsBlock.{block_messages, contents_status, said_message, status_with}
use Rattle.tlv_view_program.proofs.block.Task.block.Goals as goal

-- the same messages
same-messages : (old new : DrainState) (p q : MessagePlace) (message text : List ℕ) (broken strings : List BrokenString)
    (r : Result ⊤ WriteFault) → p ≡ q → message ≡ text → broken ≡ strings
    → Sends old new (block_messages p message broken) r → Sends old new (block_messages q text strings) r
same-messages old new p q message text broken strings r e f h x = rw (← e, ← f, ← h) x

pub returns : goal.returns
returns g c =
    let placed = c.name_of-name.ensures (place_value c.args.number c.args.self.now) refl in
    let refused = c.reasons_report-refusal.ensures in record {
      octets = c.explained-outcome.ensures.octets;
      noted = c.write_contents_note.result;
      after_note = g.M.Drain.state c.write_contents_note.new.drain;
      notes = rw placed at c.write_contents_note.ensures;
      report = report_value_of c.titled-shown.result.report;
      broken = c.titled-shown.result.broken.items;
      output = g.O.Drain.state c.titled-shown.new.drain;
      shows = c.titled-shown.ensures;
      said = c.write_messages.result;
      after_messages = g.M.Drain.state c.write_messages.new.drain;
      says =
          same-messages _ _ _ _ _ _ _ _ _ placed
          (c.said_message-message.ensures
          ∙ ap (λ (gone : Bool). said_message gone (report_value_of c.titled-shown.result.report))
          c.reader_is_gone.ensures)
          c.as_slice.ensures.value c.write_messages.ensures;
      outcome = c.explained-outcome.result;
      after_reasons = g.M.Drain.state c.explained-outcome.new.drain;
      reasons = c.explained-outcome.ensures.reasons;
      told = c.write_messages-2.result;
      tells =
          same-messages _ _ _ _ _ _ [] [] _ placed
          (c.as_slice-2.ensures.value ∙ ap (λ (r : ReportValue). r.message) refused) refl c.write_messages-2.ensures;
      same = refl;
      failed_is = c.has_failed_write.ensures;
      status_is =
          c.highest.ensures
          ∙ ap (λ (n : ℕ). max n c.reasons_report-refusal.result.status)
          (c.contents_status-status.ensures
          ∙ ap (contents_status c.args.self.now.request.now.wanted (block_contents c.args.block.now.contents))
          (c.status_with-shown_status.ensures
          ∙ ap (status_with c.titled-shown.result.report.status) c.as_slice-3.ensures.value))
          ∙ ap (λ (r : ReportValue). max (contents_status c.args.self.now.request.now.wanted
          (block_contents c.args.block.now.contents)
          (status_with c.titled-shown.result.report.status c.titled-shown.result.broken.items)) r.status) refused;
    }
