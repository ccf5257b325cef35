use Rattle.std.proofs.Common.{ap, refl, ◌∙◌}
use Rattle.tlv_run.specs.Report.{ReportValue}
use Rattle.tlv_view_program.specs.ShowsAll.{no_names, shows}
use Rattle.tlv_view_program.specs.Streams.{streams_value}
use Rattle.tlv_view_program.proofs.show_call.show_request.Goals as goal

pub returns-in-Ok : goal.returns-in-Ok
returns-in-Ok g c =
    let names_said = ap (λ (r : ReportValue). r.message) c.names_note.ensures in
    let input_said = ap (λ (r : ReportValue). r.message) c.note_of_input.ensures in
    shows c.in-Ok.table.names c.in-Ok.table.is_missing c.table_for.new.system
    (record (streams_value g.I.Source.state g.O.Drain.state g.O.Output.reader_gone g.M.Drain.state c.args.streams.now) {
      system = c.table_for.new.system;
      messages = g.M.Drain.state c.write_message.new.drain;
    })
    (record (streams_value g.I.Source.state g.O.Drain.state g.O.Output.reader_gone g.M.Drain.state c.args.streams.now) {
      system = c.table_for.new.system;
      messages = g.M.Drain.state c.write_message-in-Ok.new.drain;
    })
    c.show_files.result (rw c.in-Ok.is at c.table_for.ensures)
    (rw names_said at c.write_message.ensures.writes, refl)
    (rw input_said at c.write_message-in-Ok.ensures.writes, refl)
    c.show_files.ensures

pub returns-in-Err : goal.returns-in-Err
returns-in-Err g c =
    let said = ap (λ (r : ReportValue). r.message) c.names_report.ensures in
    let status = ap (λ (r : ReportValue). r.status) c.names_report.ensures in
    rw (c.write_message-in-Err.ensures.status ∙ status)
    (no_names c.in-Err.fault c.table_for.new.system (rw c.in-Err.is at c.table_for.ensures)
    (rw said at c.write_message-in-Err.ensures.writes, refl))
