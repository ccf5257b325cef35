use Rattle.std.proofs.Common.{◌≡◌, ℕ, Bool, List, ap, rules, refl, ◌∙◌}
use Rattle.std.specs.Prelude.{Result, Err}
use Rattle.clap.specs.Words.{Text}
use Rattle.tlv_run.specs.Report.{ReportValue}
use Rattle.tlv_program.specs.System.{Allows}
use Rattle.tlv_program.specs.declared.program.NoWords.{NoWords}
use Rattle.tlv_program.specs.declared.program.NoWords.TheVariants.{NotUtf8, Memory}
use Rattle.tlv_view_program.specs.ShowsAll.{RunsShow, no_memory, not_utf8, refused, runs}
use Rattle.tlv_view_program.specs.Streams.{StreamsValue}
use Rattle.tlv_view_program.proofs.show_call.run_show.Goals as goal

module _ {S : Type 0} (allows : Allows S) (places : List (List ℕ)) (typed : Bool) (old new : StreamsValue S) where
  -- there are no words
  without_words : (words : Result (List Text) NoWords) (why : NoWords) (status : ℕ) → words ≡ Err why
      → RunsShow allows places typed old new (Err why) status → RunsShow allows places typed old new words status
  without_words words why status is x = rw is x

pub returns-in-Err-NotUtf8 : goal.returns-in-Err-NotUtf8
returns-in-Err-NotUtf8 g c =
    let said = ap (λ (r : ReportValue). r.message) c.not_utf8_report.ensures in
    let status = ap (λ (r : ReportValue). r.status) c.not_utf8_report.ensures in
    rw (c.write_message.ensures.status ∙ status)
    (without_words g.S.System.allows c.args.places.now c.args.typed _ _ c.args.words.now NotUtf8 _ (search rules)
    (not_utf8 (rw said at c.write_message.ensures.writes, refl)))

pub returns-in-Err-Memory : goal.returns-in-Err-Memory
returns-in-Err-Memory g c =
    let said = ap (λ (r : ReportValue). r.message) c.request_report.ensures in
    let status = ap (λ (r : ReportValue). r.status) c.request_report.ensures in
    rw (c.write_message-in-Err-Memory.ensures.status ∙ status)
    (without_words g.S.System.allows c.args.places.now c.args.typed _ _ c.args.words.now Memory _ (search rules)
    (no_memory (rw said at c.write_message-in-Err-Memory.ensures.writes, refl)))

pub returns-in-Ok-request_of : goal.returns-in-Ok-request_of
returns-in-Ok-request_of g c =
    rw c.in-Ok.is
    (runs c.in-Ok.words c.in-Ok-request_of.request c.show_request.result c.in-Ok-request_of.ensures.ok
    c.show_request.ensures)

pub returns-in-Err : goal.returns-in-Err
returns-in-Err g c =
    let said = ap (λ (r : ReportValue). r.message) c.refused_report.ensures in
    let status = ap (λ (r : ReportValue). r.status) c.refused_report.ensures in
    rw (c.in-Ok.is, c.write_message-in-Err.ensures.status ∙ status)
    (refused c.in-Ok.words c.in-Err.fault c.print_refusal-printed.result c.print_refusal-printed.new.system
    c.in-Err.ensures.err c.print_refusal-printed.ensures (rw said at c.write_message-in-Err.ensures.writes, refl))
