use Rattle.std.proofs.lemmas.Result.{IfOk-weaker}
use Rattle.tlv_program.proofs.ParserLemmas.{one_more}
use Rattle.tlv_view_program.specs.ShowCommandLine.{show_app}
use Rattle.tlv_view_program.proofs.parser.show_parser.Goals as goal

pub returns : goal.returns
unfolding show_app
returns c =
    let has_1 = one_more c.in_ok-asking_parser.ensures c.in_ok-arg.ensures c.option.ensures in
    let has_2 = one_more has_1 c.in_ok-arg-2.ensures c.option-2.ensures in
    let has_3 = one_more has_2 c.in_ok-arg-3.ensures c.option-3.ensures in
    let has_4 = one_more has_3 c.in_ok-arg-4.ensures c.flag.ensures in
    let has_5 = one_more has_4 c.in_ok-arg-5.ensures c.option-4.ensures in
    let has_6 = one_more has_5 c.in_ok-arg-6.ensures c.flag-2.ensures in
    let has_7 = one_more has_6 c.in_ok-arg-7.ensures c.flag-3.ensures in
    let has_8 = one_more has_7 c.in_ok-arg-8.ensures c.flag-4.ensures in
    let has_9 = one_more has_8 c.in_ok-arg-9.ensures c.help_flag.ensures in
    IfOk-weaker c.arg-10.result _ _ (λ m h. one_more has_9 h c.version_flag.ensures) c.arg-10.ensures
