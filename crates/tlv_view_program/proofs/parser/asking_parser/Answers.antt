use Rattle.std.proofs.lemmas.Result.{IfOk-weaker}
use Rattle.tlv_program.proofs.ParserLemmas.{one_more}
use Rattle.tlv_view_program.proofs.parser.asking_parser.Goals as goal

pub returns : goal.returns
returns c =
    let has_1 = one_more c.bare_parser.ensures c.in_ok-arg.ensures c.any_files.ensures in
    let has_2 = one_more has_1 c.in_ok-arg-2.ensures c.flag.ensures in
    let has_3 = one_more has_2 c.in_ok-arg-3.ensures c.option.ensures in
    let has_4 = one_more has_3 c.in_ok-arg-4.ensures c.flag-2.ensures in
    let has_5 = one_more has_4 c.in_ok-arg-5.ensures c.flag-3.ensures in
    let has_6 = one_more has_5 c.in_ok-arg-6.ensures c.flag-4.ensures in
    IfOk-weaker c.arg-7.result _ _ (λ m h. one_more has_6 h c.flag-5.ensures) c.arg-7.ensures
