use Rattle.std.proofs.lemmas.Result.{IfOk-weaker}
use Rattle.tlv_program.proofs.ParserLemmas.{one_more}
use Rattle.tlv_program.proofs.parser.check_parser.Goals as goal

pub returns : goal.returns
returns c =
    let has_1 = one_more c.in_ok-command_parser.ensures c.in_ok-arg.ensures c.option.ensures in
    let has_2 = one_more has_1 c.in_ok-arg-2.ensures c.option-2.ensures in
    IfOk-weaker c.arg-3.result _ _ (λ m h. one_more has_2 h c.flag.ensures) c.arg-3.ensures
