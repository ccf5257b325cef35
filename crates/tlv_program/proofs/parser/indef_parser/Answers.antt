use Rattle.std.proofs.lemmas.Result.{IfOk-weaker}
use Rattle.tlv_program.proofs.ParserLemmas.{one_more}
use Rattle.tlv_program.proofs.parser.indef_parser.Goals as goal

pub returns : goal.returns
returns c =
    IfOk-weaker c.arg.result _ _ (λ m h. one_more c.in_ok-command_parser.ensures h c.flag.ensures) c.arg.ensures
