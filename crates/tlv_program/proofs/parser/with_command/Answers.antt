use Rattle.std.proofs.Common.{rules}
use Rattle.std.proofs.lemmas.Result.{IfOk-weaker}
use Rattle.tlv_program.proofs.ParserLemmas.{one_below}
use Rattle.tlv_program.proofs.parser.with_command.Goals as goal

pub returns : goal.returns
returns c = λ app sub made is.
    IfOk-weaker c.subcommand.result _ _ (λ m h. one_below {y = sub} made h (search rules)) c.subcommand.ensures
