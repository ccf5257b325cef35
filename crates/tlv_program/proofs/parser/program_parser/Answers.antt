use Rattle.std.proofs.Common.{[], rules}
use Rattle.std.proofs.lemmas.Result.{IfOk-weaker}
use Rattle.clap.specs.Simple.{on_top}
use Rattle.tlv_program.specs.CommandLine.{program_app}
use Rattle.tlv_program.specs.Parsers.{IsParserOf}
use Rattle.tlv_program.proofs.ParserLemmas.{one_more}
use Rattle.tlv_program.proofs.parser.program_parser.Goals as goal

pub returns : goal.returns
returns c =
    let start : IsParserOf (on_top (λ s. record s { rules = [] }) program_app) c.after_help.result =
    record { same_app = search rules; local = search rules } in
    let has_1 = one_more start c.in_ok-arg.ensures c.help_flag.ensures in
    IfOk-weaker c.arg-2.result _ _ (λ m h. one_more has_1 h c.version_flag.ensures) c.arg-2.ensures
