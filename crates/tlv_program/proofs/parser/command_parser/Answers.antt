use Rattle.std.proofs.Common.{rules}
use Rattle.std.proofs.lemmas.Result.{IfOk-weaker}
use Rattle.clap.specs.Words.{new_app}
use Rattle.tlv_program.specs.Parsers.{IsParserOf}
use Rattle.tlv_program.proofs.ParserLemmas.{one_more}
use Rattle.tlv_program.proofs.parser.command_parser.Goals as goal

pub returns : goal.returns
returns c =
    let start : IsParserOf (new_app c.args.name.now) c.after_help.result =
    record { same_app = search rules; local = search rules } in
    let has_1 = one_more start c.in_ok-arg.ensures c.file.ensures in
    IfOk-weaker c.arg-2.result _ _ (λ m h. one_more has_1 h c.help_flag.ensures) c.arg-2.ensures
