-- The parsers that are made for the command line, and their arguments.
use Rattle.std.specs.Prelude.{◌≡◌, false}
use Rattle.clap.specs.Words.{App, Rule, app_of, rule_of}
use Rattle.clap.specs.declared.builder.arg.Arg.{Arg}
use Rattle.clap.specs.declared.builder.command.Command.{Command}
use Rattle.clap.specs.declared.builder.command.Command.TheViews.{out-Command as fields_of}

-- the parser reads the words as this command line says, and none of its arguments is global
pub record IsParserOf (app : App) (parser : Command) : Type 0 where
  pub same_app : app_of parser ≡ app
  pub local : (fields_of parser).has_globals ≡ false

-- the argument is read as this rule says, and is not global
pub record IsArgumentOf (rule : Rule) (argument : Arg) : Type 0 where
  pub same_rule : rule_of argument ≡ rule
  pub local : argument.global ≡ false
