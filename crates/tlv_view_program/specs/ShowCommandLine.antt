-- The command line of `tlvdump-show`, as help shows it. To `clap` a value is a text, and each option may be given with
-- every other option.
use Rattle.std.specs.Prelude.{List, [], ◌∷◌, ◌++◌, Some, codes, true}
use Rattle.clap.specs.Words.{App, Rule}
use Rattle.clap.specs.Simple.{new_rule, new_shape}
use Rattle.clap.specs.declared.builder.action.ArgAction.TheVariants.{Append}
use Rattle.tlv_program.specs.CommandLine.{flag, help_flag, option, version_flag}

-- `[FILE]...`: any number of files, with or without options between them
abbrev pub any_files : Rule
any_files = record (new_rule (codes "file")) { action = Some Append; value_names = 1 }

-- what is asked for, and for which files
abbrev pub asking_arguments : List Rule
asking_arguments =
    any_files
    ∷ flag (codes "check")
    ∷ option (codes "offset")
    ∷ flag (codes "contents")
    ∷ flag (codes "offsets")
    ∷ flag (codes "raw")
    ∷ flag (codes "why")
    ∷ []

-- the form of a file, how it is shown, help and the version
abbrev pub further_arguments : List Rule
further_arguments =
    option (codes "as")
    ∷ option (codes "rules")
    ∷ option (codes "limit")
    ∷ flag (codes "pure")
    ∷ option (codes "names")
    ∷ flag (codes "closed")
    ∷ flag (codes "no-text")
    ∷ flag (codes "padding")
    ∷ help_flag
    ∷ version_flag
    ∷ []

-- the program with these arguments, which has no commands
abbrev pub show_app_with : List Rule → App
show_app_with arguments = record {
  top = record (new_shape (codes "tlvdump-show")) {
    rules = arguments;
    has_version = true;
    disable_help_flag = true;
    disable_version_flag = true;
  };
  subs = [];
}

-- the whole command line
unfoldable pub show_app : App
show_app = show_app_with (asking_arguments ++ further_arguments)
