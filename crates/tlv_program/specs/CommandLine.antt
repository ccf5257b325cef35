-- The command line, as help shows it: each command with its options. To `clap` a value is a text.
use Rattle.std.specs.Prelude.{List, [], ◌∷◌, Some, codes, false, true}
use Rattle.clap.specs.Words.{App, Rule, Text}
use Rattle.clap.specs.Simple.{new_rule, new_shape}
use Rattle.clap.specs.declared.builder.action.ArgAction.TheVariants.{Help, Set, SetTrue, Version}

-- ---- arguments

-- `[FILE]`
abbrev pub file : Rule
file = record (new_rule (codes "file")) { value_names = 1 }

-- `--name <VALUE>`
abbrev pub option : Text → Rule
option name = record (new_rule name) { long = Some name; action = Some Set; value_names = 1 }

-- `--name <VALUE>`, which must be given
abbrev pub required_option : Text → Rule
required_option name = record (option name) { required = true }

-- `--name`
abbrev pub flag : Text → Rule
flag name = record (new_rule name) { long = Some name; action = Some SetTrue }

-- `--help`, which has no short name
abbrev pub help_flag : Rule
help_flag = record (new_rule (codes "help")) { long = Some (codes "help"); action = Some Help }

-- `--version`, which has no short name
abbrev pub version_flag : Rule
version_flag =
    record (new_rule (codes "version")) { long = Some (codes "version"); action = Some Version }

-- ---- commands

-- a command that takes a file, and has help and these options
abbrev pub command_app : Text → List Rule → App
command_app name options =
    record { top = record (new_shape name) { rules = file ∷ help_flag ∷ options }; subs = [] }

abbrev pub dump_app : App
dump_app = command_app (codes "dump")
    (option (codes "rules")
    ∷ option (codes "limit")
    ∷ flag (codes "pure")
    ∷ option (codes "names")
    ∷ option (codes "inside")
    ∷ flag (codes "padding")
    ∷ [])

abbrev pub check_app : App
check_app = command_app (codes "check")
    (option (codes "rules")
    ∷ option (codes "inside")
    ∷ flag (codes "padding")
    ∷ [])

abbrev pub extract_app : App
extract_app = command_app (codes "extract")
    (required_option (codes "offset")
    ∷ flag (codes "contents")
    ∷ option (codes "inside")
    ∷ flag (codes "padding")
    ∷ [])

abbrev pub indef_app : App
indef_app = command_app (codes "indef")
    (flag (codes "padding")
    ∷ [])

-- the program without its commands: one of them must be given, and none is called `help`
abbrev pub program_app : App
program_app = record {
  top = record (new_shape (codes "tlvdump")) {
    rules = help_flag ∷ version_flag ∷ [];
    subcommand_required = true;
    has_version = true;
    disable_help_flag = true;
    disable_help_subcommand = true;
    disable_version_flag = true;
  };
  subs = [];
}

-- the whole command line
unfoldable pub tlvdump_app : App
tlvdump_app = record {
  top = record program_app.top { is_leaf = false };
  subs = dump_app.top ∷ check_app.top ∷ extract_app.top ∷ indef_app.top ∷ [];
}
