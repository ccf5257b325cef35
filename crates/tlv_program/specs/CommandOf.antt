-- What `command_of` returns: the command that the words ask for, or why there is none.
use Rattle.std.specs.Prelude.{◌≡◌, ◌≢◌, false, List, [], Option, Some, None, Result, Ok, Err}
use Rattle.std.specs.Prelude.{⊤, codes, if◌then◌else◌, option_map}
use Rattle.std.specs.Str.{bytes_eq}
use Rattle.clap.specs.Faults.{fault_of}
use Rattle.clap.specs.Kinds.{IsAmong}
use Rattle.clap.specs.Words.{App, Row, Text, first_of, kind_of, subcommand_of, takes}
use Rattle.clap.specs.declared.error.Error.{Error}
use Rattle.clap.specs.declared.error.kind.ErrorKind.TheVariants.{OutOfMemory}
use Rattle.tlv_show.specs.declared.rules.Rules.TheVariants.{Ber, Der}
use Rattle.tlv_walk.specs.declared.framing.Framing.{Framing}
use Rattle.tlv_run.specs.declared.command.Command.{Command}
use Rattle.tlv_run.specs.declared.command.Command.TheVariants.{Check, Dump, Extract, Indef}
use Rattle.tlv_program.specs.CommandLine.{tlvdump_app}
use Rattle.tlv_program.specs.Matches.{has_flag}
use Rattle.tlv_program.specs.Values.{inside_value, limit_value, offset_value, rules_value}
use Rattle.tlv_program.specs.declared.usage.UsageFault.{UsageFault}
use Rattle.tlv_program.specs.declared.usage.UsageFault.TheVariants.{Parser, Value, Memory}

-- ---- the command from what `clap` matches: a command's name, and the text of each option given

-- the framing that `--inside` and `--padding` ask for, if the text of `--inside` is a valid value
abbrev pub framing_value : List Row → Option Framing
framing_value matches = option_map
    (λ offsets. record { inside = offsets; padding = has_flag (codes "padding") matches })
    (inside_value (first_of (codes "inside") matches))

-- what follows from an option's value; without a value the option is refused
abbrev pub with_value : {A B E : Type 0} → E → Option A → (A → Result B E) → Result B E
with_value option None next = Err option
with_value option (Some value) next = next value

abbrev pub dump_command : List Row → Result Command Text
dump_command matches =
    with_value (codes "--rules") (rules_value Ber (first_of (codes "rules") matches)) (λ rules.
    with_value (codes "--limit") (limit_value (first_of (codes "limit") matches)) (λ limit.
    with_value (codes "--inside") (framing_value matches) (λ framing.
    Ok (Dump
    (record {
      rules = rules;
      limit = limit;
      pure = has_flag (codes "pure") matches;
      framing = framing;
    })
    (first_of (codes "names") matches)
    (first_of (codes "file") matches)))))

abbrev pub check_command : List Row → Result Command Text
check_command matches =
    with_value (codes "--rules") (rules_value Der (first_of (codes "rules") matches)) (λ rules.
    with_value (codes "--inside") (framing_value matches) (λ framing.
    Ok (Check rules framing (first_of (codes "file") matches))))

abbrev pub extract_command : List Row → Result Command Text
extract_command matches =
    with_value (codes "--offset") (offset_value (first_of (codes "offset") matches)) (λ offset.
    with_value (codes "--inside") (framing_value matches) (λ framing.
    Ok (Extract
    offset
    (has_flag (codes "contents") matches)
    framing
    (first_of (codes "file") matches))))

abbrev pub indef_command : List Row → Result Command Text
indef_command matches =
    Ok (Indef (has_flag (codes "padding") matches) (first_of (codes "file") matches))

-- the command of this name, from what `clap` matches below it, or the first option whose text is not a valid value
abbrev pub matched_command : Text → List Row → Result Command Text
matched_command name matches =
    if bytes_eq name (codes "dump") then dump_command matches
    else (if bytes_eq name (codes "check") then check_command matches
    else (if bytes_eq name (codes "extract") then extract_command matches
    else indef_command matches))

-- ---- the words of a command line

-- `clap` accepts the words, and the result is the command from what it matches, or the first option whose text is not a
-- valid value
pub record AreReadAs (words : List Text) (result : Result Command Text) : Type 0 where
  pub no_fault : fault_of tlvdump_app words ≡ []
  pub same_result :
      option_map (λ (name, matches). matched_command name matches) (subcommand_of tlvdump_app words)
      ≡ Some result

-- `clap` refuses the words for this command line, or they ask for help or for the version: the kind of the error says
-- which. The kind is one that `clap` allows for these words, other than lack of memory
pub record AreRefusedBy (app : App) (words : List Text) (error : Error) : Type 0 where
  pub not_taken : takes app words ≡ false
  pub cause : IsAmong (kind_of error) (fault_of app words)
  pub not_memory : kind_of error ≢ OutOfMemory

-- why there is no command to run: a line for each cause
abbrev pub IsUsageFaultOf : List Text → UsageFault → Type 0
-- `clap` refuses the words, or they ask for help or for the version: the kind of the error says which
IsUsageFaultOf words (Parser error) = AreRefusedBy tlvdump_app words error
-- U2: the text of this option, the first such, is not a valid value
IsUsageFaultOf words (Value option) = AreReadAs words (Err option.now)
-- U3: memory was refused, whatever the words are
IsUsageFaultOf words Memory = ⊤
