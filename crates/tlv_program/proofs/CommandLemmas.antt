-- What `clap` says of the words of the command line.
use Rattle.std.proofs.Common.{◌≡◌, ◌≢◌, ◌∙◌, true, List, [], Option, Some, None, IfOk, IfErr, IfSome, Result, Ok, Err}
use Rattle.std.proofs.Common.{refl, sym, inl, inr, ap, is_some, option_map}
use Rattle.std.proofs.lemmas.Bool.{false_from_ne_true, false≢true}
use Rattle.clap.specs.Faults.{fault_of, is_simple_and_free}
use Rattle.clap.specs.Kinds.{HasKind}
use Rattle.clap.specs.Words.{App, Row, Text, is_simple, kind_of, subcommand_of, takes}
use Rattle.clap.specs.declared.error.Error.{Error}
use Rattle.clap.specs.declared.error.kind.ErrorKind.TheVariants.{OutOfMemory}
use Rattle.clap.proofs.OnLiterals.{clap_on_literals}
use Rattle.tlv_run.specs.declared.command.Command.{Command}
use Rattle.tlv_program.specs.declared.usage.UsageFault.{UsageFault}
use Rattle.tlv_program.specs.declared.usage.UsageFault.TheVariants.{Parser, Value, Memory}
use Rattle.tlv_program.specs.CommandLine.{tlvdump_app}
use Rattle.tlv_program.specs.CommandOf.{AreReadAs, AreRefusedBy, IsUsageFaultOf, matched_command}
use Rattle.tlv_program.specs.Private.CommandOf.{Returns, IsFaultFor}

pub tlvdump_app-simple : is_simple tlvdump_app ≡ true
unfolding clap_on_literals tlvdump_app
tlvdump_app-simple = refl

pub simple_and_free : is_simple_and_free tlvdump_app ≡ true
unfolding clap_on_literals tlvdump_app
simple_and_free = refl

pub requires_subcommand : tlvdump_app.top.subcommand_required ≡ true
unfolding tlvdump_app
requires_subcommand = refl

-- ---- words that `clap` takes

-- the words are read as the command of the subcommand that is found in them
pub read_as : (words : List Text) (found : Text × List Row) (wanted : Result Command Text)
    → fault_of tlvdump_app words ≡ [] → subcommand_of tlvdump_app words ≡ Some found
    → matched_command found.0 found.1 ≡ wanted → AreReadAs words wanted
read_as words found wanted sound is gives =
    record {
      no_fault = sound;
      same_result = ap (option_map (λ (name, matches). matched_command name matches)) is ∙ ap Some gives;
    }

-- the result for the subcommand that is found is that for the words
pub result_of_found : (words : List Text) (found : Option (Text × List Row)) (r : Result Command UsageFault)
    → fault_of tlvdump_app words ≡ [] → found ≡ subcommand_of tlvdump_app words → is_some found ≡ true
    → IfSome found (λ (name, matches). Returns (matched_command name matches) r)
    → IfOk r (λ command. AreReadAs words (Ok command)) × IfErr r (IsUsageFaultOf words)
result_of_found words None r sound same has gives = absurd (false≢true has)
result_of_found words (Some found) (Ok command) sound same has gives =
    (read_as words found (Ok command) sound (sym same) gives, tt)
result_of_found words (Some found) (Err (Parser error)) sound same has gives = absurd gives
result_of_found words (Some found) (Err (Value option)) sound same has gives =
    (tt, read_as words found (Err option.now) sound (sym same) gives)
result_of_found words (Some found) (Err Memory) sound same has gives = (tt, tt)

-- ---- words that `clap` refuses

-- the error is not lack of memory
pub refused_by : (app : App) (words : List Text) (error : Error) → HasKind (fault_of app words) error
    → (takes app words ≡ true → kind_of error ≡ OutOfMemory) → kind_of error ≢ OutOfMemory
    → AreRefusedBy app words error
refused_by app words error (inl memory) passes not_memory = absurd (not_memory memory)
refused_by app words error (inr among) passes not_memory =
    record {
      not_taken = false_from_ne_true _ (λ taken. not_memory (passes taken));
      cause = among;
      not_memory = not_memory;
    }

-- the fault for the error of `clap` is that of the words
pub usage_fault_of : (words : List Text) (error : Error) (fault : UsageFault)
    → HasKind (fault_of tlvdump_app words) error → (takes tlvdump_app words ≡ true → kind_of error ≡ OutOfMemory)
    → IsFaultFor error fault → IsUsageFaultOf words fault
usage_fault_of words error (Parser same) has passes is = rw is.0 (refused_by tlvdump_app words error has passes is.1)
usage_fault_of words error (Value option) has passes is = absurd is
usage_fault_of words error Memory has passes is = tt
