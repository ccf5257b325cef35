-- What the functions below `command_of` return.
use Rattle.std.specs.Prelude.{◌≡◌, ◌≢◌, Result, Ok, Err, ⊤}
use Rattle.clap.specs.Words.{Text, kind_of}
use Rattle.clap.specs.declared.error.Error.{Error}
use Rattle.clap.specs.declared.error.kind.ErrorKind.TheVariants.{OutOfMemory}
use Rattle.tlv_run.specs.declared.command.Command.{Command}
use Rattle.tlv_program.specs.declared.usage.UsageFault.{UsageFault}
use Rattle.tlv_program.specs.declared.usage.UsageFault.TheVariants.{Parser, Value, Memory}

-- the result is the wanted command or option, unless memory was refused
abbrev pub Returns : Result Command Text → Result Command UsageFault → Type 0
Returns wanted (Ok command) = wanted ≡ Ok command
Returns wanted (Err (Parser error)) = ⊥
Returns wanted (Err (Value option)) = wanted ≡ Err option.now
Returns wanted (Err Memory) = ⊤

-- the fault for an error of `clap`: lack of memory, or the error itself
abbrev pub IsFaultFor : Error → UsageFault → Type 0
IsFaultFor error (Parser same) = (same ≡ error) × (kind_of error ≢ OutOfMemory)
IsFaultFor error (Value option) = ⊥
IsFaultFor error Memory = kind_of error ≡ OutOfMemory
