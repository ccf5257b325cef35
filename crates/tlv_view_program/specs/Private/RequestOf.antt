-- What the functions below `request_of` return.
use Rattle.std.specs.Prelude.{◌≡◌, ◌≢◌, Result, Ok, Err, ⊤}
use Rattle.clap.specs.Words.{kind_of}
use Rattle.clap.specs.declared.error.Error.{Error}
use Rattle.clap.specs.declared.error.kind.ErrorKind.TheVariants.{OutOfMemory}
use Rattle.tlv_view_program.specs.declared.refusal.Refusal.{Refusal}
use Rattle.tlv_view_program.specs.declared.refusal.RequestFault.{RequestFault}
use Rattle.tlv_view_program.specs.declared.refusal.RequestFault.TheVariants.{Memory, Parser, Refused}

-- the result is what is asked for, or why nothing is asked for, unless memory was refused
abbrev pub ReturnsAsked : {A : Type 0} → Result A Refusal → Result A RequestFault → Type 0
ReturnsAsked asked (Ok value) = asked ≡ Ok value
ReturnsAsked asked (Err (Parser error)) = ⊥
ReturnsAsked asked (Err (Refused refusal)) = asked ≡ Err refusal
ReturnsAsked asked (Err Memory) = ⊤

-- the fault for an error of `clap`: lack of memory, or the error itself
abbrev pub IsParserFault : Error → RequestFault → Type 0
IsParserFault error (Parser same) = (same ≡ error) × (kind_of error ≢ OutOfMemory)
IsParserFault error (Refused refusal) = ⊥
IsParserFault error Memory = kind_of error ≡ OutOfMemory
