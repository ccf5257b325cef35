-- What a system may do when the program asks it for something.
use Rattle.std.specs.Prelude.{◌≡◌, ℕ, Bool, List, Result, ⊤}
use Rattle.clap.specs.declared.error.Error.{Error}
use Rattle.tlv_io.specs.Device.{SourceState, new_source}
use Rattle.tlv_program.specs.declared.system.OpenFault.{OpenFault}

-- what a system may do, as relations between its states before and after it
pub record Allows (S : Type 0) : Type 1 where
  -- it opens the file of this name as this source, or says why it does not
  pub opens : S → S → List ℕ → Result SourceState OpenFault → Type 0
  -- it is given back a file that is in this state
  pub closes : S → S → SourceState → Type 0
  -- it prints what `clap` has to say, or does not print all of it
  pub prints : S → S → Error → Bool → Type 0

-- nothing was read from the source
abbrev pub IsUnread : SourceState → Type 0
IsUnread source = source ≡ new_source source.left

-- what the system does is not known before it does it
abbrev pub unknown_system : {S : Type 0} → Allows S
unknown_system = record {
  opens = λ old new name source. ⊤;
  closes = λ old new source. ⊤;
  prints = λ old new error printed. ⊤;
}
