-- What the functions below `table_for` return, without the place where it is kept.
use Rattle.std.specs.Prelude.{ℕ, Bool, false, List, Option, Some, None, Result, Ok, Err}
use Rattle.std.specs.FinMap as finite
use Rattle.tlv_io.specs.Device.{SourceState}
use Rattle.tlv_value.specs.Names.{NamesValue}
use Rattle.tlv_value.specs.declared.names.fault.NamesFault.{NamesFault}
use Rattle.tlv_value.specs.declared.names.fault.NamesFault.TheVariants as names
use Rattle.tlv_program.specs.System.{Allows, IsUnread}
use Rattle.tlv_program.specs.declared.system.OpenFault.{OpenFault}
use Rattle.tlv_view_program.specs.ShowsAll.{OpensFirst}
use Rattle.tlv_view_program.specs.declared.names.Table.{Table}

-- the names, or why there are none
abbrev pub table_result : Result Table NamesFault → Result NamesValue NamesFault
table_result (Ok table) = Ok table.names
table_result (Err fault) = Err fault

-- whether to note that no names file was found
abbrev pub is_noted : Result Table NamesFault → Bool
is_noted (Ok table) = table.is_missing
is_noted (Err fault) = false

-- the file of this name is opened, or does not open
abbrev pub OpensOrNot : {S : Type 0} → Allows S → List ℕ → S → S → Option SourceState → Type 0
OpensOrNot allows name old new (Some file) = allows.opens old new name (Ok file) × IsUnread file
OpensOrNot allows name old new None = (why : OpenFault) × allows.opens old new name (Err why)

-- the names file that the words name is opened, or does not open; if they name none, the first file that opens
abbrev pub OpensNames : {S : Type 0} → Allows S → Option (List ℕ) → List (List ℕ) → S → S → Option SourceState → Type 0
OpensNames allows None places old new opened = OpensFirst allows places old new opened
OpensNames allows (Some name) places old new opened = OpensOrNot allows name old new opened

-- the names if no file opens: none, unless one was named
abbrev pub result_without_file : Option (List ℕ) → Result NamesValue NamesFault
result_without_file None = Ok finite.empty
result_without_file (Some name) = Err names.ReadFailed
