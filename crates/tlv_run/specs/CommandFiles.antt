-- The files of a command.
use Rattle.std.specs.Prelude.{ℕ, List, Option, None}
use Rattle.tlv_run.specs.declared.command.Command.{Command}
use Rattle.tlv_run.specs.declared.command.Command.TheVariants.{Check, Dump, Extract, Indef}

-- the name of the file to read; standard input if there is none
abbrev pub file_of : Command → Option (List ℕ)
file_of (Dump options names file) = file
file_of (Check rules framing file) = file
file_of (Extract offset contents framing file) = file
file_of (Indef padding file) = file

-- the name of the names file
abbrev pub names_file_of : Command → Option (List ℕ)
names_file_of (Dump options names file) = names
names_file_of (Check rules framing file) = None
names_file_of (Extract offset contents framing file) = None
names_file_of (Indef padding file) = None
