-- What contracts see of a writer as a drain, besides what they see of any drain.
use Rattle.std.specs.Prelude.{ℕ, Bool, true, false, Result, Ok, Err}
use Rattle.std.specs.IoError.{error_kind}
use Rattle.std.specs.declared.io.Error.{Error}
use Rattle.std.specs.declared.io.ErrorKind.{ErrorKind}
use Rattle.std.specs.declared.io.ErrorKind.TheVariants.{BrokenPipe}
use Rattle.tlv_io.specs.declared.stream.WriteDrain.{WriteDrain}

-- what is written has no reader any more
abbrev pub is_broken_pipe : ErrorKind → Bool
is_broken_pipe BrokenPipe = true
is_broken_pipe kind = false

-- a write with this result found that
abbrev pub finds_no_reader : Result ℕ Error → Bool
finds_no_reader (Ok count) = false
finds_no_reader (Err error) = is_broken_pipe (error_kind error)

-- the last failed write found that
abbrev pub has_no_reader : {W : Type 0} → WriteDrain W → Bool
has_no_reader drain = drain.has_no_reader
