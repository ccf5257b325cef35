-- How an input is to be read.
use Rattle.std.specs.Prelude.{false, []}
use Rattle.tlv_walk.specs.declared.framing.Framing.{Framing}

-- no string is read as encodings, and there is no padding
abbrev pub plain_framing : Framing
plain_framing = record { inside = []; padding = false }
