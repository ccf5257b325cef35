-- What contracts see of a `LineOut`.
use Rattle.std.specs.Prelude.{List, ℕ, Result}
use Rattle.tlv_io.specs.Device.{DrainState}
use Rattle.tlv_io.specs.Out.{Puts}
use Rattle.tlv_io.specs.declared.out.Out.{Out}
use Rattle.tlv_view_program.specs.declared.line_out.LineOut.{LineOut}

-- an `Out` to the same drain, which holds the same octets
abbrev pub as_out : {D : Type 0} → LineOut D → Out D
as_out line = record { drain = line.drain; held = line.held.items }

module _ {D T E : Type 0} where
  -- a call that puts octets to a `LineOut`: what it does is what a put does to an `Out`
  abbrev pub PutsLine : (D → DrainState) → LineOut D → LineOut D → List ℕ → Result T E → Type 0
  PutsLine state_of old new octets result = Puts state_of (as_out old) (as_out new) octets result
