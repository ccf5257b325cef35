-- The meaning of the fields of a `Walker`.
use Rattle.tlv_head.specs.HeadReader.{HeadReaderState}
use Rattle.tlv_walk.specs.WalkerState.{WalkerState, PhaseValue, Between, InHeader, InPrimitive, InBitString}
use Rattle.tlv_walk.specs.WalkerState.{InEndOctets, Refused}
use Rattle.tlv_walk.specs.declared.walker.Phase.{Phase}
use Rattle.tlv_walk.specs.declared.walker.Phase.TheVariants as kept
use Rattle.tlv_walk.specs.declared.walker.Walker.TheInside.{Inside}

-- the reader is the reader of the header that has begun, if any
abbrev pub phase_of : Phase → HeadReaderState → PhaseValue
phase_of kept.Between reader = Between
phase_of kept.InHeader reader = InHeader reader
phase_of (kept.InPrimitive left) reader = InPrimitive left
phase_of kept.InBitString reader = InBitString
phase_of kept.InEndOctets reader = InEndOctets
phase_of (kept.Refused fault) reader = Refused fault

-- the state of a walker with these fields
abbrev pub walker_state_of : Inside → WalkerState
walker_state_of w = record {
  stack = w.stack;
  phase = phase_of w.phase w.reader;
  offset = w.offset;
  events = w.events;
  framing = record { inside = w.inside.now; padding = w.padding };
  has_element = w.has_element;
  wrapper_count = w.wrapper_count;
}
