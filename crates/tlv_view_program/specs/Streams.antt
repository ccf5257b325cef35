-- What the program works with, as contracts see it.
use Rattle.std.specs.Prelude.{Bool}
use Rattle.tlv_io.specs.Device.{DrainState, SourceState}
use Rattle.tlv_view_program.specs.declared.streams.Streams.{Streams}

-- the system, and what the three streams show of themselves. `reader_gone` says whether the last failed write to
-- standard output failed because nothing reads it any more
pub record StreamsValue (S : Type 0) : Type 0 where
  pub system : S
  pub input : SourceState
  pub output : DrainState
  pub reader_gone : Bool
  pub messages : DrainState

-- the same for streams of these types, by what each shows of itself
abbrev pub streams_value : {S I O M : Type 0} → (I → SourceState) → (O → DrainState) → (O → Bool)
    → (M → DrainState) → Streams S I O M → StreamsValue S
streams_value input_of output_of gone_of messages_of streams = record {
  system = streams.system;
  input = input_of streams.input;
  output = output_of streams.output;
  reader_gone = gone_of streams.output;
  messages = messages_of streams.messages;
}
