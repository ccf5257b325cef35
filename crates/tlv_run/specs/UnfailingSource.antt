-- A source over octets in memory whose reads never fail, as contracts see it.
use Rattle.tlv_io.specs.Device.{SourceState}
use Rattle.tlv_io.specs.MemSource.{MemSourceState, source_state_of}

-- what contracts see of it: whatever was read from it, no failures
abbrev pub unfailing_source_state : MemSourceState → SourceState
unfailing_source_state source = record (source_state_of source) { failures = 0 }
