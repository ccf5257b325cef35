-- A follower that ignores the events of a walk, and a drain that keeps nothing.
use Rattle.std.specs.Prelude.{None}
use Rattle.tlv_io.specs.Device.{DrainState}
use Rattle.tlv_walk.specs.Events.{EventValue}
use Rattle.tlv_walk.specs.Follow.{Effect, no_effect}

-- each event is ignored
abbrev pub silent_step : {S : Type 0} → S → EventValue → Effect S
silent_step s e = no_effect s

-- what the drain shows: it does not know its octets, and no write failed
abbrev pub nowhere_state : {D : Type 0} → D → DrainState
nowhere_state d = record { octets = None; failures = 0 }
