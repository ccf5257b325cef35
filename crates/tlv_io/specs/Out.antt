-- What contracts see of an `Out`, and the effect of a call that puts octets to it.
use Rattle.std.specs.Prelude.{◌≡◌, ◌≢◌, ◌++◌, ℕ, List, [], Result, OnErr, OnOk}
use Rattle.std.specs.Io.KnownBytes.{Appends}
use Rattle.std.specs.Borrow.{MutBor}
use Rattle.tlv_io.specs.declared.out.Out.{Out}
use Rattle.tlv_io.specs.Device.{DrainState, failures_after}

module _ {D : Type 0} where
  -- the drain that the `Out` borrows
  abbrev pub drain_of : Out D → MutBor D
  drain_of out = out.drain

  -- the octets held, which the drain has not taken yet
  abbrev pub held_octets : Out D → List ℕ
  held_octets out = out.held

module _ {T E : Type 0} where
  -- one call that hands octets to a drain: all of them or, if it fails, a proper prefix of them
  pub record Sends (old new : DrainState) (octets : List ℕ) (result : Result T E) : Type 0 where
    pub sent : List ℕ
    pub left : List ℕ
    pub prefix : sent ++ left ≡ octets
    pub took : Appends old.octets new.octets sent
    pub all_sent : OnOk result (left ≡ [])
    pub lost : OnErr result (left ≢ [])
    pub failures : new.failures ≡ failures_after result old.failures

  -- a call that puts octets to an `Out`. The drain takes a prefix of the held octets followed by these octets, after
  -- what it had; the `Out` holds the rest. If the call fails, the rest, at least one octet, is lost
  pub record Puts {D : Type 0} (state_of : D → DrainState)
      (old new : Out D) (octets : List ℕ) (result : Result T E)
      : Type 0 where
    pub same_reference : (drain_of new).ghost_name ≡ (drain_of old).ghost_name
    pub sent : List ℕ
    pub left : List ℕ
    pub prefix : sent ++ left ≡ held_octets old ++ octets
    pub took : Appends (state_of (drain_of old).now).octets (state_of (drain_of new).now).octets sent
    pub held : OnOk result (held_octets new ≡ left)
    pub lost : OnErr result (left ≢ [])
    pub failures :
        (state_of (drain_of new).now).failures ≡ failures_after result (state_of (drain_of old).now).failures
