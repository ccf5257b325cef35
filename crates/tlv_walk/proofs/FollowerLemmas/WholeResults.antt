-- What a call does to a whole primitive, in one definition by its result, and its three clauses.
use Rattle.std.proofs.Common.{◌≡◌, Bool, true, false, [], sym}
use Rattle.std.proofs.lemmas.Bool.{true≢false}
use Rattle.std.specs.Prelude.{Result, Ok, Err, IsErr}
use Rattle.tlv_io.specs.Device.{DrainState}
use Rattle.tlv_io.specs.Out.{Puts}
use Rattle.tlv_io.specs.declared.drain.WriteFault.{WriteFault}
use Rattle.tlv_io.specs.declared.out.Out.{Out}
use Rattle.tlv_walk.specs.declared.follow.Go.TheVariants as go
use Rattle.tlv_walk.specs.Follow.{Effect, FollowsWhole, HasEffect, LeavesWhole}

module _ {S D : Type 0} (state_of : D → DrainState) (made : Effect S) (old new : Out D) (before after : S) where
  -- the call has this effect, or leaves the primitive, or a write failed
  abbrev pub HasEffectOrNone : Result Bool WriteFault → Type 0
  HasEffectOrNone (Ok true) = HasEffect state_of made old new {T = Bool} after (Ok true) × (made.goes ≡ go.On)
  HasEffectOrNone (Ok false) = Puts {T = Bool} {E = WriteFault} state_of old new [] (Ok false) × (after ≡ before)
  HasEffectOrNone (Err e) = HasEffect state_of made old new {T = Bool} after (Err e)

  pub if_followed : (r : Result Bool WriteFault) → HasEffectOrNone r → r ≡ Ok true
      → FollowsWhole state_of made old new after
  if_followed (Ok true) x e = record { has = x.0; goes_on = x.1 }
  if_followed (Ok false) x e = absurd (cc (e))
  if_followed (Err f) x e = absurd (cc (e))

  pub if_left : (r : Result Bool WriteFault) → HasEffectOrNone r → r ≡ Ok false
      → LeavesWhole state_of old new before after
  if_left (Ok false) x e = record { puts = x.0; state = x.1 }
  if_left (Ok true) x e = absurd (cc (e))
  if_left (Err f) x e = absurd (cc (e))

  pub if_failed : (r : Result Bool WriteFault) → HasEffectOrNone r → IsErr r → HasEffect state_of made old new after r
  if_failed (Err f) x e = x
  if_failed (Ok r) x e = absurd (true≢false (sym e))
