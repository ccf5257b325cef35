use Rattle.std.proofs.Common.{rules, refl}
use Rattle.tlv_walk.proofs.WalkerLemmas.ZipperReading.{new_state, stands, state-new}
use Rattle.tlv_walk.proofs.walker.Walker.new.Goals as goal

pub returns-clause-stands : goal.returns-clause-stands
returns-clause-stands c =
    rw (c.new.ensures, c.as_slice-inside.ensures.offsets) (stands _ _ _ new_state (state-new c.args.framing.now) (search rules) refl)

pub returns-clause-ready : goal.returns-clause-ready
returns-clause-ready c = rw c.new.ensures (refl, λ f e. cc)

pub returns-clause-state : goal.returns-clause-state
returns-clause-state c = search rules
