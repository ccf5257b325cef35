use Rattle.std.proofs.Common.{◌≡◌, Bool, true, ℕ, List, [], ◌∷◌, Some, None, refl, sym}
use Rattle.std.specs.Prelude.{Ok, slice_get, ⊤}
use Rattle.tlv_io.specs.Device.{DrainState}
use Rattle.tlv_open.specs.declared.strings.BrokenString.{BrokenString}
use Rattle.tlv_view_program.specs.WritesReasons.{ExplainsFirst, ExplainsString, Outcome, first, heading, none}
use Rattle.tlv_view_program.proofs.reasons.explain_first.Goals as goal

first-is : (padding : Bool) (octets : List ℕ) (old new : DrainState) (broken : List BrokenString) (x : BrokenString)
    (outcome : Outcome) → slice_get broken 0 ≡ Some x
    → ExplainsString padding octets x (heading true x) old new outcome
    → ExplainsFirst padding octets old new broken outcome
first-is padding octets old new [] x outcome e s = absurd (cc (e))
first-is padding octets old new (y ∷ ys) x outcome e s =
    let same : y ≡ x = cc (e) in first y ys outcome (rw same s)

none-is : (padding : Bool) (octets : List ℕ) (old : DrainState) (broken : List BrokenString) (unit : ⊤)
    → slice_get broken 0 ≡ None → ExplainsFirst padding octets old old broken (Ok (Ok unit))
none-is padding octets old [] unit e = none unit refl
none-is padding octets old (y ∷ ys) unit e = absurd (cc (e))

pub returns-in-Some : goal.returns-in-Some
returns-in-Some g c =
    first-is _ _ _ _ c.args.broken.now c.in-Some.string.now _ (sym c.in-Some.ensures.value) c.explain_string.ensures

pub returns-in-None : goal.returns-in-None
returns-in-None g c = none-is _ _ _ c.args.broken.now tt (sym c.in-None.ensures.value)
