-- A law of what an input is taken for.
use Rattle.std.specs.Prelude.{◌≡◌, List, ℕ}
use Rattle.tlv_text.specs.Taken.{IsTakenFor, TakenValue}

-- an input is taken for one thing: it has one list of blocks
abbrev pub InputsAreTakenForOneThing : Type 0
InputsAreTakenForOneThing = (octets : List ℕ) (ts us : List TakenValue) → IsTakenFor octets ts → IsTakenFor octets us
    → ts ≡ us
