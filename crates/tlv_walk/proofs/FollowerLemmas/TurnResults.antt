-- What a turn adds to a walk, for one result.
use Rattle.std.proofs.Common.{◌≡◌, ◌≢◌, ℕ, ◌<◌, ◌≤◌, List, [], ◌++◌, length}
use Rattle.std.specs.Prelude.{Result, Ok, Err}
use Rattle.tlv_walk.specs.declared.run.DeviceFault.{DeviceFault}
use Rattle.tlv_walk.specs.declared.run.DeviceFault.TheVariants.{ReadFailed, WriteFailed, InputTooLong}
use Rattle.tlv_walk.specs.declared.run.Run.{Run}
use Rattle.tlv_walk.specs.declared.run.Turn.{Turn}
use Rattle.tlv_walk.specs.declared.run.Turn.TheVariants.{Again, Ended}
use Rattle.tlv_walk.specs.Ending.{IsFinalEnding}
use Rattle.tlv_walk.specs.Events.{EventValue}
use Rattle.tlv_walk.specs.Follow.{Effect}
use Rattle.tlv_walk.specs.OneTurn.{EndsIn, HasEnoughIn, HasNotMoved, SendsMade, HasWalked, TurnStates, TurnsTo, again}
use Rattle.tlv_walk.specs.OneTurn.{WriteFailsIn, at_enough, at_fault, at_input_end, octets_followed, read_failed}
use Rattle.tlv_walk.specs.OneTurn.{too_long, write_failed}

module _ {S : Type 0} (next : S → EventValue → Effect S) (old new : TurnStates S) (limit : ℕ) (taken : List ℕ)
    (yielded : List EventValue) (given : List ℕ) where
  pub record WalksOn : Type 0 where
    pub some : given ≢ []
    pub within : length (taken ++ given) ≤ limit
    pub walked : HasWalked next old new (taken ++ given) yielded

  pub data WalkEnds (run : Run) : Type 0 where
    ends_at_enough : HasEnoughIn next old new (octets_followed limit taken given) yielded run → WalkEnds run
    ends_at_fault : EndsIn next old new (octets_followed limit taken given) yielded run → IsFinalEnding run.ending
        → WalkEnds run
    ends_at_input_end : EndsIn next old new (octets_followed limit taken given) yielded run → given ≡ [] → WalkEnds run

  pub record ReadsNothing : Type 0 where
    pub same : HasNotMoved next old new
    pub put : SendsMade next old new [] (Ok tt)

  pub record ExceedsLimit : Type 0 where
    pub beyond : limit < length (taken ++ given)
    pub walked : HasWalked next old new (octets_followed limit taken given) yielded

  abbrev pub Turned : Result Turn DeviceFault → Type 0
  Turned (Ok Again) = WalksOn
  Turned (Ok (Ended run)) = WalkEnds run
  Turned (Err ReadFailed) = ReadsNothing
  Turned (Err WriteFailed) = WriteFailsIn next old new (octets_followed limit taken given) yielded
  Turned (Err InputTooLong) = ExceedsLimit

  pub turned-by : (result : Result Turn DeviceFault) → TurnsTo next old new limit taken yielded given result
      → Turned result
  turned-by _ (again some within walked) = record { some = some; within = within; walked = walked }
  turned-by _ (at_enough run x) = ends_at_enough x
  turned-by _ (at_fault run x final) = ends_at_fault x final
  turned-by _ (at_input_end run x none) = ends_at_input_end x none
  turned-by _ (read_failed same put) = record { same = same; put = put }
  turned-by _ (write_failed x) = x
  turned-by _ (too_long beyond walked) = record { beyond = beyond; walked = walked }
