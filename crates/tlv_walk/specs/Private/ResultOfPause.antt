-- What a turn returns after a followed piece.
use Rattle.std.specs.Prelude.{◌≡◌, ℕ, ◌<◌, Bool, true, false, Result, Ok, Err}
use Rattle.tlv_walk.specs.declared.ending.Ending.{Ending}
use Rattle.tlv_walk.specs.declared.ending.Ending.TheVariants as endings
use Rattle.tlv_walk.specs.declared.run.DeviceFault.{DeviceFault}
use Rattle.tlv_walk.specs.declared.run.DeviceFault.TheVariants.{InputTooLong}
use Rattle.tlv_walk.specs.declared.run.Run.{Run}
use Rattle.tlv_walk.specs.declared.run.Turn.{Turn}
use Rattle.tlv_walk.specs.declared.run.Turn.TheVariants.{Again, Ended}
use Rattle.tlv_walk.specs.declared.one_piece.Pause.{Pause}
use Rattle.tlv_walk.specs.declared.one_piece.Pause.TheVariants as pause
use Rattle.tlv_walk.specs.Ending.{IsEnding}
use Rattle.tlv_walk.specs.WalkerState.{WalkerState}
use Rattle.tlv_walk.specs.Walker.{unused_offset, IfStands}

-- the run of a walker, with this ending
abbrev pub run_of : WalkerState → Ending → Bool → Run
run_of w e enough =
    record { ending = e; octets = w.offset; enough = enough; unused = unused_offset w }

-- the run of a walker that is after the last octet of the input, with the ending of that input
abbrev pub IsRunAtEnd : Run → WalkerState → Type 0
IsRunAtEnd run w =
    (e : Ending) × (run ≡ run_of w e false) × IfStands w (λ octets yielded. IsEnding w.framing octets e)

-- what a turn returns after this pause of a walker, given the number of octets read and the number of octets followed
abbrev pub IsResultOfPause : ℕ → ℕ → WalkerState → Pause → Result Turn DeviceFault → Type 0
IsResultOfPause read followed w pause.Enough (Ok (Ended run)) = run ≡ run_of w endings.Done true
IsResultOfPause read followed w (pause.Fault f) (Ok (Ended run)) = run ≡ run_of w (endings.Fault f) false
IsResultOfPause read followed w pause.UsedUp (Err InputTooLong) = followed < read
IsResultOfPause read followed w pause.UsedUp (Ok (Ended run)) = (followed < read → ⊥) × (read ≡ 0) × IsRunAtEnd run w
IsResultOfPause read followed w pause.UsedUp (Ok Again) = (followed < read → ⊥) × (read ≡ 0 → ⊥)
IsResultOfPause read followed w why result = ⊥
