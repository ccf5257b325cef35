-- The first blocks of those that are shown.
use Rattle.std.specs.Prelude.{◌+◌, ℕ, Bool, true, false, List, [], ◌∷◌, max}
use Rattle.tlv_value.specs.Names.{NamesValue}
use Rattle.tlv_view_program.specs.declared.request.Request.{Request}
use Rattle.tlv_view_program.specs.InputBlocks.{InputBlockValue}
use Rattle.tlv_view_program.specs.ShowsAll.{BlocksPlace, block_place}
use Rattle.tlv_view_program.specs.ShowsBlock.{ShowsBlock}
use Rattle.tlv_view_program.specs.Streams.{StreamsValue}

-- the same as `ShowsBlocks`; the Bool says whether standard output failed, and with it whether others may follow
pub data ShowsSome {S : Type 0} (request : Request) (table : NamesValue) (p : BlocksPlace)
    : ℕ → List InputBlockValue → StreamsValue S → StreamsValue S → Bool → ℕ → Type 0 where
  no_more : {number : ℕ} {states : StreamsValue S} → ShowsSome request table p number [] states states false 0
  goes_on : {number status rest : ℕ} {failed : Bool} {b : InputBlockValue} {bs : List InputBlockValue}
      {old new : StreamsValue S} (between : StreamsValue S)
      → ShowsBlock request table (block_place p number) b old between false status
      → ShowsSome request table p (number + 1) bs between new failed rest
      → ShowsSome request table p number (b ∷ bs) old new failed (max status rest)
  stops : {number status : ℕ} {b : InputBlockValue} {bs : List InputBlockValue} {old new : StreamsValue S}
      → ShowsBlock request table (block_place p number) b old new true status
      → ShowsSome request table p number (b ∷ bs) old new true status
