-- How the blocks of a text are counted.
use Rattle.std.specs.Prelude.{◌≡◌, ℕ, ◌<◌, ◌≤◌, ◌&&◌, Bool, List, [], ◌∷◌, if◌then◌else◌, length, nat_lt, not}
use Rattle.tlv_text.specs.Taken.{DumpCounts, TakenValue, begins_with_zeros, is_complete, is_present, taken_as}
use Rattle.tlv_text.specs.Taken.{taken_octets}
use Rattle.tlv_text.specs.declared.taken.Taken.{Taken}
use Rattle.tlv_head.specs.Limits.{input_limit}
use Rattle.tlv_text.specs.Blocks.{BlockValue}
use Rattle.tlv_text.specs.Dump.{dump_limit}
use Rattle.tlv_text.specs.declared.block.Form.{Form}
use Rattle.tlv_text.specs.declared.block.Form.TheVariants.{Dump, Hex, Pem, Runs}
use Rattle.tlv_text.specs.declared.taken.TakenFor.TheVariants.{Text}

-- a block is in fewer than `layers` layers of base64, and is no longer than an input may be
pub record IsBounded (layers : ℕ) (t : Taken) : Type 0 where
  pub few : length t.layers.items < layers
  pub within : length t.block.octets.items ≤ input_limit

-- a block has more octets than any text may have
abbrev pub is_too_long : BlockValue → Bool
is_too_long b = nat_lt dump_limit (length b.octets)

-- a text has one block in each form but PEM and runs of base64
abbrev pub IsFittingForm : Form → List BlockValue → Type 0
IsFittingForm Pem bs = Unit {0}
IsFittingForm Runs bs = Unit {0}
IsFittingForm form bs = length bs ≡ 1

-- what the block of a dump counts as
pub data IsDumpCount : List BlockValue → List TakenValue → Type 0 where
  counted : {b : BlockValue} {answer : Bool} → DumpCounts b answer
      → IsDumpCount (b ∷ []) (if answer then taken_as (Text Dump) b ∷ [] else [])

-- a block counts, in a form in which each block counts by itself
abbrev pub is_kept : Form → BlockValue → Bool
is_kept Pem b = is_present b.state
is_kept Hex b = is_complete b && not (begins_with_zeros b.octets)
is_kept form b = is_complete b

-- the blocks, or the octets as they stand if there are no blocks
abbrev pub or_octets : List ℕ → List TakenValue → List TakenValue
or_octets octets [] = taken_octets octets ∷ []
or_octets octets (t ∷ ts) = t ∷ ts
