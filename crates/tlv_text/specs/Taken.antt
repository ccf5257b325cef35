-- What an input is taken for, and the blocks that it has.
use Rattle.std.specs.Prelude.{◌≡◌, ℕ, zero, suc, ◌+◌, ◌==◌, Bool, true, false, ◌&&◌, ◌||◌, not, nat_le, nat_lt}
use Rattle.std.specs.Prelude.{List, [], ◌∷◌, ◌++◌, Option, Some, None, filter, if◌then◌else◌, length, map, take, unwrap_or}
use Rattle.std.specs.List.{list_any}
use Rattle.std.specs.Str.{is_utf8}
use Rattle.tlv_value.specs.Units.{is_printable}
use Rattle.tlv_walk.specs.Reading.{IsSoundList}
use Rattle.tlv_open.specs.Opens.{closed_framing}
use Rattle.tlv_text.specs.Blocks.{AreBlocks, BlockValue, are_too_long, block_value, only_block}
use Rattle.tlv_text.specs.Characters.{is_white}
use Rattle.tlv_text.specs.Dump.{dump_limit}
use Rattle.tlv_text.specs.Marks.{after_mark, ascii_of_utf16}
use Rattle.tlv_text.specs.declared.block.BlockState.{BlockState}
use Rattle.tlv_text.specs.declared.block.BlockState.TheVariants.{Whole, BeginsAt, Ended, Absent}
use Rattle.tlv_text.specs.declared.block.Form.{Form}
use Rattle.tlv_text.specs.declared.block.Form.TheVariants.{Pem, Dump, Hex, Numbers, Base64, Runs}
use Rattle.tlv_text.specs.declared.text_fault.TextFault.{TextFault}
use Rattle.tlv_text.specs.declared.text_fault.TextFault.TheVariants.{Memory, TooLong}
use Rattle.tlv_text.specs.declared.taken.Taken.{Taken}
use Rattle.tlv_text.specs.declared.taken.TakenFor.{TakenFor}
use Rattle.tlv_text.specs.declared.taken.TakenFor.TheVariants.{Octets, OtherText, Text}

-- ---- characters

-- the characters of a text: the ASCII characters of a text in UTF-16 with its mark; of any other text, all but a mark
-- of UTF-8
abbrev pub text_of : List ℕ → List ℕ
text_of octets = unwrap_or (ascii_of_utf16 octets) (after_mark octets)

-- a control character that texts do not have; texts do have the control characters from tab to carriage return, 1a
-- (the end of a text under DOS) and 1b (colours)
abbrev pub is_control : ℕ → Bool
is_control x = (nat_lt x 0x20 && not (nat_le 9 x && nat_le x 13) && not (x == 0x1a) && not (x == 0x1b)) || (x == 0x7f)

-- such a character is among the first 4096
abbrev pub has_controls : List ℕ → Bool
has_controls text = list_any is_control (take 4096 text)

-- a character that is rarely typed: neither printable ASCII, nor a tab, a line feed or a carriage return
abbrev pub is_rare : ℕ → Bool
is_rare x = not (is_printable x || (x == 9) || (x == 10) || (x == 13))

-- there is such a character, wherever it stands
abbrev pub has_rare : List ℕ → Bool
has_rare text = list_any is_rare text

-- a visible character
abbrev pub is_seen : ℕ → Bool
is_seen x = not (is_white x)

-- octets that are not encodings are a text if they are UTF-8, and have a visible character and no control character
abbrev pub is_other_text : List ℕ → Bool
is_other_text text = is_utf8 text && list_any is_seen text && not (has_controls text)

-- a character that is not printable is shown as a question mark
abbrev pub shown_character : ℕ → ℕ
shown_character x = if is_printable x then x else 0x3f

-- the first 32 characters as a terminal can show them
abbrev pub first_words : List ℕ → List ℕ
first_words text = map shown_character (take 32 text)

-- ---- blocks

-- what a block was taken for; the layers of base64 that it is written in, innermost first: a line of its text, or all
-- of it; and the block
pub record TakenValue : Type 0 where
  pub taken_for : TakenFor
  pub layers : List (Option ℕ)
  pub block : BlockValue

-- the same as contracts see it
abbrev pub taken_value : Taken → TakenValue
taken_value t = record { taken_for = t.taken_for; layers = t.layers.items; block = block_value t.block }

abbrev pub taken_as : TakenFor → BlockValue → TakenValue
taken_as taken_for b = record { taken_for = taken_for; layers = []; block = b }

-- octets as they stand
abbrev pub taken_octets : List ℕ → TakenValue
taken_octets octets = taken_as Octets (only_block octets Whole)

-- a text of no known form: it has no octets, and its first words as the label
abbrev pub taken_other_text : List ℕ → TakenValue
taken_other_text text =
    taken_as OtherText (record { line = 1; label = first_words text; octets = []; state = Absent })

-- in one more layer of base64
abbrev pub in_layer : Option ℕ → TakenValue → TakenValue
in_layer layer t = record t { layers = t.layers ++ layer ∷ [] }

-- the number of octets in all blocks
abbrev pub taken_count : List TakenValue → ℕ
taken_count [] = 0
taken_count (t ∷ ts) = length t.block.octets + taken_count ts

-- these are more than the blocks of a text may have
abbrev pub are_too_many : List TakenValue → Bool
are_too_many ts = nat_lt dump_limit (taken_count ts)

-- ---- blocks that count

abbrev pub has_some : List ℕ → Bool
has_some [] = false
has_some (x ∷ octets) = true

abbrev pub is_present : BlockState → Bool
is_present Absent = false
is_present state = true

abbrev pub is_whole_block : BlockState → Bool
is_whole_block Whole = true
is_whole_block (BeginsAt offset) = true
is_whole_block state = false

-- all of a text is decoded, and gives octets
abbrev pub is_complete : BlockValue → Bool
is_complete b = is_whole_block b.state && has_some b.octets

-- octets that are sound encodings; padding is allowed
abbrev pub IsSoundInput : List ℕ → Type 0
IsSoundInput octets = IsSoundList (closed_framing true) octets

-- 8.9, 8.11: the identifier octet of a SEQUENCE or a SET comes first
abbrev pub begins_as_sequence : List ℕ → Bool
begins_as_sequence [] = false
begins_as_sequence (x ∷ octets) = (x == 0x30) || (x == 0x31)

-- octets from base64, or from a dump that ends in front of a line, are taken for encodings: they are sound, or begin as
-- a SEQUENCE or a SET. The Bool is the answer
pub data AreTakenAsEncodings (octets : List ℕ) : Bool → Type 0 where
  sound : IsSoundInput octets → AreTakenAsEncodings octets true
  begins : begins_as_sequence octets ≡ true → AreTakenAsEncodings octets true
  neither : (IsSoundInput octets → ⊥) → begins_as_sequence octets ≡ false → AreTakenAsEncodings octets false

-- a dump ends in front of a line that is no row
abbrev pub is_ended : BlockState → Bool
is_ended (Ended line) = true
is_ended state = false

-- a dump counts if all of the text is decoded. One that ends in front of a line counts if its octets are taken for
-- encodings. The Bool is the answer
pub data DumpCounts (b : BlockValue) : Bool → Type 0 where
  not_ended : is_ended b.state ≡ false → DumpCounts b (is_complete b)
  ended : (answer : Bool) → is_ended b.state ≡ true → AreTakenAsEncodings b.octets answer → DumpCounts b answer

-- two octets 00 at the start: no encoding begins so, but the digits of a dump's first offset do
abbrev pub begins_with_zeros : List ℕ → Bool
begins_with_zeros (x ∷ y ∷ octets) = (x == 0) && (y == 0)
begins_with_zeros octets = false

-- these are the blocks of a text in a form, and they are not too long
pub record AreFittingBlocks (text : List ℕ) (form : Form) (bs : List BlockValue) : Type 0 where
  pub are : AreBlocks text form bs
  pub fit : are_too_long text bs ≡ false

module _ (Inner : List ℕ → List TakenValue → Type 0) where
  -- the blocks of the text that a block of base64 decodes to, if all of the block is decoded
  abbrev pub HasInner : Bool → List ℕ → List TakenValue → Type 0
  HasInner true octets inner = Inner octets inner
  HasInner false octets inner = inner ≡ []

  -- what a block of base64 counts as: a line for each case
  pub data Counts (form : Form) (layer : Option ℕ) (b : BlockValue) : List TakenValue → Type 0 where
    nothing : has_some b.octets ≡ false → Counts form layer b []
    -- the octets are in turn a text of a form: the blocks of that text
    text : (t : TakenValue) (ts : List TakenValue) → has_some b.octets ≡ true
        → HasInner (is_whole_block b.state) b.octets (t ∷ ts)
        → Counts form layer b (map (in_layer layer) (t ∷ ts))
    -- the block itself, if it is taken for encodings, and otherwise nothing
    encodings : has_some b.octets ≡ true → HasInner (is_whole_block b.state) b.octets []
        → AreTakenAsEncodings b.octets true → Counts form layer b (taken_as (Text form) b ∷ [])
    other : has_some b.octets ≡ true → HasInner (is_whole_block b.state) b.octets []
        → AreTakenAsEncodings b.octets false → Counts form layer b []

  -- what runs of base64 count as, in order
  pub data RunsCount : List BlockValue → List TakenValue → Type 0 where
    no_more : RunsCount [] []
    next : {b : BlockValue} {bs : List BlockValue} {ts more : List TakenValue}
        → Counts Runs (Some b.line) b ts → RunsCount bs more → RunsCount (b ∷ bs) (ts ++ more)

  -- what the blocks of a text in a form count as: a line for each case
  pub data BlocksCount : Form → List BlockValue → List TakenValue → Type 0 where
    -- all blocks of PEM count
    pem : {bs : List BlockValue}
        → BlocksCount Pem bs (map (taken_as (Text Pem)) (filter (λ b. is_present b.state) bs))
    -- a dump, as said above
    dump : {b : BlockValue} {answer : Bool} → DumpCounts b answer
        → BlocksCount Dump (b ∷ []) (if answer then taken_as (Text Dump) b ∷ [] else [])
    -- hexadecimal and numbers count if all of the text is decoded; a refused dump is not hexadecimal
    hex : {b : BlockValue}
        → BlocksCount Hex (b ∷ [])
        (if is_complete b && not (begins_with_zeros b.octets) then taken_as (Text Hex) b ∷ [] else [])
    numbers : {b : BlockValue}
        → BlocksCount Numbers (b ∷ []) (if is_complete b then taken_as (Text Numbers) b ∷ [] else [])
    -- the same for base64, if its octets are encodings or in turn a text
    base64 : {b : BlockValue} {ts : List TakenValue} → is_complete b ≡ true → Counts Base64 None b ts
        → BlocksCount Base64 (b ∷ []) ts
    no_base64 : {b : BlockValue} → is_complete b ≡ false → BlocksCount Base64 (b ∷ []) []
    -- what runs count as has not too many octets in all
    runs : {bs : List BlockValue} {ts : List TakenValue} → RunsCount bs ts → are_too_many ts ≡ false
        → BlocksCount Runs bs ts

  -- the blocks of a text in the first of these forms in which a block counts; none if there is no such form
  pub data AreFirstBlocks (text : List ℕ) : List Form → List TakenValue → Type 0 where
    no_form : AreFirstBlocks text [] []
    here : {form : Form} {forms : List Form} {bs : List BlockValue} {t : TakenValue} {ts : List TakenValue}
        → AreFittingBlocks text form bs → BlocksCount form bs (t ∷ ts) → AreFirstBlocks text (form ∷ forms) (t ∷ ts)
    later : {form : Form} {forms : List Form} {bs : List BlockValue} {ts : List TakenValue}
        → AreFittingBlocks text form bs → BlocksCount form bs [] → AreFirstBlocks text forms ts
        → AreFirstBlocks text (form ∷ forms) ts

-- all of a block of base64 is decoded, and its octets are a text that is too long
pub record HoldsTooLong (TooLong : List ℕ → Type 0) (b : BlockValue) : Type 0 where
  pub some : has_some b.octets ≡ true
  pub whole : is_whole_block b.state ≡ true
  pub text : TooLong b.octets

-- the blocks of a text in base64 are too long: a line for each case
pub data BlocksTooLong (Inner : List ℕ → List TakenValue → Type 0) (TooLong : List ℕ → Type 0)
    : Form → List BlockValue → Type 0 where
  -- one of them is base64 of a text that is too long
  base64 : {b : BlockValue} → HoldsTooLong TooLong b → BlocksTooLong Inner TooLong Base64 (b ∷ [])
  run : {b : BlockValue} (before after : List BlockValue) → HoldsTooLong TooLong b
      → BlocksTooLong Inner TooLong Runs (before ++ b ∷ after)
  -- what the runs count as, up to one of them, has too many octets in all
  runs : {ts : List TakenValue} (before after : List BlockValue) → RunsCount Inner before ts
      → are_too_many ts ≡ true → BlocksTooLong Inner TooLong Runs (before ++ after)

-- a text is too long in one of these forms, and no block counts in a form before it: a line for each case
pub data IsFirstTooLong (Inner : List ℕ → List TakenValue → Type 0) (TooLong : List ℕ → Type 0) (text : List ℕ)
    : List Form → Type 0 where
  here : {form : Form} {forms : List Form} {bs : List BlockValue} → AreBlocks text form bs
      → are_too_long text bs ≡ true → IsFirstTooLong Inner TooLong text (form ∷ forms)
  inside : {form : Form} {forms : List Form} {bs : List BlockValue} → AreFittingBlocks text form bs
      → BlocksTooLong Inner TooLong form bs → IsFirstTooLong Inner TooLong text (form ∷ forms)
  later : {form : Form} {forms : List Form} {bs : List BlockValue} → AreFittingBlocks text form bs
      → BlocksCount Inner form bs [] → IsFirstTooLong Inner TooLong text forms
      → IsFirstTooLong Inner TooLong text (form ∷ forms)

-- the forms in the order in which they are tried
abbrev pub all_forms : List Form
all_forms = Pem ∷ Dump ∷ Hex ∷ Numbers ∷ Base64 ∷ Runs ∷ []

-- the blocks of octets that are a text, in at most this number of layers of base64: none if they have a control
-- character, or no form
pub data HasBlocks (Inner : List ℕ → List TakenValue → Type 0) (octets : List ℕ) : List TakenValue → Type 0 where
  control : has_controls (text_of octets) ≡ true → HasBlocks Inner octets []
  text : {ts : List TakenValue} → has_controls (text_of octets) ≡ false
      → AreFirstBlocks Inner (text_of octets) all_forms ts → HasBlocks Inner octets ts

abbrev pub TextBlocks : ℕ → List ℕ → List TakenValue → Type 0
TextBlocks zero octets ts = ts ≡ []
TextBlocks (suc layers) octets ts = HasBlocks (TextBlocks layers) octets ts

-- octets that are a text that is too long
pub record HasTooLong (Inner : List ℕ → List TakenValue → Type 0) (TooLong : List ℕ → Type 0) (octets : List ℕ)
    : Type 0 where
  pub no_control : has_controls (text_of octets) ≡ false
  pub first : IsFirstTooLong Inner TooLong (text_of octets) all_forms

-- the same, in at most this number of layers of base64
abbrev pub TextTooLong : ℕ → List ℕ → Type 0
TextTooLong zero octets = ⊥
TextTooLong (suc layers) octets = HasTooLong (TextBlocks layers) (TextTooLong layers) octets

-- ---- inputs

-- sound encodings that are not ASCII in UTF-16, which is sound too, with one element for each character
pub record AreEncodings (octets : List ℕ) : Type 0 where
  pub no_utf16 : ascii_of_utf16 octets ≡ None
  pub sound : IsSoundInput octets

-- sound encodings with a character that is rarely typed: no base64 or hexadecimal that is sound by chance
pub record AreSurelyEncodings (octets : List ℕ) : Type 0 where
  pub rare : has_rare (text_of octets) ≡ true
  pub encodings : AreEncodings octets

-- what an input is taken for: a line for each case. A text may be in three layers of base64
pub data IsTakenFor (octets : List ℕ) : List TakenValue → Type 0 where
  -- also if a text of a form is in them
  surely_sound : AreSurelyEncodings octets → IsTakenFor octets (taken_octets octets ∷ [])
  -- a text of a form, which has no control character
  text : {t : TakenValue} {ts : List TakenValue} → (AreSurelyEncodings octets → ⊥) → TextBlocks 4 octets (t ∷ ts)
      → IsTakenFor octets (t ∷ ts)
  -- nearly every encoding has a control character, and texts have none
  control : has_controls (text_of octets) ≡ true → IsTakenFor octets (taken_octets octets ∷ [])
  sound : TextBlocks 4 octets [] → AreEncodings octets → IsTakenFor octets (taken_octets octets ∷ [])
  other_text : TextBlocks 4 octets [] → (AreEncodings octets → ⊥) → is_other_text (text_of octets) ≡ true
      → IsTakenFor octets (taken_other_text (text_of octets) ∷ [])
  no_text : TextBlocks 4 octets [] → is_other_text (text_of octets) ≡ false
      → IsTakenFor octets (taken_octets octets ∷ [])

-- what an input is taken for if its form is named: all blocks of its text in that form
pub record IsTakenAs (form : Form) (octets : List ℕ) (ts : List TakenValue) : Type 0 where
  pub blocks : List BlockValue
  pub are_blocks : AreBlocks (text_of octets) form blocks
  pub taken : ts ≡ map (taken_as (Text form)) blocks

-- memory may be refused at any time; the other fault says this
abbrev pub IsMemoryOr : Type 0 → TextFault → Type 0
IsMemoryOr Says TooLong = Says
IsMemoryOr Says Memory = Unit {0}

-- an input is taken for a text that is too long
pub record IsTooLongText (octets : List ℕ) : Type 0 where
  pub unsure : AreSurelyEncodings octets → ⊥
  pub text : TextTooLong 4 octets

-- why the blocks of an input cannot be returned
abbrev pub IsTakingFault : List ℕ → TextFault → Type 0
IsTakingFault octets fault = IsMemoryOr (IsTooLongText octets) fault
