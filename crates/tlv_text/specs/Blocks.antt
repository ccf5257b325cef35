-- Blocks of a text: octets that are written in it in one form, each with its state.
use Rattle.std.specs.Prelude.{◌≡◌, ℕ, ◌+◌, ◌-◌, ◌==◌, Bool, true, false, ◌||◌, nat_le, nat_lt, if◌then◌else◌}
use Rattle.std.specs.Prelude.{List, [], ◌∷◌, length, take, Option, Some, None}
use Rattle.std.specs.List.{list_any}
use Rattle.tlv_text.specs.Base64.{IsBase64, ReadsBase64}
use Rattle.tlv_text.specs.Dump.{dump_read, text_limit}
use Rattle.tlv_text.specs.DumpEnds.{dump_offset, ends_dump}
use Rattle.tlv_text.specs.Numbers.{may_be_pairs, numbers_read}
use Rattle.tlv_text.specs.Pairs.{pairs_read}
use Rattle.tlv_text.specs.Pem.{HasNoBlock, IsFirstBlock}
use Rattle.tlv_text.specs.PemBody.{base64_part, is_encrypted}
use Rattle.tlv_text.specs.Plain.{are_lone_pairs, is_plain_text}
use Rattle.tlv_text.specs.Runs.{HasNoRun, IsFirstRun}
use Rattle.tlv_text.specs.TextRead.{PartRead, TextRead, refused_at, refused_in, refused_with}
use Rattle.tlv_text.specs.Tokens.{token_count, tokens_read}
use Rattle.tlv_text.specs.declared.base64_text.Alphabet.{Alphabet}
use Rattle.tlv_text.specs.declared.base64_text.Alphabet.TheVariants.{Standard, UrlSafe}
use Rattle.tlv_text.specs.declared.block.Block.{Block}
use Rattle.tlv_text.specs.declared.block.BlockState.{BlockState}
use Rattle.tlv_text.specs.declared.block.BlockState.TheVariants.{Whole, BeginsAt, MayBePairs, Unended, Ended, Encrypted}
use Rattle.tlv_text.specs.declared.block.BlockState.TheVariants.{Refused, Absent}
use Rattle.tlv_text.specs.declared.block.Form.{Form}
use Rattle.tlv_text.specs.declared.block.Form.TheVariants.{Pem, Dump, Hex, Numbers, Base64, Runs}
use Rattle.tlv_text.specs.declared.text_fault.TextFault.{TextFault}
use Rattle.tlv_text.specs.declared.text_fault.TextFault.TheVariants.{Memory, TooLong}

-- ---- lines

-- the number of line feeds in a text
abbrev pub line_feeds : List ℕ → ℕ
line_feeds [] = 0
line_feeds (x ∷ text) = if x == 10 then 1 + line_feeds text else line_feeds text

-- the number of the line, counted from 1, of the character that has `place` characters before it
abbrev pub line_at : List ℕ → ℕ → ℕ
line_at text place = 1 + line_feeds (take place text)

-- ---- blocks

-- a block: the line at which it begins, its label, its octets, and its state
pub record BlockValue : Type 0 where
  pub line : ℕ
  pub label : List ℕ
  pub octets : List ℕ
  pub state : BlockState

-- a block as contracts see it
abbrev pub block_value : Block → BlockValue
block_value b = record { line = b.line; label = b.label.items; octets = b.octets.items; state = b.state }

-- a text that is one block as a whole, without a label
abbrev pub only_block : List ℕ → BlockState → BlockValue
only_block octets state = record { line = 1; label = []; octets = octets; state = state }

-- a text without a block of the form
abbrev pub absent_block : BlockValue
absent_block = only_block [] Absent

abbrev pub or_absent : List BlockValue → List BlockValue
or_absent [] = absent_block ∷ []
or_absent (b ∷ bs) = b ∷ bs

-- the state of octets that are refused at a place in a text, if they are refused: `place` characters come before it
-- in the decoded part, and `before` characters come before that part
abbrev pub state_at_place : List ℕ → ℕ → Option ℕ → BlockState
state_at_place text before None = Whole
state_at_place text before (Some place) = Refused (line_at text (before + place))

-- ---- forms of one block

-- two or more tokens are read alone, wherever they stand; otherwise the text is pairs
abbrev pub hex_read : List ℕ → TextRead
hex_read text = if nat_le 2 (token_count text) then tokens_read text else pairs_read text

abbrev pub hex_block : List ℕ → BlockValue
hex_block text = only_block (hex_read text).octets (state_at_place text 0 (refused_at text (hex_read text).rest))

-- the state of a dump of which nothing is refused, and that begins at this offset
abbrev pub state_at_offset : ℕ → BlockState
state_at_offset offset = if offset == 0 then Whole else BeginsAt offset

-- the state of a dump with these octets, which is refused at a place, or at none. It is not refused, and ends there, if
-- it has an octet and no row follows
abbrev pub state_of_dump : List ℕ → List ℕ → Option ℕ → BlockState
state_of_dump text octets None = state_at_offset (dump_offset text)
state_of_dump text [] (Some place) = Refused (line_at text place)
state_of_dump text (x ∷ octets) (Some place) =
    if ends_dump text place then Ended (line_at text place) else Refused (line_at text place)

abbrev pub dump_block : List ℕ → BlockValue
dump_block text =
    only_block (dump_read text).octets
    (state_of_dump text (dump_read text).octets (refused_in text (dump_read text).left))

-- numbers of which nothing is refused, but which may be pairs of hexadecimal digits
abbrev pub state_of_list : List ℕ → BlockState → BlockState
state_of_list text Whole = if may_be_pairs text then MayBePairs else Whole
state_of_list text state = state

abbrev pub list_block : List ℕ → Option PartRead → BlockValue
list_block text (Some list) =
    only_block list.octets (state_of_list text (state_at_place text 0 (refused_in text list.left)))
list_block text None = absent_block

abbrev pub numbers_block : List ℕ → BlockValue
numbers_block text = list_block text (numbers_read text)

-- `-` or `_`
abbrev pub is_url_symbol : ℕ → Bool
is_url_symbol x = (x == 45) || (x == 95)

-- the alphabet of RFC 4648, section 5, if the text has one of its symbols; otherwise the alphabet of section 4
abbrev pub alphabet_of : List ℕ → Alphabet
alphabet_of text = if list_any is_url_symbol text then UrlSafe else Standard

pub data IsBase64Block (text : List ℕ) : BlockValue → Type 0 where
  base64 : (octets : List ℕ) (refused : Option ℕ) → ReadsBase64 (alphabet_of text) text octets refused
      → IsBase64Block text (only_block octets (state_at_place text 0 refused))

-- ---- forms of several blocks

-- the number of characters of a text before its end part
abbrev pub place_in_text : List ℕ → List ℕ → ℕ
place_in_text text part = length text - length part

-- a body that ends with the text, without a marker, is not ended, if nothing else is wrong with it
abbrev pub state_with_end : List ℕ → BlockState → BlockState
state_with_end [] Whole = Unended
state_with_end rest state = state

-- the block of PEM that begins at a place in a text, with this label and body; `rest` comes after the body
pub data IsPemBlock (text : List ℕ) (place : ℕ) (label body rest : List ℕ) : BlockValue → Type 0 where
  encrypted : is_encrypted body ≡ true
      → IsPemBlock text place label body rest
      (record { line = line_at text place; label = label; octets = []; state = Encrypted })
  decoded : (octets : List ℕ) (refused : Option ℕ) → is_encrypted body ≡ false
      → ReadsBase64 Standard (base64_part body) octets refused
      → IsPemBlock text place label body rest
      (record {
        line = line_at text place;
        label = label;
        octets = octets;
        state = state_with_end rest
            (state_at_place text (length text - (length (base64_part body) + length rest)) refused);
      })

-- the blocks of PEM of a text, in order, from this part of it on
pub data ArePemBlocks (text : List ℕ) : List ℕ → List BlockValue → Type 0 where
  no_more : {part : List ℕ} → HasNoBlock part → ArePemBlocks text part []
  next : {part : List ℕ} (start : ℕ) (label body rest : List ℕ) {b : BlockValue} {bs : List BlockValue}
      → IsFirstBlock part start label body rest → IsPemBlock text (place_in_text text part + start) label body rest b
      → ArePemBlocks text rest bs → ArePemBlocks text part (b ∷ bs)

-- the runs of base64 of a text, in order, from this part of it on
pub data AreRunBlocks (text : List ℕ) : List ℕ → List BlockValue → Type 0 where
  no_more : {part : List ℕ} → HasNoRun part → AreRunBlocks text part []
  next : {part : List ℕ} (start : ℕ) (run rest octets : List ℕ) (refused : Option ℕ) {bs : List BlockValue}
      → IsFirstRun part start run rest → ReadsBase64 Standard run octets refused → AreRunBlocks text rest bs
      → AreRunBlocks text part (record {
        line = line_at text (place_in_text text part + start);
        label = [];
        octets = octets;
        state = state_at_place text (place_in_text text part + start) refused;
      } ∷ bs)

-- ---- all forms

-- the blocks of a text in a form: a line for each form
pub data AreBlocks (text : List ℕ) : Form → List BlockValue → Type 0 where
  pem : {bs : List BlockValue} → ArePemBlocks text text bs → AreBlocks text Pem (or_absent bs)
  dump : AreBlocks text Dump (dump_block text ∷ [])
  hex : AreBlocks text Hex (hex_block text ∷ [])
  numbers : AreBlocks text Numbers (numbers_block text ∷ [])
  base64 : {b : BlockValue} → IsBase64Block text b → AreBlocks text Base64 (b ∷ [])
  runs : {bs : List BlockValue} → AreRunBlocks text text bs → AreBlocks text Runs (or_absent bs)

-- the number of octets in all blocks
abbrev pub octet_count : List BlockValue → ℕ
octet_count [] = 0
octet_count (b ∷ bs) = length b.octets + octet_count bs

-- the blocks have more octets in all than a text may have
abbrev pub are_too_long : List ℕ → List BlockValue → Bool
are_too_long text bs = nat_lt (text_limit text) (octet_count bs)

-- why the blocks of a text cannot be returned: they have too many octets, or memory is refused
pub data IsBlocksFault (text : List ℕ) (form : Form) : TextFault → Type 0 where
  too_long : (bs : List BlockValue) → AreBlocks text form bs → are_too_long text bs ≡ true
      → IsBlocksFault text form TooLong
  no_memory : IsBlocksFault text form Memory

-- a text is hexadecimal and neither PEM nor a dump: it has no block of PEM and no row of a dump, so that as a dump it
-- is refused at its end; and this is its block, which is not too long
pub record IsHexAlone (text : List ℕ) (b : BlockValue) : Type 0 where
  pub no_pem : HasNoBlock text
  pub no_row : dump_read text ≡ refused_with 0
  pub hex : hex_block text ≡ b
  pub fits : are_too_long text (b ∷ []) ≡ false

-- the text is not lone pairs, or not pairs to its end, or its block of hexadecimal is too long
abbrev pub HasNoLoneHex : List ℕ → Type 0
HasNoLoneHex text = are_lone_pairs text ≡ true → (pairs_read text).rest ≡ []
    → are_too_long text (hex_block text ∷ []) ≡ true

-- a text is base64 and has no form before it but perhaps hexadecimal: it has no block of PEM, no row of a dump and no
-- list of numbers; and this is its block, which is whole and not too long
pub record IsBase64Alone (text : List ℕ) (b : BlockValue) : Type 0 where
  pub no_pem : HasNoBlock text
  pub no_row : dump_read text ≡ refused_with 0
  pub no_list : numbers_read text ≡ None
  pub base64 : IsBase64Block text b
  pub whole : b.state ≡ Whole
  pub fits : are_too_long text (b ∷ []) ≡ false

-- the text has a character that is not plain, or is not base64, or its block is too long
abbrev pub HasNoLoneBase64 : List ℕ → Type 0
HasNoLoneBase64 text = is_plain_text Standard text ≡ true → (octets : List ℕ) → IsBase64 Standard text octets
    → are_too_long text (only_block octets Whole ∷ []) ≡ true
