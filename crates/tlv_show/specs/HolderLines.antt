-- The lines of a dump for holders, and for padding, as the contracts of the code have them. The lines
-- of all items are in `Texts`.
use Rattle.std.specs.Prelude.{ℕ, List, ◌++◌, Option, codes, decimal, Bool, if◌then◌else◌}
use Rattle.std.specs.Option.{option_map_or}
use Rattle.tlv_head.specs.declared.header.Size.{Size}
use Rattle.tlv_head.specs.Header.{HeaderValue, definite_length}
use Rattle.tlv_head.specs.Tag.{tag_text}
use Rattle.tlv_value.specs.declared.layout.Layout.{Layout}
use Rattle.tlv_value.specs.Layout.{blank_columns, columns, line}

-- 8.1.3: a length, or the word for the indefinite form
abbrev pub size_text : Size → List ℕ
size_text size = option_map_or decimal (definite_length size) (codes "indef")

-- what is after the tag of a holder: whether it is constructed, or a wrapper
abbrev pub opening_word : Bool → List ℕ
opening_word constructed = if constructed then codes " {" else codes " wraps {"

-- a holder, with a word after its tag
abbrev pub opening_line : Layout → HeaderValue → List ℕ → List ℕ
opening_line layout h word =
    line layout (columns h.offset (size_text h.size)) (tag_text h.class h.number ++ word)

-- the first columns of the line of its end: the offset of its end-of-contents octets, if it has them
abbrev pub closing_columns : Option ℕ → List ℕ
closing_columns offset = option_map_or (λ offset. columns offset (codes "end")) offset blank_columns

-- the line of its end
abbrev pub closing_line : Layout → Option ℕ → List ℕ
closing_line layout offset = line layout (closing_columns offset) (codes "}")

abbrev pub padding_line : Layout → ℕ → List ℕ
padding_line layout offset = line layout (columns offset (codes "pad")) (codes "padding")
