-- The texts of tags: X.680, table 1.
use Rattle.std.specs.Prelude.{ℕ, List, [], ◌++◌, codes, decimal}
use Rattle.std.specs.Option.{option_map, unwrap_or}
use Rattle.tlv_head.specs.TypeTable.{type_at}
use Rattle.tlv_head.specs.declared.header.Class.{Class}
use Rattle.tlv_head.specs.declared.header.Class.TheVariants.{Universal, Application, Context, Private}

-- the text of a tag without a name: in brackets a prefix that shows the class, and the number
abbrev pub bracketed_tag : List ℕ → ℕ → List ℕ
bracketed_tag prefix number = codes "[" ++ prefix ++ decimal number ++ codes "]"

-- the name of a universal type, or such a text
abbrev pub tag_text : Class → ℕ → List ℕ
tag_text Universal number =
    unwrap_or (option_map (λ t. t.name) (type_at number)) (bracketed_tag (codes "UNIVERSAL ") number)
tag_text Application number = bracketed_tag (codes "APPLICATION ") number
tag_text Context number = bracketed_tag [] number
tag_text Private number = bracketed_tag (codes "PRIVATE ") number
