-- What is kept of the contents of a primitive between their pieces, and the lines that are known with each piece.
use Rattle.std.specs.Prelude.{◌≡◌, ◌==◌, ℕ, ◌+◌, ◌-◌, Bool, true, false, nat_lt, if◌then◌else◌, List, [], ◌∷◌, ◌++◌}
use Rattle.std.specs.Prelude.{length, Option, Some, None, Result, codes, decimal}
use Rattle.std.specs.Option.{option_map_or}
use Rattle.tlv_head.specs.declared.header.Class.TheVariants.{Private}
use Rattle.tlv_head.specs.Header.{HeaderValue, announced_length}
use Rattle.tlv_head.specs.Tag.{tag_text}
use Rattle.tlv_io.specs.declared.out.Out.{Out}
use Rattle.tlv_io.specs.Cuts.{last_rows}
use Rattle.tlv_io.specs.Device.{DrainState}
use Rattle.tlv_io.specs.Out.{Puts}
use Rattle.tlv_head.specs.declared.kind.Kind.{Kind}
use Rattle.tlv_head.specs.declared.kind.Kind.TheVariants.{Octets}
use Rattle.tlv_value.specs.declared.layout.Layout.{Layout}
use Rattle.tlv_value.specs.Layout.{columns, inner_line, line}
use Rattle.tlv_value.specs.declared.primitive.Primitive.{Primitive}
use Rattle.tlv_value.specs.RowsSoFar.{full_rows, open_row}
use Rattle.tlv_value.specs.ValueLines.{has_line, header_kind}
use Rattle.tlv_value.specs.TextBeside.{on_line_text_with, row_text_with, shown_row_lines_with}
use Rattle.tlv_value.specs.Value.{NameOf, is_long, long_text, row_octets, short_value}

-- what is kept: for a long value, whether its line was put, the number of rows that were full, and the octets of the
-- row that has begun; for any other value, all octets
pub record KeptContents : Type 0 where
  pub has_put_line : Bool
  pub row_count : ℕ
  pub row : List ℕ

-- what contracts see of a `ValueText`
pub record ValueTextState : Type 0 where
  -- what the header says of the primitive, and how its lines are laid out
  pub primitive : Primitive
  -- the number of octets still to come
  pub left : ℕ
  pub kept : KeptContents

-- the primitive with this header, in this layout, with text beside pairs of digits or without it
abbrev pub new_primitive : Bool → HeaderValue → Layout → Primitive
new_primitive with_text h layout = record {
  offset = h.offset;
  class = h.class;
  number = h.number;
  size = announced_length h.size;
  kind = header_kind h;
  layout = layout;
  with_text = with_text;
}

-- it has too many contents octets to be shown on its line
abbrev pub is_long_primitive : Primitive → Bool
is_long_primitive p = is_long p.kind p.size

-- its line, with this text after its tag
abbrev pub primitive_line : Primitive → List ℕ → List ℕ
primitive_line p text = line p.layout (columns p.offset (decimal p.size)) (tag_text p.class p.number ++ text)

-- the line of a long value of which these octets have come
abbrev pub long_value_line : Primitive → List ℕ → List ℕ
long_value_line p octets = primitive_line p (long_text p.kind p.size octets)

-- the state before any octet of this primitive
abbrev pub new_value_text_of : Primitive → ValueTextState
new_value_text_of p = record {
  primitive = p;
  left = p.size;
  kept = record { has_put_line = has_line p.kind []; row_count = 0; row = [] };
}

-- the state before any octet of the primitive with this header, and the same without text beside pairs
abbrev pub new_value_text_with : Bool → HeaderValue → Layout → ValueTextState
new_value_text_with with_text h layout = new_value_text_of (new_primitive with_text h layout)

abbrev pub new_value_text : HeaderValue → Layout → ValueTextState
new_value_text h layout = new_value_text_with false h layout

-- the state for no primitive yet: as for an empty primitive at the top whose type is not universal
abbrev pub idle_value_text : ValueTextState
idle_value_text = new_value_text_of (record {
  offset = 0;
  class = Private;
  number = 0;
  size = 0;
  kind = Octets;
  layout = record { level = 0; limit = None; pure = false };
  with_text = false;
})

-- what is kept after more octets of a long value whose line was put
abbrev pub kept_contents_after_line : Kind → KeptContents → List ℕ → KeptContents
kept_contents_after_line kind k octets = record {
  has_put_line = true;
  row_count = k.row_count + length (full_rows kind k.row octets);
  row = open_row kind k.row octets;
}

-- what is shown of a row with this number of rows before it: the row itself if these are fewer than the limit, three
-- dots if they are as many, and nothing if they are more
abbrev pub row_by_limit : Option ℕ → ℕ → List ℕ → Option (List ℕ)
row_by_limit None i text = Some text
row_by_limit (Some limit) i text =
    if nat_lt i limit then Some text
    else if i == limit then Some (codes "...")
    else None

abbrev pub row_line : Layout → ℕ → List ℕ → List ℕ
row_line layout i text = option_map_or (inner_line layout) (row_by_limit layout.limit i text) []

-- the lines of rows in order, with this number of rows before them; for 0, `shown_row_lines`
abbrev pub row_lines : Bool → Kind → Layout → ℕ → List (List ℕ) → List ℕ
row_lines with_text kind layout i [] = []
row_lines with_text kind layout i (row ∷ rows) =
    row_line layout i (row_text_with with_text kind row) ++ row_lines with_text kind layout (i + 1) rows

-- the lines of the rows that are full with more octets
abbrev pub full_row_lines : Bool → Kind → Layout → KeptContents → List ℕ → List ℕ
full_row_lines with_text kind layout k octets =
    row_lines with_text kind layout k.row_count (full_rows kind k.row octets)

-- what is kept of a long value whose line came with this first contents octet
abbrev pub kept_contents_with_line : Kind → ℕ → KeptContents
kept_contents_with_line kind x = record { has_put_line = true; row_count = 0; row = row_octets kind (x ∷ []) }

-- what is kept after more octets of a long value whose line was not put: it comes with the first of them
abbrev pub kept_contents_before_line : Kind → KeptContents → List ℕ → KeptContents
kept_contents_before_line kind k [] = k
kept_contents_before_line kind k (x ∷ octets) = kept_contents_after_line kind (kept_contents_with_line kind x) octets

-- that line, and the lines of the rows that are full with these octets
abbrev pub first_row_lines : ValueTextState → List ℕ → List ℕ
first_row_lines s [] = []
first_row_lines s (x ∷ octets) =
    long_value_line s.primitive (x ∷ [])
    ++ full_row_lines s.primitive.with_text s.primitive.kind s.primitive.layout
    (kept_contents_with_line s.primitive.kind x) octets

-- what is kept after more octets of a long value
abbrev pub long_kept_contents_after : ValueTextState → List ℕ → KeptContents
long_kept_contents_after s octets =
    if s.kept.has_put_line
    then kept_contents_after_line s.primitive.kind s.kept octets
    else kept_contents_before_line s.primitive.kind s.kept octets

-- what is kept after more octets
abbrev pub kept_contents_after : ValueTextState → List ℕ → KeptContents
kept_contents_after s octets =
    if is_long_primitive s.primitive
    then long_kept_contents_after s octets
    else record s.kept { row = s.kept.row ++ octets }

-- the state after more octets
abbrev pub value_text_after : ValueTextState → List ℕ → ValueTextState
value_text_after s octets = record s { left = s.left - length octets; kept = kept_contents_after s octets }

-- the state for contents of which these octets have come
abbrev pub value_text_for : Bool → HeaderValue → Layout → List ℕ → ValueTextState
value_text_for with_text h layout octets = value_text_after (new_value_text_with with_text h layout) octets

-- the lines that are known with the header
abbrev pub begin_lines : ValueTextState → List ℕ
begin_lines s =
    if is_long_primitive s.primitive
    then (if s.kept.has_put_line then primitive_line s.primitive [] else [])
    else []

-- the lines that are known with more octets
abbrev pub contents_lines : ValueTextState → List ℕ → List ℕ
contents_lines s octets =
    if is_long_primitive s.primitive
    then (if s.kept.has_put_line
    then full_row_lines s.primitive.with_text s.primitive.kind s.primitive.layout s.kept octets
    else first_row_lines s octets)
    else []

-- the lines of a primitive with these contents, if they are not long
abbrev pub primitive_lines : NameOf → Primitive → List ℕ → List ℕ
primitive_lines name_of p octets =
    primitive_line p (on_line_text_with p.with_text (short_value name_of p.kind octets).on_line)
    ++ shown_row_lines_with p.with_text p.kind p.layout (short_value name_of p.kind octets).rows

-- the lines that are known with the end
abbrev pub end_lines : NameOf → ValueTextState → List ℕ
end_lines name_of s =
    if is_long_primitive s.primitive
    then row_lines s.primitive.with_text s.primitive.kind s.primitive.layout s.kept.row_count (last_rows s.kept.row)
    else primitive_lines name_of s.primitive s.kept.row

-- what is put to an `Out` is the rest of all these octets, if the octets before it were put already
pub record PutsRest {D T E : Type 0} (state_of : D → DrainState)
    (old new : Out D) (before all : List ℕ) (result : Result T E)
    : Type 0 where
  pub rest : List ℕ
  pub together : before ++ rest ≡ all
  pub puts : Puts state_of old new rest result
