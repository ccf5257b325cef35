-- Laws of the lines of a primitive, and of rows.
use Rattle.std.specs.Prelude.{◌≡◌, ℕ, Bool, List, [], ◌++◌}
use Rattle.tlv_head.specs.Header.{HasAllContents, HeaderValue}
use Rattle.tlv_io.specs.Cuts.{IsCut}
use Rattle.tlv_head.specs.declared.kind.Kind.{Kind}
use Rattle.tlv_value.specs.declared.layout.Layout.{Layout}
use Rattle.tlv_value.specs.RowSizes.{character_length, row_size}
use Rattle.tlv_value.specs.Rows.{rows_of}
use Rattle.tlv_value.specs.TextBeside.{incomplete_lines_with, whole_lines_with}
use Rattle.tlv_value.specs.ValueTextState.{ValueTextState, begin_lines, contents_lines, end_lines}
use Rattle.tlv_value.specs.ValueTextState.{new_value_text_with, value_text_for, value_text_after}
use Rattle.tlv_value.specs.Value.{NameOf}

-- two pieces, one after the other, have the effect of one
abbrev pub PiecesJoin : Type 0
PiecesJoin =
    (s : ValueTextState) (x y : List ℕ)
    → (value_text_after (value_text_after s x) y ≡ value_text_after s (x ++ y))
    × (contents_lines s (x ++ y) ≡ contents_lines s x ++ contents_lines (value_text_after s x) y)

-- with the header, the lines of a primitive before any contents; the state is then the state before any octet
abbrev pub LinesBegin : Type 0
LinesBegin =
    (with_text : Bool) (h : HeaderValue) (layout : Layout)
    → (incomplete_lines_with with_text h layout [] ≡ begin_lines (new_value_text_with with_text h layout))
    × (value_text_for with_text h layout [] ≡ new_value_text_with with_text h layout)

-- with more octets, what is new in the lines of the primitive, which is still incomplete
abbrev pub LinesGoOn : Type 0
LinesGoOn =
    (with_text : Bool) (h : HeaderValue) (layout : Layout) (octets x : List ℕ)
    → incomplete_lines_with with_text h layout (octets ++ x)
    ≡ incomplete_lines_with with_text h layout octets ++ contents_lines (value_text_for with_text h layout octets) x

-- with the end, the rest of the lines of the whole primitive
abbrev pub LinesEnd : Type 0
LinesEnd =
    (with_text : Bool) (name_of : NameOf) (h : HeaderValue) (layout : Layout) (octets : List ℕ)
    → HasAllContents h octets
    → whole_lines_with with_text name_of h layout octets
    ≡ incomplete_lines_with with_text h layout octets ++ end_lines name_of (value_text_for with_text h layout octets)

-- the rows of contents are a cut
abbrev pub RowsAreACut : Type 0
RowsAreACut =
    (kind : Kind) (octets : List ℕ) → IsCut (row_size kind) (character_length kind) octets (rows_of kind octets)

-- a cut of contents is their rows: there is no other cut
abbrev pub RowsHaveOneCut : Type 0
RowsHaveOneCut =
    (kind : Kind) (octets : List ℕ) (rows : List (List ℕ))
    → IsCut (row_size kind) (character_length kind) octets rows → rows ≡ rows_of kind octets
