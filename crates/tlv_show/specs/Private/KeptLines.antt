-- What the fields of the `Lines` of a dump say, and what contracts see of it.
use Rattle.std.specs.Prelude.{ℕ, Bool, false, length}
use Rattle.tlv_head.specs.Header.{HeaderValue, octets_of}
use Rattle.tlv_value.specs.declared.layout.Layout.{Layout}
use Rattle.tlv_value.specs.Names.{NamesValue}
use Rattle.tlv_value.specs.ValueTextState.{ValueTextState}
use Rattle.tlv_show.specs.LinesStep.{LinesState}
use Rattle.tlv_show.specs.Private.IfOpen.{if_open}
use Rattle.tlv_show.specs.SaturatingSum.{saturating_sum}

-- what is kept, whether a primitive is open or not
pub record KeptLines : Type 0 where
  pub layout : Layout
  pub with_text : Bool
  pub names : NamesValue
  pub offset : ℕ
  pub in_padding : Bool
  -- the text of the open primitive, or of the last one
  pub text : ValueTextState

-- what contracts see of it, if a primitive is open, or if none is
abbrev pub lines_if : Bool → KeptLines → LinesState
lines_if is_open k = record {
  layout = k.layout;
  with_text = k.with_text;
  names = k.names;
  offset = k.offset;
  in_padding = k.in_padding;
  open_text = if_open is_open k.text;
}

-- what is kept after the header of an element
abbrev pub kept_after_header : KeptLines → HeaderValue → KeptLines
kept_after_header k h = record k { offset = saturating_sum h.offset (length (octets_of h)); in_padding = false }
