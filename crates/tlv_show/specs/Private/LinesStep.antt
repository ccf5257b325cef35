-- What is kept after a primitive that is shown at once.
use Rattle.std.specs.Prelude.{ℕ, List, length, None}
use Rattle.tlv_head.specs.Header.{HeaderValue}
use Rattle.tlv_show.specs.LinesStep.{LinesState, lines_after_header}
use Rattle.tlv_show.specs.SaturatingSum.{saturating_sum}

-- after a primitive with these contents
abbrev pub lines_after_primitive : LinesState → HeaderValue → List ℕ → LinesState
lines_after_primitive s h contents = record (lines_after_header s h) {
  offset = saturating_sum (lines_after_header s h).offset (length contents);
  open_text = None;
}
