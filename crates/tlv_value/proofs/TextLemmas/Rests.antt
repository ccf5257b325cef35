-- What the calls of a `ValueText` put is the rest of the lines of its primitive.
use Rattle.std.proofs.Common.{◌≡◌, ℕ, List, [], ◌++◌, sym, ap, ◌∙◌}
use Rattle.std.specs.Prelude.{Bool, Result}
use Rattle.tlv_head.specs.Header.{HasAllContents, HeaderValue}
use Rattle.tlv_io.specs.declared.out.Out.{Out}
use Rattle.tlv_io.specs.Device.{DrainState}
use Rattle.tlv_io.specs.Out.{Puts}
use Rattle.tlv_io.proofs.Puts.{puts_text}
use Rattle.tlv_value.specs.declared.layout.Layout.{Layout}
use Rattle.tlv_value.specs.Value.{NameOf}
use Rattle.tlv_value.specs.TextBeside.{incomplete_lines_with, whole_lines_with}
use Rattle.tlv_value.specs.ValueTextState.{ValueTextState, begin_lines, contents_lines, end_lines}
use Rattle.tlv_value.specs.ValueTextState.{PutsRest, new_value_text_with, value_text_for}
use Rattle.tlv_value.proofs.TextLemmas.Pieces.{lines-begin, lines-end, lines-go_on}

module _ {D T E : Type 0} (state_of : D → DrainState) (old new : Out D) (result : Result T E) (with_text : Bool)
    (h : HeaderValue) (layout : Layout) (s : ValueTextState) where
  -- with the header
  pub begin-puts : s ≡ new_value_text_with with_text h layout → Puts state_of old new (begin_lines s) result
      → Puts state_of old new (incomplete_lines_with with_text h layout []) result
  begin-puts e p =
      puts_text state_of old new (begin_lines s) (incomplete_lines_with with_text h layout []) result
      (ap begin_lines e ∙ sym (lines-begin with_text h layout).0) p

  -- with more octets
  pub bytes-puts : (c octets : List ℕ) → s ≡ value_text_for with_text h layout c
      → Puts state_of old new (contents_lines s octets) result
      → PutsRest state_of old new (incomplete_lines_with with_text h layout c) (incomplete_lines_with with_text h layout (c ++ octets)) result
  bytes-puts c octets e p = record {
    rest = contents_lines s octets;
    together =
        ap (λ (t : ValueTextState). incomplete_lines_with with_text h layout c ++ contents_lines t octets) e
        ∙ sym (lines-go_on with_text h layout c octets);
    puts = p;
  }

  -- with the end
  pub end-puts : (name_of : NameOf) (c : List ℕ) → s ≡ value_text_for with_text h layout c → HasAllContents h c
      → Puts state_of old new (end_lines name_of s) result
      → PutsRest state_of old new (incomplete_lines_with with_text h layout c) (whole_lines_with with_text name_of h layout c) result
  end-puts name_of c e size p = record {
    rest = end_lines name_of s;
    together =
        ap (λ (t : ValueTextState). incomplete_lines_with with_text h layout c ++ end_lines name_of t) e
        ∙ sym (lines-end with_text name_of h layout c size);
    puts = p;
  }
