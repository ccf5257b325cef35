-- What the sentences say about an element: where it is, its tag, and what its header announces.
use Rattle.std.specs.Prelude.{ℕ, ◌+◌, ◌-◌, ◌^◌, min, length}
use Rattle.std.specs.Option.{option_map}
use Rattle.tlv_head.specs.declared.header.HeaderFields.{HeaderFields}
use Rattle.tlv_head.specs.Header.{HeaderValue, definite_length, octets_of}
use Rattle.tlv_head.specs.HeaderFields.{fields_of}
use Rattle.tlv_reasons.specs.declared.element.Element.{Element}

-- a sum of offsets. It stops at the largest number of 64 bits, which no offset of an input comes near
abbrev pub offset_sum : ℕ → ℕ → ℕ
offset_sum n m = min (n + m) (2 ^ 64 - 1)

-- the element whose header has these fields and this number of octets
abbrev pub element_with : HeaderFields → ℕ → Element
element_with f count = record {
  offset = f.offset;
  class = f.class;
  number = f.number;
  size = f.size;
  contents = offset_sum f.offset count;
  end = option_map (offset_sum (offset_sum f.offset count)) (definite_length f.size);
}

-- the element with this header
abbrev pub element_of : HeaderValue → Element
element_of h = element_with (fields_of h) (length (octets_of h))
