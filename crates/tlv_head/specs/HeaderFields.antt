-- A header by its fields and its octets, and what its fields alone say.
use Rattle.std.specs.Prelude.{ℕ, ◌<◌, ◌≤◌, Bool, List, [], length, take, drop}
use Rattle.tlv_head.specs.declared.header.HeaderFields.{HeaderFields}
use Rattle.tlv_head.specs.Header.{HeaderValue, holds, wraps}

-- the header with these fields and octets
abbrev pub new_header : HeaderFields → List ℕ → HeaderValue
new_header f octets = record {
  offset = f.offset;
  named = f.named;
  class = f.class;
  constructed = f.constructed;
  number = f.number;
  size = f.size;
  identifier_octets = take f.id_len octets;
  length_octets = drop f.id_len octets;
}

-- the fields of a header: its meaning, without its octets
abbrev pub fields_of : HeaderValue → HeaderFields
fields_of h = record {
  offset = h.offset;
  named = h.named;
  class = h.class;
  constructed = h.constructed;
  number = h.number;
  size = h.size;
  id_len = length h.identifier_octets;
}

-- an element with these fields is a string that holds encodings, whatever its octets
abbrev pub fields_wrap : HeaderFields → Bool
fields_wrap f = wraps (new_header f [])

-- an element with these fields holds encodings, whatever its octets
abbrev pub fields_hold : HeaderFields → Bool
fields_hold f = holds (new_header f [])

-- the octets fit into a `Header`: there are at most 137, and at most ten of them, and not all, are the identifier.
-- They need not say the fields
pub record IsHeaderSized (f : HeaderFields) (octets : List ℕ) : Type 0 where
  pub identifier : f.id_len < length octets
  pub within : f.id_len ≤ 10
  pub short : length octets ≤ 137
