-- The meaning of the fields of a `Header`.
use Rattle.std.specs.Prelude.{◌≡◌, take, drop, length, slice_index}
use Rattle.tlv_head.specs.HeaderFields.{IsHeaderSized, new_header}
use Rattle.tlv_head.specs.Header.{HeaderValue, octets_of}
use Rattle.tlv_head.specs.declared.header.Header.TheInside.{Inside}
use Rattle.tlv_head.specs.declared.header.HeaderFields.{HeaderFields}

-- how a header that contracts see is stored
abbrev pub stored_header : HeaderValue → Inside
stored_header h = record {
  offset = h.offset;
  class = h.class;
  constructed = h.constructed;
  number = h.number;
  size = h.size;
  raw = record { items = octets_of h };
  id_len = length h.identifier_octets;
  named = h.named;
  second_identifier_octet = slice_index h.identifier_octets 1;
  second_length_octet = slice_index h.length_octets 1;
}

-- the fields that are stored beside the octets of a header
abbrev pub fields_in : Inside → HeaderFields
fields_in h = record {
  offset = h.offset;
  named = h.named;
  class = h.class;
  constructed = h.constructed;
  number = h.number;
  size = h.size;
  id_len = h.id_len;
}

-- the header that contracts see, given a stored one
abbrev pub header_value_of : Inside → HeaderValue
header_value_of h = new_header (fields_in h) h.raw.items

-- the octets have room, and the two octets kept beside them are the second octets of the identifier and of the length
abbrev pub HeaderFieldsAgree : Inside → Type 0
HeaderFieldsAgree h =
    IsHeaderSized (fields_in h) h.raw.items
    × (h.second_identifier_octet ≡ slice_index (take h.id_len h.raw.items) 1)
    × (h.second_length_octet ≡ slice_index (drop h.id_len h.raw.items) 1)
