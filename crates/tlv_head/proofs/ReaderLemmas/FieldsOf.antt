-- A header is made again of its fields and its octets.
use Rattle.std.proofs.Common.{◌≡◌, refl}
use Rattle.std.proofs.Math.Seq.{drop-append_seam, take-append_seam}
use Rattle.tlv_head.specs.declared.header.HeaderFields.{HeaderFields}
use Rattle.tlv_head.specs.HeaderFields.{fields_of, new_header}
use Rattle.tlv_head.specs.Header.{HeaderValue, octets_of}

pub made_again : (f : HeaderFields) (h : HeaderValue) → f ≡ fields_of h → new_header f (octets_of h) ≡ h
made_again f h e = rw (e, take-append_seam h.identifier_octets h.length_octets, drop-append_seam h.identifier_octets h.length_octets) refl
