-- Other kinds of file, by the octets with which they begin.
use Rattle.std.specs.Prelude.{ℕ, ◌+◌, ◌-◌, ◌*◌, ◌||◌, ◌&&◌, Bool, nat_eq, nat_le, if◌then◌else◌, List, [], ◌∷◌, take, drop}
use Rattle.std.specs.Prelude.{Option, Some, None, codes}
use Rattle.std.specs.List.{prefix_len, starts_with}
use Rattle.std.specs.Option.{is_some, unwrap_or}
use Rattle.tlv_reasons.specs.declared.kinds.FileKind.{FileKind}
use Rattle.tlv_reasons.specs.declared.kinds.FileKind.TheVariants as kind

-- Unicode 16.0, section 23.8: the octets begin with a byte order mark of UTF-16
abbrev pub begins_utf16 : List ℕ → Bool
begins_utf16 octets =
    starts_with nat_eq octets (0xff ∷ 0xfe ∷ []) || starts_with nat_eq octets (0xfe ∷ 0xff ∷ [])

-- the octets begin as a capture of packets does: pcap, with microseconds or nanoseconds, or pcapng
abbrev pub begins_capture : List ℕ → Bool
begins_capture octets =
    starts_with nat_eq octets (0xd4 ∷ 0xc3 ∷ 0xb2 ∷ 0xa1 ∷ [])
    || (starts_with nat_eq octets (0x4d ∷ 0x3c ∷ 0xb2 ∷ 0xa1 ∷ [])
    || starts_with nat_eq octets (0x0a ∷ 0x0d ∷ 0x0d ∷ 0x0a ∷ []))

-- the value of a hexadecimal digit
abbrev pub digit_of : ℕ → Option ℕ
digit_of x =
    if nat_le 0x30 x && nat_le x 0x39 then Some (x - 0x30)
    else (if nat_le 0x61 x && nat_le x 0x66 then Some ((x - 0x61) + 10)
    else (if nat_le 0x41 x && nat_le x 0x46 then Some ((x - 0x41) + 10) else None))

abbrev pub is_hex_digit : ℕ → Bool
is_hex_digit x = is_some (digit_of x)

-- the number that hexadecimal digits state, behind those of `front`; other octets count as 0
abbrev pub hex_number : ℕ → List ℕ → ℕ
hex_number front [] = front
hex_number front (x ∷ digits) = hex_number (front * 16 + unwrap_or (digit_of x) 0) digits

-- RFC 9112, section 7.1: the octets begin with a chunk: its size, in hexadecimal digits, a line end, so many octets, and
-- a line end. The digits are eight at most
abbrev pub line_end : List ℕ
line_end = 0x0d ∷ 0x0a ∷ []

abbrev pub is_chunk : ℕ → List ℕ → Bool
is_chunk count octets =
    starts_with nat_eq (drop count octets) line_end
    && starts_with nat_eq (drop (hex_number 0 (take count octets) + 2) (drop count octets)) line_end

abbrev pub begins_chunk : List ℕ → Bool
begins_chunk octets =
    (nat_le 1 (prefix_len is_hex_digit octets) && nat_le (prefix_len is_hex_digit octets) 8)
    && is_chunk (prefix_len is_hex_digit octets) octets

-- the other kind of file that begins as these octets do, if there is one
abbrev pub file_kind : List ℕ → Option FileKind
file_kind octets =
    if starts_with nat_eq octets (0x50 ∷ 0x4b ∷ 0x03 ∷ 0x04 ∷ []) then Some kind.Zip
    else (if starts_with nat_eq octets (0x1f ∷ 0x8b ∷ []) then Some kind.Gzip
    else (if starts_with nat_eq octets (codes "BZh") then Some kind.Bzip2
    else (if starts_with nat_eq octets (codes "%PDF") then Some kind.Pdf
    else (if starts_with nat_eq octets (codes "<") then Some kind.Markup
    else (if starts_with nat_eq octets (codes "openssh-key") then Some kind.OpenSsh
    else (if begins_utf16 octets then Some kind.Utf16
    else (if begins_capture octets then Some kind.Capture
    else (if starts_with nat_eq octets (0xfe ∷ 0xed ∷ 0xfe ∷ 0xed ∷ []) then Some kind.KeyStore
    else (if starts_with nat_eq octets (codes "HTTP/") then Some kind.Http
    -- Unicode 16.0, section 23.8: in UTF-8
    else (if starts_with nat_eq octets (0xef ∷ 0xbb ∷ 0xbf ∷ []) then Some kind.ByteOrderMark
    else (if begins_chunk octets then Some kind.Chunks
    else None)))))))))))
