-- The texts of characters: X.690 8.23, X.680 41.
use Rattle.std.specs.Prelude.{◌==◌, ℕ, zero, suc, ◌+◌, ◌*◌, ◌/◌, ◌%◌, ◌&&◌, ◌||◌, Bool, nat_le}
use Rattle.std.specs.Prelude.{if◌then◌else◌, List, [], ◌∷◌, ◌++◌, length, flat_map, take, drop, slice_index, codes}
use Rattle.std.specs.Str.{is_utf8}
use Rattle.hex.specs.Hex.{encode_lower}
use Rattle.tlv_io.specs.Cuts.{utf8_length}
use Rattle.tlv_head.specs.declared.kind.Kind.{Kind}
use Rattle.tlv_head.specs.declared.kind.Kind.TheVariants.{Utf8, Ucs2, Ucs4}

-- a printable character, after a reverse solidus (5c) if it is a quotation mark (22) or a reverse solidus
abbrev pub printable_text : ℕ → List ℕ
printable_text x = if x == 0x22 || x == 0x5c then 0x5c ∷ x ∷ [] else x ∷ []

abbrev pub is_printable : ℕ → Bool
is_printable x = nat_le 0x20 x && nat_le x 0x7e

abbrev pub escaped_octet : ℕ → List ℕ
escaped_octet x = codes "\\x" ++ encode_lower (x ∷ [])

-- the text of a character of one octet, or of an octet that belongs to no character
abbrev pub octet_text : ℕ → List ℕ
octet_text x = if is_printable x then printable_text x else escaped_octet x

-- digits without the zeros (30) in front; one digit is always kept
abbrev pub without_leading_zeros : List ℕ → List ℕ
without_leading_zeros [] = []
without_leading_zeros (d ∷ []) = d ∷ []
without_leading_zeros (d ∷ e ∷ ds) = if d == 0x30 then without_leading_zeros (e ∷ ds) else d ∷ e ∷ ds

-- the number that octets make, in hexadecimal
abbrev pub escaped_number : List ℕ → List ℕ
escaped_number octets = codes "\\u{" ++ without_leading_zeros (encode_lower octets) ++ codes "}"

-- RFC 3629, 3: the number of a character of two to four octets
abbrev pub utf8_number : List ℕ → ℕ
utf8_number (a ∷ b ∷ []) = (a % 32) * 64 + b % 64
utf8_number (a ∷ b ∷ c ∷ []) = (a % 16) * 4096 + (b % 64) * 64 + c % 64
utf8_number (a ∷ b ∷ c ∷ d ∷ []) = (a % 8) * 262144 + (b % 64) * 4096 + (c % 64) * 64 + d % 64
utf8_number _ = 0

-- the octets of a number below 2^24
abbrev pub three_octets : ℕ → List ℕ
three_octets n = (n / 65536) % 256 ∷ (n / 256) % 256 ∷ n % 256 ∷ []

-- how many of the first octets make a unit: a character, or an octet that belongs to no character. UTF-8 (RFC 3629, 4):
-- as many octets are taken as the first one announces, or as are left. If they are UTF-8, they are one character, since
-- a character that begins with this octet has exactly the announced number of octets. Otherwise the first octet belongs
-- to no character
abbrev pub unit_size : Kind → List ℕ → ℕ
unit_size Ucs2 octets = if nat_le 2 (length octets) then 2 else 1
unit_size Ucs4 octets = if nat_le 4 (length octets) then 4 else 1
unit_size Utf8 octets =
    let character = take (utf8_length (slice_index octets 0)) octets in
    if is_utf8 character then length character else 1
unit_size _ octets = 1

-- the units at the front of the octets, at most this many: the first unit, and then the units at the front of what
-- follows it
abbrev pub first_units : ℕ → Kind → List ℕ → List (List ℕ)
first_units zero kind octets = []
first_units (suc more) kind [] = []
first_units (suc more) kind (x ∷ xs) =
    take (unit_size kind (x ∷ xs)) (x ∷ xs) ∷ first_units more kind (drop (unit_size kind (x ∷ xs)) (x ∷ xs))

-- all units, in order. Each has an octet or more, so there are no more units than octets
abbrev pub units : Kind → List ℕ → List (List ℕ)
units kind octets = first_units (length octets) kind octets

-- the text of a unit
abbrev pub unit_text : Kind → List ℕ → List ℕ
unit_text kind [] = []
-- in a BMPString: a character of two octets, or an octet that belongs to none, which is escaped even if it is printable
unit_text Ucs2 (a ∷ b ∷ []) =
    if a == 0 && is_printable b then printable_text b else escaped_number (a ∷ b ∷ [])
unit_text Ucs2 (a ∷ more) = escaped_octet a
-- in a UniversalString: a character of four octets, or an octet that belongs to none, which is escaped too
unit_text Ucs4 (a ∷ b ∷ c ∷ d ∷ []) =
    if a == 0 && b == 0 && c == 0 && is_printable d
    then printable_text d
    else escaped_number (a ∷ b ∷ c ∷ d ∷ [])
unit_text Ucs4 (a ∷ more) = escaped_octet a
-- in a UTF8String: a character of two octets or more
unit_text Utf8 (a ∷ b ∷ more) = escaped_number (three_octets (utf8_number (a ∷ b ∷ more)))
-- in a UTF8String or any other: an octet that is a character by itself, or belongs to none
unit_text kind (a ∷ more) = octet_text a

-- a row of characters, in quotation marks
abbrev pub quoted_text : Kind → List ℕ → List ℕ
quoted_text kind row = 0x22 ∷ flat_map (unit_text kind) (units kind row) ++ 0x22 ∷ []
