-- What a string holds, by its class and number.
use Rattle.std.specs.Prelude.{ℕ, List, Option, Some, None, ◌&&◌, ◌==◌, if◌then◌else◌}
use Rattle.tlv_head.specs.declared.header.Class.{Class}
use Rattle.tlv_head.specs.Header.{is_universal}
use Rattle.tlv_head.specs.UniversalTypes as universal
use Rattle.tlv_open.specs.Held.{after_unused_bits}

-- the octets that may be encodings: `inner_octets`, by class and number
abbrev pub inner_octets_of : Class → ℕ → List ℕ → Option (List ℕ)
inner_octets_of class number contents =
    if is_universal class && number == universal.octet_string then Some contents
    else (if is_universal class && number == universal.bit_string then after_unused_bits contents else None)
