-- What commands make of inputs that are nested as deep as may be, shown by computing.
use Rattle.std.proofs.Common.{◌≡◌, ℕ, zero, suc, ◌+◌, ◌*◌, ◌-◌, List, [], ◌∷◌, ◌++◌, codes, length, refl}
use Rattle.std.specs.Prelude.{decimal, replicate}
use Rattle.std.specs.Fmt.{digits}
use Rattle.tlv_head.specs.declared.fault.FaultCode.TheVariants.{Short, TooDeep}
use Rattle.std.proofs.Common.{false, None}
use Rattle.tlv_show.specs.declared.rules.Rules.TheVariants.{Ber}
use Rattle.tlv_walk.specs.Framing.{plain_framing}
use Rattle.tlv_rows.proofs.Words.Octets.{framing_of}
use Rattle.tlv_rows.proofs.Words.Runs.{clean_result, dump, fault_result, result}

-- 30 80, so many times
abbrev sequence_headers : ℕ → List ℕ
sequence_headers zero = []
sequence_headers (suc n) = 0x30 ∷ 0x80 ∷ sequence_headers n

-- a number in eight places
abbrev right : ℕ → List ℕ
right n = replicate (8 - length (decimal n)) 32 ++ decimal n

-- the lines of so many more elements, after those of so many
abbrev openings : ℕ → ℕ → List ℕ
openings zero level = []
openings (suc n) level =
    right (2 * level) ++ codes "  indef: " ++ replicate (2 * level) 32 ++ codes "SEQUENCE {"
    ++ 10 ∷ openings n (level + 1)

-- the lines of the ends of so many elements, the first of them at this offset
abbrev closings : ℕ → ℕ → List ℕ
closings zero offset = []
closings (suc level) offset =
    right offset ++ codes "    end: " ++ replicate (2 * level) 32 ++ 125 ∷ 10 ∷ closings level (offset + 2)

-- 128 times 30 80, and 128 times 00 00
deep : result (dump Ber None false plain_framing) (sequence_headers 128 ++ replicate 256 0x00)
    ≡ clean_result (openings 128 0 ++ closings 128 256)
unfolding digits
deep = refl

-- 129 times 30 80: the header of the last is refused
too_deep : result (dump Ber None false plain_framing) (sequence_headers 129)
    ≡ fault_result 0 TooDeep 257 "fault at 257: F10 more than 128 open elements" (openings 128 0)
unfolding digits
too_deep = refl

-- 128 times 30 80, and 04 00: a string that is read counts as they do
string-too_deep : result (dump Ber None false (framing_of (256 ∷ []) false)) (sequence_headers 128 ++ 0x04 ∷ 0x00 ∷ [])
    ≡ fault_result 0 TooDeep 257 "fault at 257: F10 more than 128 open elements" (openings 128 0)
unfolding digits
string-too_deep = refl

-- 128 times 30 80, and 04 00: if it is not named it is a primitive
string-not-named : result (dump Ber None false plain_framing) (sequence_headers 128 ++ 0x04 ∷ 0x00 ∷ [])
    ≡ fault_result 0 Short 258 "fault at 258: F02 input ends inside an encoding"
    (openings 128 0 ++ right 256 ++ codes "      0: " ++ replicate 256 32 ++ codes "OCTET STRING" ++ 10 ∷ [])
unfolding digits
string-not-named = refl
