-- Findings in whole inputs, and among the lines of a dump: short inputs. They are written by hand, from the rules. Rows that
-- are the same as one of tests/rows are not here.
-- `tests/make-rows` writes this file from tests/rows_of_definitions/whole_inputs.rows.
use Rattle.std.proofs.Common.{◌≡◌, false, true, [], ◌∷◌, ◌++◌, None, Some, refl}
use Rattle.std.specs.Prelude.{replicate}
use Rattle.std.specs.Fmt.{digits}
use Rattle.hex.specs.Hex.{encode_with}
use Rattle.tlv_head.specs.declared.header.Class.TheVariants.{Universal}
use Rattle.tlv_head.specs.declared.header.Size.TheVariants.{Definite, Indefinite}
use Rattle.tlv_show.specs.declared.rules.Rules.TheVariants.{Ber, Der, Cer}
use Rattle.tlv_walk.specs.Framing.{plain_framing}
use Rattle.tlv_walk.proofs.GrammarLemmas.Readings.{padding_framing}
use Rattle.tlv_rows.proofs.Words.Octets.{framing_of, lines, octets}
use Rattle.std.specs.FinMap as finite
use Rattle.tlv_rows.proofs.Words.Checks.{at_most, check, counted, dump, finds, full}
use Rattle.tlv_walk.specs.Events.{Begin, Bytes, Close, End, Enter, Leave, Open, Pad}
use Rattle.tlv_walk.specs.Follow.{effect_of}
use Rattle.tlv_show.specs.DumpStep.{dump_step, new_dump}
use Rattle.tlv_rows.proofs.Words.Headers.{header}

-- open check
row-1 : check plain_framing Cer (octets "24 80 04 01 61 04 03 61")
    ≡ finds ("5 C04 segment follows one not of 1000 octets" ∷ [])
unfolding digits encode_with
row-1 = refl

-- constructed long length
row-2 : check plain_framing Cer (octets "30 81 00")
    ≡ finds ("0 S01 length is not the shortest" ∷ "0 C01 definite length of a constructed element" ∷ [])
unfolding digits encode_with
row-2 = refl

-- two top strings
row-3 : check plain_framing Cer (octets "04 00 04 00") ≡ finds []
unfolding digits encode_with
row-3 = refl

-- first segment
row-4 : check plain_framing Ber (octets "23 09 03 02 01 00 23 03 03 01 00")
    ≡ finds ("6 B16 segment follows unused bits" ∷ [])
unfolding digits encode_with
row-4 = refl

-- with strings that are named by their offsets
-- wrapped bit segment
row-5 : check (framing_of (2 ∷ []) false) Cer (octets "23 80 03 03 00 05 00 03 02 00 00 00 00")
    ≡ finds ("7 C04 segment follows one not of 1000 octets" ∷ "0 C05 constructed string fits in 1000 octets" ∷ [])
unfolding digits encode_with
row-5 = refl

-- wrapped last empty
row-6 : check (framing_of (2 ∷ []) false) Cer (octets "24 80 04 00 00 00")
    ≡ finds ("0 C05 constructed string fits in 1000 octets" ∷ "0 C06 last segment is empty" ∷ [])
unfolding digits encode_with
row-6 = refl

-- wrapped large
row-7 : check (framing_of (0 ∷ []) false) Cer (octets "04 82 03 e9 04 82 03 e5" ++ replicate 997 0x00)
    ≡ finds ("0 C02 primitive string above 1000 octets" ∷ [])
unfolding digits encode_with
row-7 = refl

-- wrapped full segment
row-8 : check (framing_of (2 ∷ []) false) Cer (octets "24 80 04 82 03 e8 04 82 03 e4" ++
    replicate 996 0x00 ++
    octets "04 01 00 00 00")
    ≡ finds []
unfolding digits encode_with
row-8 = refl

-- wrapped short segment
row-9 : check (framing_of (2 ∷ []) false) Cer (octets "24 80 04 02 05 00 04 01 00 00 00")
    ≡ finds ("6 C04 segment follows one not of 1000 octets" ∷ "0 C05 constructed string fits in 1000 octets" ∷ [])
unfolding digits encode_with
row-9 = refl

-- wrapped elements are no segments
row-10 : check (framing_of (0 ∷ []) false) Ber (octets "03 08 00 03 02 01 00 03 01 00") ≡ finds []
unfolding digits encode_with
row-10 = refl

-- with padding
-- padding check
row-11 : check padding_framing Ber (octets "00 00 0f 00 00 05 00") ≡ finds ("2 B03 unassigned universal number" ∷ [])
unfolding digits encode_with
row-11 = refl

-- so many findings, and these lines
-- deep
row-12 : dump plain_framing full Cer (octets "30 80 3a 80 04 01 61 24 00 04 00 00 00 02 02 00 05 00 00")
    ≡ counted 7 (lines ("       0  indef: SEQUENCE {" ∷ "       2  indef:   VisibleString {" ∷ "       4      1:     OCTET STRING 61" ∷ "       7    C01:     definite length of a constructed element" ∷ "       7    C03:     segment is constructed" ∷ "       7    C04:     segment follows one not of 1000 octets" ∷ "       7      0:     OCTET STRING {" ∷ "                     }" ∷ "       7    C05:     constructed string fits in 1000 octets" ∷ "       9    C04:     segment follows one not of 1000 octets" ∷ "       9      0:     OCTET STRING" ∷ "      11    end:   }" ∷ "       2    C06:   last segment is empty" ∷ "      13      2:   INTEGER 5" ∷ "      13    B08:   integer is padded" ∷ "      17    end: }" ∷ []))
unfolding digits encode_with
row-12 = refl

-- all rules at one header
row-13 : dump plain_framing full Cer (octets "23 80 3f 83 00 81 00 00 00")
    ≡ counted 5 (lines ("       0  indef: BIT STRING {" ∷ "       2    B03:   unassigned universal number" ∷ "       2    B17:   segment has another tag" ∷ "       2    S01:   length is not the shortest" ∷ "       2    C01:   definite length of a constructed element" ∷ "       2    C03:   segment is constructed" ∷ "       2      0:   [UNIVERSAL 384] {" ∷ "                   }" ∷ "       7    end: }" ∷ []))
unfolding digits encode_with
row-13 = refl

-- open string
row-14 : dump plain_framing full Cer (octets "24 80 04 01 61 04 03 61")
    ≡ counted 1 (lines ("       0  indef: OCTET STRING {" ∷ "       2      1:   OCTET STRING 61" ∷ "       5    C04:   segment follows one not of 1000 octets" ∷ []))
unfolding digits encode_with
row-14 = refl

-- open long
row-15 : dump plain_framing full Der (octets "24 30 04 81 20" ++ replicate 17 0x00)
    ≡ counted 2 (lines ("       0    D02: constructed string" ∷ "       0     48: OCTET STRING {" ∷ "       2    S01:   length is not the shortest" ∷ "       2     32:   OCTET STRING" ∷ "                     00 00 00 00 00 00 00 00 00 00 00 00 00 00 00 00" ∷ []))
unfolding digits encode_with
row-15 = refl

-- open end
row-16 : dump plain_framing full Der (octets "30 80 05 00 00")
    ≡ counted 1 (lines ("       0    D01: indefinite length" ∷ "       0  indef: SEQUENCE {" ∷ "       2      0:   NULL" ∷ []))
unfolding digits encode_with
row-16 = refl

-- open header
row-17 : dump plain_framing full Der (octets "30 80 04 81")
    ≡ counted 1 (lines ("       0    D01: indefinite length" ∷ "       0  indef: SEQUENCE {" ∷ []))
unfolding digits encode_with
row-17 = refl

-- deep levels
row-18 : dump plain_framing full Cer (octets "24 80 24 80 03 00 00 00 00 00")
    ≡ counted 5 (lines ("       0  indef: OCTET STRING {" ∷ "       2    C03:   segment is constructed" ∷ "       2  indef:   OCTET STRING {" ∷ "       4    B17:     segment has another tag" ∷ "       4      0:     BIT STRING" ∷ "       4    B13:     no first octet of a bit string" ∷ "       6    end:   }" ∷ "       2    C05:   constructed string fits in 1000 octets" ∷ "       2    C06:   last segment is empty" ∷ "       8    end: }" ∷ []))
unfolding digits encode_with
row-18 = refl

-- at most so many rows of a value
-- limited
row-19 : dump plain_framing (at_most 1) Ber (octets "02 12" ++ replicate 18 0x00)
    ≡ counted 1 (lines ("       0     18: INTEGER" ∷ "                   00 00 00 00 00 00 00 00 00 00 00 00 00 00 00 00" ∷ "                   ..." ∷ "       0    B08: integer is padded" ∷ []))
unfolding digits encode_with
row-19 = refl

-- with strings that are named by their offsets
-- wrapped
row-20 : dump (framing_of (0 ∷ []) false) full Der (octets "04 06 30 80 05 00 00 00")
    ≡ counted 1 (lines ("       0      6: OCTET STRING wraps {" ∷ "       2    D01:   indefinite length" ∷ "       2  indef:   SEQUENCE {" ∷ "       4      0:     NULL" ∷ "       6    end:   }" ∷ "                 }" ∷ []))
unfolding digits encode_with
row-20 = refl

-- wrapped segment
row-21 : dump (framing_of (2 ∷ []) false) full Cer (octets "23 80 04 04 04 02 05 00 03 02 00 00 04 00 00 00")
    ≡ counted 6 (lines ("       0  indef: BIT STRING {" ∷ "       2    B17:   segment has another tag" ∷ "       2      4:   OCTET STRING wraps {" ∷ "       4      2:     OCTET STRING 05 00" ∷ "                   }" ∷ "       8    C04:   segment follows one not of 1000 octets" ∷ "       8      2:   BIT STRING 8 bits 00000000" ∷ "      12    B17:   segment has another tag" ∷ "      12    C04:   segment follows one not of 1000 octets" ∷ "      12      0:   OCTET STRING" ∷ "      14    end: }" ∷ "       0    C05: constructed string fits in 1000 octets" ∷ "       0    C06: last segment is empty" ∷ []))
unfolding digits encode_with
row-21 = refl

-- wrapped in two levels
row-22 : dump (framing_of (2 ∷ []) false) full Cer (octets "30 80 04 04 24 02 04 00 00 00")
    ≡ counted 3 (lines ("       0  indef: SEQUENCE {" ∷ "       2      4:   OCTET STRING wraps {" ∷ "       4    C01:     definite length of a constructed element" ∷ "       4      2:     OCTET STRING {" ∷ "       6      0:       OCTET STRING" ∷ "                     }" ∷ "       4    C05:     constructed string fits in 1000 octets" ∷ "       4    C06:     last segment is empty" ∷ "                   }" ∷ "       8    end: }" ∷ []))
unfolding digits encode_with
row-22 = refl

-- wrapped awaiting long length
row-23 : dump (framing_of (0 ∷ []) false) full Der (octets "03 81 02")
    ≡ counted 1 (lines ("       0    S01: length is not the shortest" ∷ "       0      2: BIT STRING wraps {" ∷ []))
unfolding digits encode_with
row-23 = refl

-- wrapped awaiting
row-24 : dump (framing_of (2 ∷ []) false) full Ber (octets "23 04 03 02")
    ≡ counted 0 (lines ("       0      4: BIT STRING {" ∷ "       2      2:   BIT STRING wraps {" ∷ []))
unfolding digits encode_with
row-24 = refl

-- with padding
-- padding apart
row-25 : dump padding_framing full Ber (octets "00 05 00 00 00 00 05 01 aa 00 00 01 01 01 00")
    ≡ counted 1 (lines ("       0    pad: padding" ∷ "       1      0: NULL" ∷ "       3    pad: padding" ∷ "       6      1: NULL aa" ∷ "       6    B09: NULL has contents" ∷ "       9    pad: padding" ∷ "      11      1: BOOLEAN TRUE" ∷ "      14    pad: padding" ∷ []))
unfolding digits encode_with
row-25 = refl

-- padding after holders
row-26 : dump padding_framing full Ber (octets "30 03 02 01 05 00 30 80 05 00 00 00 00")
    ≡ counted 0 (lines ("       0      3: SEQUENCE {" ∷ "       2      1:   INTEGER 5" ∷ "                 }" ∷ "       5    pad: padding" ∷ "       6  indef: SEQUENCE {" ∷ "       8      0:   NULL" ∷ "      10    end: }" ∷ "      12    pad: padding" ∷ []))
unfolding digits encode_with
row-26 = refl

-- padding
row-27 : dump padding_framing full Ber (octets "00 00 0f 00 00 05 00")
    ≡ counted 1 (lines ("       0    pad: padding" ∷ "       2    B03: unassigned universal number" ∷ "       2      0: [UNIVERSAL 15]" ∷ "       4    pad: padding" ∷ "       5      0: NULL" ∷ []))
unfolding digits encode_with
row-27 = refl

-- What a dump puts for lists of events.
-- 3a 09 04 03 4a 6f 6e 04 02 65 73
row-28 : (effect_of dump_step (new_dump Ber full finite.empty) (Open (header 0 Universal true 26 (Definite 9) "3a" "09") ∷ Begin (header 2 Universal false 4 (Definite 3) "04" "03") ∷ Bytes (octets "4a 6f 6e") ∷ End ∷ Begin (header 7 Universal false 4 (Definite 2) "04" "02") ∷ Bytes (octets "65 73") ∷ End ∷ Close None ∷ [])).put
    ≡ (lines ("       0      9: VisibleString {" ∷ "       2      3:   OCTET STRING 4a 6f 6e" ∷ "       7      2:   OCTET STRING 65 73" ∷ "                 }" ∷ []))
unfolding encode_with digits
row-28 = refl

-- 30 80 05 00 00 00
row-29 : (effect_of dump_step (new_dump Ber full finite.empty) (Open (header 0 Universal true 16 Indefinite "30" "80") ∷ Begin (header 2 Universal false 5 (Definite 0) "05" "00") ∷ End ∷ Close (Some 4) ∷ [])).put
    ≡ (lines ("       0  indef: SEQUENCE {" ∷ "       2      0:   NULL" ∷ "       4    end: }" ∷ []))
unfolding encode_with digits
row-29 = refl

-- 02 11 00 80, fifteen times 00
row-30 : (effect_of dump_step (new_dump Ber full finite.empty) (Begin (header 0 Universal false 2 (Definite 17) "02" "11") ∷ Bytes (octets "00 80 00 00 00 00 00") ∷ Bytes (octets "00 00 00 00 00 00 00 00 00 00") ∷ End ∷ [])).put
    ≡ (lines ("       0     17: INTEGER" ∷ "                   00 80 00 00 00 00 00 00 00 00 00 00 00 00 00 00" ∷ "                   00" ∷ []))
unfolding encode_with digits
row-30 = refl

-- 00 00 04 02 05 00 00, if the string wraps its contents
row-31 : (effect_of dump_step (new_dump Ber full finite.empty) (Pad (octets "00") ∷ Pad (octets "00") ∷ Enter (header 2 Universal false 4 (Definite 2) "04" "02") ∷ Begin (header 4 Universal false 5 (Definite 0) "05" "00") ∷ End ∷ Leave ∷ Pad (octets "00") ∷ [])).put
    ≡ (lines ("       0    pad: padding" ∷ "       2      2: OCTET STRING wraps {" ∷ "       4      0:   NULL" ∷ "                 }" ∷ "       6    pad: padding" ∷ []))
unfolding encode_with digits
row-31 = refl

-- 02 02 80: a held value that lacks its last octet
row-32 : (effect_of dump_step (new_dump Ber full finite.empty) (Begin (header 0 Universal false 2 (Definite 2) "02" "02") ∷ Bytes (octets "80") ∷ [])).put
    ≡ (lines [])
unfolding encode_with digits
row-32 = refl

-- 02 02 80 00
row-33 : (effect_of dump_step (new_dump Ber full finite.empty) (Begin (header 0 Universal false 2 (Definite 2) "02" "02") ∷ Bytes (octets "80") ∷ Bytes (octets "00") ∷ End ∷ [])).put
    ≡ (lines ("       0      2: INTEGER -32768" ∷ []))
unfolding encode_with digits
row-33 = refl

-- 03 02 05 bf
row-34 : (effect_of dump_step (new_dump Ber full finite.empty) (Begin (header 0 Universal false 3 (Definite 2) "03" "02") ∷ Bytes (octets "05 bf") ∷ End ∷ [])).put
    ≡ (lines ("       0      2: BIT STRING 3 bits 101" ∷ []))
unfolding encode_with digits
row-34 = refl
