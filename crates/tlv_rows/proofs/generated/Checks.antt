-- Findings of short inputs. They are written by hand, from the rules. Rows that are the same as one of tests/rows are not
-- here.
-- `tests/make-rows` writes this file from tests/rows_of_definitions/checks.rows.
use Rattle.std.proofs.Common.{◌≡◌, [], ◌∷◌, ◌++◌, refl}
use Rattle.std.specs.Prelude.{replicate}
use Rattle.std.specs.Fmt.{digits}
use Rattle.std.specs.Str.{chars, is_utf8}
use lib.Utf8.{encode}
use Rattle.tlv_show.specs.declared.rules.Rules.TheVariants.{Ber, Der, Cer}
use Rattle.tlv_walk.specs.Framing.{plain_framing}
use Rattle.tlv_rows.proofs.Words.Octets.{octets}
use Rattle.tlv_rows.proofs.Words.Checks.{check, finds, check_all}

-- findings of all encodings
row-1 : check plain_framing Ber (octets "1f 1e 00") ≡ finds ("0 B01 high form for a number below 31" ∷ [])
unfolding digits is_utf8 chars encode
row-1 = refl

row-2 : check plain_framing Ber (octets "1f 1f 01 05") ≡ finds []
unfolding digits is_utf8 chars encode
row-2 = refl

row-3 : check plain_framing Ber (octets "9f 81 1f 00") ≡ finds []
unfolding digits is_utf8 chars encode
row-3 = refl

row-4 : check plain_framing Ber (octets "9f 81 00 00") ≡ finds []
unfolding digits is_utf8 chars encode
row-4 = refl

row-5 : check plain_framing Ber (octets "9f c0 00 00") ≡ finds []
unfolding digits is_utf8 chars encode
row-5 = refl

row-6 : check plain_framing Ber (octets "20 00") ≡ finds ("0 B03 unassigned universal number" ∷ [])
unfolding digits is_utf8 chars encode
row-6 = refl

row-7 : check plain_framing Ber (octets "1f 25 00") ≡ finds ("0 B03 unassigned universal number" ∷ [])
unfolding digits is_utf8 chars encode
row-7 = refl

row-8 : check plain_framing Ber (octets "1f ce 10 00") ≡ finds ("0 B03 unassigned universal number" ∷ [])
unfolding digits is_utf8 chars encode
row-8 = refl

row-9 : check plain_framing Ber (octets "0e 00") ≡ finds []
unfolding digits is_utf8 chars encode
row-9 = refl

row-10 : check plain_framing Ber (octets "1f 24 00") ≡ finds []
unfolding digits is_utf8 chars encode
row-10 = refl

row-11 : check plain_framing Ber (octets "8f 00") ≡ finds []
unfolding digits is_utf8 chars encode
row-11 = refl

row-12 : check plain_framing Ber (octets "22 00") ≡ finds ("0 B04 type must be primitive" ∷ [])
unfolding digits is_utf8 chars encode
row-12 = refl

row-13 : check plain_framing Ber (octets "25 00") ≡ finds ("0 B04 type must be primitive" ∷ [])
unfolding digits is_utf8 chars encode
row-13 = refl

row-14 : check plain_framing Ber (octets "26 00") ≡ finds ("0 B04 type must be primitive" ∷ [])
unfolding digits is_utf8 chars encode
row-14 = refl

row-15 : check plain_framing Ber (octets "29 00") ≡ finds ("0 B04 type must be primitive" ∷ [])
unfolding digits is_utf8 chars encode
row-15 = refl

row-16 : check plain_framing Ber (octets "2a 00") ≡ finds ("0 B04 type must be primitive" ∷ [])
unfolding digits is_utf8 chars encode
row-16 = refl

row-17 : check plain_framing Ber (octets "2d 00") ≡ finds ("0 B04 type must be primitive" ∷ [])
unfolding digits is_utf8 chars encode
row-17 = refl

row-18 : check plain_framing Ber (octets "01 01 00") ≡ finds []
unfolding digits is_utf8 chars encode
row-18 = refl

row-19 : check plain_framing Ber (octets "2e 00") ≡ finds []
unfolding digits is_utf8 chars encode
row-19 = refl

row-20 : check plain_framing Ber (octets "a1 00") ≡ finds []
unfolding digits is_utf8 chars encode
row-20 = refl

row-21 : check plain_framing Ber (octets "08 00") ≡ finds ("0 B05 type must be constructed" ∷ [])
unfolding digits is_utf8 chars encode
row-21 = refl

row-22 : check plain_framing Ber (octets "0b 00") ≡ finds ("0 B05 type must be constructed" ∷ [])
unfolding digits is_utf8 chars encode
row-22 = refl

row-23 : check plain_framing Ber (octets "11 00") ≡ finds ("0 B05 type must be constructed" ∷ [])
unfolding digits is_utf8 chars encode
row-23 = refl

row-24 : check plain_framing Ber (octets "1d 00") ≡ finds ("0 B05 type must be constructed" ∷ [])
unfolding digits is_utf8 chars encode
row-24 = refl

row-25 : check plain_framing Ber (octets "30 00") ≡ finds []
unfolding digits is_utf8 chars encode
row-25 = refl

row-26 : check plain_framing Ber (octets "90 00") ≡ finds []
unfolding digits is_utf8 chars encode
row-26 = refl

row-27 : check plain_framing Ber (octets "23 08 03 02 00 00 03 02 01 fe") ≡ finds []
unfolding digits is_utf8 chars encode
row-27 = refl

row-28 : check plain_framing Ber (octets "23 06 03 00 03 02 00 ff")
    ≡ finds ("2 B13 no first octet of a bit string" ∷ [])
unfolding digits is_utf8 chars encode
row-28 = refl

row-29 : check plain_framing Ber (octets "30 08 03 02 01 00 03 02 00 ff") ≡ finds []
unfolding digits is_utf8 chars encode
row-29 = refl

row-30 : check plain_framing Ber (octets "23 08 83 02 01 00 03 02 00 ff")
    ≡ finds ("2 B17 segment has another tag" ∷ [])
unfolding digits is_utf8 chars encode
row-30 = refl

row-31 : check plain_framing Ber (octets "24 08 03 02 01 00 03 02 00 ff")
    ≡ finds ("2 B17 segment has another tag" ∷ "6 B17 segment has another tag" ∷ [])
unfolding digits is_utf8 chars encode
row-31 = refl

row-32 : check plain_framing Ber (octets "23 0a 23 04 03 02 01 00 03 02 00 ff") ≡ finds []
unfolding digits is_utf8 chars encode
row-32 = refl

row-33 : check plain_framing Ber (octets "23 03 04 01 00") ≡ finds ("2 B17 segment has another tag" ∷ [])
unfolding digits is_utf8 chars encode
row-33 = refl

row-34 : check plain_framing Ber (octets "24 03 03 01 00") ≡ finds ("2 B17 segment has another tag" ∷ [])
unfolding digits is_utf8 chars encode
row-34 = refl

row-35 : check plain_framing Ber (octets "3a 03 1a 01 61") ≡ finds ("2 B17 segment has another tag" ∷ [])
unfolding digits is_utf8 chars encode
row-35 = refl

row-36 : check plain_framing Ber (octets "24 03 84 01 61") ≡ finds ("2 B17 segment has another tag" ∷ [])
unfolding digits is_utf8 chars encode
row-36 = refl

row-37 : check plain_framing Ber (octets "24 03 04 01 61") ≡ finds []
unfolding digits is_utf8 chars encode
row-37 = refl

row-38 : check plain_framing Ber (octets "23 03 03 01 00") ≡ finds []
unfolding digits is_utf8 chars encode
row-38 = refl

row-39 : check plain_framing Ber (octets "3a 03 04 01 61") ≡ finds []
unfolding digits is_utf8 chars encode
row-39 = refl

row-40 : check plain_framing Ber (octets "30 03 0c 01 61") ≡ finds []
unfolding digits is_utf8 chars encode
row-40 = refl

row-41 : check plain_framing Ber (octets "01 00") ≡ finds ("0 B06 BOOLEAN is not one octet" ∷ [])
unfolding digits is_utf8 chars encode
row-41 = refl

row-42 : check plain_framing Ber (octets "01 01 ff") ≡ finds []
unfolding digits is_utf8 chars encode
row-42 = refl

row-43 : check plain_framing Ber (octets "81 00") ≡ finds []
unfolding digits is_utf8 chars encode
row-43 = refl

row-44 : check plain_framing Ber (octets "0a 00") ≡ finds ("0 B07 no contents of an integer" ∷ [])
unfolding digits is_utf8 chars encode
row-44 = refl

row-45 : check plain_framing Ber (octets "02 01 00") ≡ finds []
unfolding digits is_utf8 chars encode
row-45 = refl

row-46 : check plain_framing Ber (octets "82 00") ≡ finds []
unfolding digits is_utf8 chars encode
row-46 = refl

row-47 : check plain_framing Ber (octets "02 02 ff 80") ≡ finds ("0 B08 integer is padded" ∷ [])
unfolding digits is_utf8 chars encode
row-47 = refl

row-48 : check plain_framing Ber (octets "0a 02 00 00") ≡ finds ("0 B08 integer is padded" ∷ [])
unfolding digits is_utf8 chars encode
row-48 = refl

row-49 : check plain_framing Ber (octets "02 02 00 80") ≡ finds []
unfolding digits is_utf8 chars encode
row-49 = refl

row-50 : check plain_framing Ber (octets "02 02 ff 7f") ≡ finds []
unfolding digits is_utf8 chars encode
row-50 = refl

row-51 : check plain_framing Ber (octets "02 01 80") ≡ finds []
unfolding digits is_utf8 chars encode
row-51 = refl

row-52 : check plain_framing Ber (octets "05 00") ≡ finds []
unfolding digits is_utf8 chars encode
row-52 = refl

row-53 : check plain_framing Ber (octets "0d 00") ≡ finds []
unfolding digits is_utf8 chars encode
row-53 = refl

row-54 : check plain_framing Ber (octets "06 03 2a 80 01") ≡ finds ("0 B11 subidentifier is padded" ∷ [])
unfolding digits is_utf8 chars encode
row-54 = refl

row-55 : check plain_framing Ber (octets "0d 02 80 01") ≡ finds ("0 B11 subidentifier is padded" ∷ [])
unfolding digits is_utf8 chars encode
row-55 = refl

row-56 : check plain_framing Ber (octets "06 02 81 00") ≡ finds []
unfolding digits is_utf8 chars encode
row-56 = refl

row-57 : check plain_framing Ber (octets "06 04 2a 81 80 01") ≡ finds []
unfolding digits is_utf8 chars encode
row-57 = refl

row-58 : check plain_framing Ber (octets "0d 01 86") ≡ finds ("0 B12 last subidentifier is unfinished" ∷ [])
unfolding digits is_utf8 chars encode
row-58 = refl

row-59 : check plain_framing Ber (octets "06 03 2a 81 80") ≡ finds ("0 B12 last subidentifier is unfinished" ∷ [])
unfolding digits is_utf8 chars encode
row-59 = refl

row-60 : check plain_framing Ber (octets "06 02 2a 06") ≡ finds []
unfolding digits is_utf8 chars encode
row-60 = refl

row-61 : check plain_framing Ber (octets "06 01 7f") ≡ finds []
unfolding digits is_utf8 chars encode
row-61 = refl

row-62 : check plain_framing Ber (octets "03 01 ff") ≡ finds ("0 B14 more than 7 unused bits" ∷ [])
unfolding digits is_utf8 chars encode
row-62 = refl

row-63 : check plain_framing Ber (octets "03 02 07 00") ≡ finds []
unfolding digits is_utf8 chars encode
row-63 = refl

row-64 : check plain_framing Ber (octets "03 01 01") ≡ finds ("0 B15 unused bits of no octet" ∷ [])
unfolding digits is_utf8 chars encode
row-64 = refl

row-65 : check plain_framing Ber (octets "03 01 07") ≡ finds ("0 B15 unused bits of no octet" ∷ [])
unfolding digits is_utf8 chars encode
row-65 = refl

row-66 : check plain_framing Ber (octets "03 02 03 00") ≡ finds []
unfolding digits is_utf8 chars encode
row-66 = refl

row-67 : check plain_framing Ber (octets "03 01 08") ≡ finds ("0 B14 more than 7 unused bits" ∷ [])
unfolding digits is_utf8 chars encode
row-67 = refl

row-68 : check plain_framing Ber (octets "0c 01 ff") ≡ finds ("0 B18 characters not of the type" ∷ [])
unfolding digits is_utf8 chars encode
row-68 = refl

row-69 : check plain_framing Ber (octets "0c 02 c3 28") ≡ finds ("0 B18 characters not of the type" ∷ [])
unfolding digits is_utf8 chars encode
row-69 = refl

row-70 : check plain_framing Ber (octets "13 01 2a") ≡ finds ("0 B18 characters not of the type" ∷ [])
unfolding digits is_utf8 chars encode
row-70 = refl

row-71 : check plain_framing Ber (octets "16 01 80") ≡ finds ("0 B18 characters not of the type" ∷ [])
unfolding digits is_utf8 chars encode
row-71 = refl

row-72 : check plain_framing Ber (octets "1a 01 7f") ≡ finds ("0 B18 characters not of the type" ∷ [])
unfolding digits is_utf8 chars encode
row-72 = refl

row-73 : check plain_framing Ber (octets "1e 03 00 41 20") ≡ finds ("0 B18 characters not of the type" ∷ [])
unfolding digits is_utf8 chars encode
row-73 = refl

row-74 : check plain_framing Ber (octets "1c 05 00 00 00 41 00") ≡ finds ("0 B18 characters not of the type" ∷ [])
unfolding digits is_utf8 chars encode
row-74 = refl

row-75 : check plain_framing Ber (octets "0c 03 ed a0 80") ≡ finds ("0 B18 characters not of the type" ∷ [])
unfolding digits is_utf8 chars encode
row-75 = refl

row-76 : check plain_framing Ber (octets "12 03 31 20 32") ≡ finds []
unfolding digits is_utf8 chars encode
row-76 = refl

row-77 : check plain_framing Ber (octets "0c 02 c3 a9") ≡ finds []
unfolding digits is_utf8 chars encode
row-77 = refl

row-78 : check plain_framing Ber (octets "13 0f 61 5a 30 20 27 28 29 2b 2c 2d 2e 2f 3a 3d 3f") ≡ finds []
unfolding digits is_utf8 chars encode
row-78 = refl

row-79 : check plain_framing Ber (octets "16 01 7f") ≡ finds []
unfolding digits is_utf8 chars encode
row-79 = refl

row-80 : check plain_framing Ber (octets "1a 01 7e") ≡ finds []
unfolding digits is_utf8 chars encode
row-80 = refl

row-81 : check plain_framing Ber (octets "1e 02 00 41") ≡ finds []
unfolding digits is_utf8 chars encode
row-81 = refl

row-82 : check plain_framing Ber (octets "1c 04 00 00 00 41") ≡ finds []
unfolding digits is_utf8 chars encode
row-82 = refl

row-83 : check plain_framing Ber (octets "14 01 ff") ≡ finds []
unfolding digits is_utf8 chars encode
row-83 = refl

row-84 : check plain_framing Ber (octets "8c 01 ff") ≡ finds []
unfolding digits is_utf8 chars encode
row-84 = refl

row-85 : check plain_framing Ber (octets "18 0d 31 39 39 32 30 37 32 31 31 33 32 31 30")
    ≡ finds ("0 B19 time not of its grammar" ∷ [])
unfolding digits is_utf8 chars encode
row-85 = refl

row-86 : check plain_framing Ber (octets "17 00") ≡ finds ("0 B19 time not of its grammar" ∷ [])
unfolding digits is_utf8 chars encode
row-86 = refl

row-87 : check plain_framing Ber (octets "18 0f 31 39 39 32 30 37 32 31 31 33 32 31 30 30 2e")
    ≡ finds ("0 B19 time not of its grammar" ∷ [])
unfolding digits is_utf8 chars encode
row-87 = refl

row-88 : check plain_framing Ber (octets "17 0b 39 31 31 32 30 36 32 33 34 35 5a") ≡ finds []
unfolding digits is_utf8 chars encode
row-88 = refl

row-89 : check plain_framing Ber (octets "18 0a 31 39 39 32 30 37 32 31 31 33") ≡ finds []
unfolding digits is_utf8 chars encode
row-89 = refl

row-90 : check plain_framing Ber (octets "18 41" ++ replicate 65 0x78) ≡ finds []
unfolding digits is_utf8 chars encode
row-90 = refl

row-91 : check plain_framing Ber (octets "97 00") ≡ finds []
unfolding digits is_utf8 chars encode
row-91 = refl

-- findings of DER and of CER
row-92 : check plain_framing Der (octets "30 81 00") ≡ finds ("0 S01 length is not the shortest" ∷ [])
unfolding digits is_utf8 chars encode
row-92 = refl

row-93 : check plain_framing Der (octets "04 81 7f" ++ replicate 127 0x00)
    ≡ finds ("0 S01 length is not the shortest" ∷ [])
unfolding digits is_utf8 chars encode
row-93 = refl

row-94 : check plain_framing Der (octets "04 82 00 03 aa bb cc") ≡ finds ("0 S01 length is not the shortest" ∷ [])
unfolding digits is_utf8 chars encode
row-94 = refl

row-95 : check plain_framing Der (octets "04 03 aa bb cc") ≡ finds []
unfolding digits is_utf8 chars encode
row-95 = refl

row-96 : check plain_framing Der (octets "04 81 80" ++ replicate 128 0x00) ≡ finds []
unfolding digits is_utf8 chars encode
row-96 = refl

row-97 : check plain_framing Der (octets "01 01 ff") ≡ finds []
unfolding digits is_utf8 chars encode
row-97 = refl

row-98 : check plain_framing Der (octets "01 01 00") ≡ finds []
unfolding digits is_utf8 chars encode
row-98 = refl

row-99 : check plain_framing Der (octets "01 02 01 01") ≡ finds ("0 B06 BOOLEAN is not one octet" ∷ [])
unfolding digits is_utf8 chars encode
row-99 = refl

row-100 : check plain_framing Der (octets "03 02 01 01") ≡ finds ("0 S03 unused bits are set" ∷ [])
unfolding digits is_utf8 chars encode
row-100 = refl

row-101 : check plain_framing Der (octets "03 02 07 01") ≡ finds ("0 S03 unused bits are set" ∷ [])
unfolding digits is_utf8 chars encode
row-101 = refl

row-102 : check plain_framing Der (octets "03 02 05 a0") ≡ finds []
unfolding digits is_utf8 chars encode
row-102 = refl

row-103 : check plain_framing Der (octets "03 02 00 ff") ≡ finds []
unfolding digits is_utf8 chars encode
row-103 = refl

row-104 : check plain_framing Der (octets "03 02 08 ff") ≡ finds ("0 B14 more than 7 unused bits" ∷ [])
unfolding digits is_utf8 chars encode
row-104 = refl

row-105 : check plain_framing Der (octets "03 01 07") ≡ finds ("0 B15 unused bits of no octet" ∷ [])
unfolding digits is_utf8 chars encode
row-105 = refl

row-106 : check plain_framing Der (octets "17 0d 39 31 30 35 30 36 32 33 34 35 30 30 5a") ≡ finds []
unfolding digits is_utf8 chars encode
row-106 = refl

row-107 : check plain_framing Der (octets "18 11 31 39 39 32 30 37 32 32 31 33 32 31 30 30 2e 35 5a") ≡ finds []
unfolding digits is_utf8 chars encode
row-107 = refl

row-108 : check plain_framing Der (octets "18 41 31 39 39 32 30 37 32 31 31 33 32 31 30 30 2e" ++
    replicate 50 0x31)
    ≡ finds []
unfolding digits is_utf8 chars encode
row-108 = refl

row-109 : check plain_framing Der (octets "04 0a 31 39 39 32 30 37 32 31 31 33") ≡ finds []
unfolding digits is_utf8 chars encode
row-109 = refl

row-110 : check plain_framing Der (octets "30 00") ≡ finds []
unfolding digits is_utf8 chars encode
row-110 = refl

row-111 : check plain_framing Der (octets "27 00") ≡ finds ("0 D02 constructed string" ∷ [])
unfolding digits is_utf8 chars encode
row-111 = refl

row-112 : check plain_framing Der (octets "2c 00") ≡ finds ("0 D02 constructed string" ∷ [])
unfolding digits is_utf8 chars encode
row-112 = refl

row-113 : check plain_framing Der (octets "32 00") ≡ finds ("0 D02 constructed string" ∷ [])
unfolding digits is_utf8 chars encode
row-113 = refl

row-114 : check plain_framing Der (octets "37 00") ≡ finds ("0 D02 constructed string" ∷ [])
unfolding digits is_utf8 chars encode
row-114 = refl

row-115 : check plain_framing Der (octets "3c 00") ≡ finds ("0 D02 constructed string" ∷ [])
unfolding digits is_utf8 chars encode
row-115 = refl

row-116 : check plain_framing Der (octets "3e 00") ≡ finds ("0 D02 constructed string" ∷ [])
unfolding digits is_utf8 chars encode
row-116 = refl

row-117 : check plain_framing Der (octets "23 03 03 01 00") ≡ finds ("0 D02 constructed string" ∷ [])
unfolding digits is_utf8 chars encode
row-117 = refl

row-118 : check plain_framing Der (octets "04 00") ≡ finds []
unfolding digits is_utf8 chars encode
row-118 = refl

row-119 : check plain_framing Der (octets "a4 00") ≡ finds []
unfolding digits is_utf8 chars encode
row-119 = refl

row-120 : check plain_framing Der (octets "31 00") ≡ finds []
unfolding digits is_utf8 chars encode
row-120 = refl

row-121 : check plain_framing Der (octets "3d 00") ≡ finds []
unfolding digits is_utf8 chars encode
row-121 = refl

row-122 : check plain_framing Cer (octets "30 80 00 00") ≡ finds []
unfolding digits is_utf8 chars encode
row-122 = refl

row-123 : check plain_framing Cer (octets "04 00") ≡ finds []
unfolding digits is_utf8 chars encode
row-123 = refl

row-124 : check plain_framing Cer (octets "84 82 03 e9" ++ replicate 1001 0x00) ≡ finds []
unfolding digits is_utf8 chars encode
row-124 = refl

row-125 : check plain_framing Cer (octets "24 82 03 ec 04 82 03 e8" ++ replicate 1000 0x00)
    ≡ finds ("0 C01 definite length of a constructed element" ∷ "0 C05 constructed string fits in 1000 octets" ∷ [])
unfolding digits is_utf8 chars encode
row-125 = refl

row-126 : check plain_framing Cer (octets "30 80 24 80 00 00 00 00")
    ≡ finds ("2 C05 constructed string fits in 1000 octets" ∷ [])
unfolding digits is_utf8 chars encode
row-126 = refl

row-127 : check plain_framing Cer (octets "24 80 24 80 00 00 04 01 00 00 00")
    ≡ finds ("2 C03 segment is constructed" ∷ "2 C05 constructed string fits in 1000 octets" ∷ "6 C04 segment follows one not of 1000 octets" ∷ [])
unfolding digits is_utf8 chars encode
row-127 = refl

row-128 : check plain_framing Cer (octets "24 80 24 82 03 e8 04 82 03 e4" ++
    replicate 996 0x00 ++
    octets "04 01 00 00 00")
    ≡ finds ("2 C01 definite length of a constructed element" ∷ "2 C03 segment is constructed" ∷ "2 C05 constructed string fits in 1000 octets" ∷ "1006 C04 segment follows one not of 1000 octets" ∷ [])
unfolding digits is_utf8 chars encode
row-128 = refl

row-129 : check plain_framing Cer (octets "30 80 04 01 00 04 01 00 00 00") ≡ finds []
unfolding digits is_utf8 chars encode
row-129 = refl

row-130 : check plain_framing Cer (octets "24 80 00 00") ≡ finds ("0 C05 constructed string fits in 1000 octets" ∷ [])
unfolding digits is_utf8 chars encode
row-130 = refl

row-131 : check plain_framing Cer (octets "23 80 0c 00 00 00")
    ≡ finds ("2 B17 segment has another tag" ∷ "0 C05 constructed string fits in 1000 octets" ∷ "0 C06 last segment is empty" ∷ [])
unfolding digits is_utf8 chars encode
row-131 = refl

row-132 : check plain_framing Cer (octets "24 80 30 80 00 00 00 00")
    ≡ finds ("2 B17 segment has another tag" ∷ "2 C03 segment is constructed" ∷ [])
unfolding digits is_utf8 chars encode
row-132 = refl

row-133 : check plain_framing Cer (octets "23 80 03 82 03 e8" ++
    replicate 1000 0x00 ++
    octets "03 02 00 00 00 00")
    ≡ finds []
unfolding digits is_utf8 chars encode
row-133 = refl

row-134 : check plain_framing Cer (octets "30 80 04 01 00 00 00") ≡ finds []
unfolding digits is_utf8 chars encode
row-134 = refl

row-135 : check plain_framing Cer (octets "24 80 04 01 00 04 00 00 00")
    ≡ finds ("5 C04 segment follows one not of 1000 octets" ∷ "0 C05 constructed string fits in 1000 octets" ∷ "0 C06 last segment is empty" ∷ [])
unfolding digits is_utf8 chars encode
row-135 = refl

row-136 : check plain_framing Cer (octets "24 80 04 00 04 01 00 00 00")
    ≡ finds ("4 C04 segment follows one not of 1000 octets" ∷ "0 C05 constructed string fits in 1000 octets" ∷ [])
unfolding digits is_utf8 chars encode
row-136 = refl

row-137 : check plain_framing Cer (octets "23 80 03 01 00 00 00")
    ≡ finds ("0 C05 constructed string fits in 1000 octets" ∷ [])
unfolding digits is_utf8 chars encode
row-137 = refl

-- all findings, and the listed ones
-- a constructed TIME
row-138 : check_all plain_framing Ber (octets "2e 80 00 00") ≡ finds ("0 B22 time or IRI must be primitive" ∷ [])
unfolding digits is_utf8 chars encode
row-138 = refl

row-139 : check_all plain_framing Der (octets "2e 80 00 00")
    ≡ finds ("0 B22 time or IRI must be primitive" ∷ "0 D01 indefinite length" ∷ [])
unfolding digits is_utf8 chars encode
row-139 = refl

-- a constructed TIME with a definite length
row-140 : check_all plain_framing Ber (octets "2e 00") ≡ finds ("0 B22 time or IRI must be primitive" ∷ [])
unfolding digits is_utf8 chars encode
row-140 = refl

row-141 : check_all plain_framing Der (octets "2e 00") ≡ finds ("0 B22 time or IRI must be primitive" ∷ [])
unfolding digits is_utf8 chars encode
row-141 = refl

row-142 : check_all plain_framing Cer (octets "2e 00")
    ≡ finds ("0 B22 time or IRI must be primitive" ∷ "0 C01 definite length of a constructed element" ∷ [])
unfolding digits is_utf8 chars encode
row-142 = refl

-- a primitive TIME
row-143 : check_all plain_framing Ber (octets "0e 00") ≡ finds []
unfolding digits is_utf8 chars encode
row-143 = refl

row-144 : check_all plain_framing Der (octets "0e 00") ≡ finds []
unfolding digits is_utf8 chars encode
row-144 = refl

-- a constructed DATE
row-145 : check_all plain_framing Ber (octets "3f 1f 80 00 00") ≡ finds ("0 B22 time or IRI must be primitive" ∷ [])
unfolding digits is_utf8 chars encode
row-145 = refl

row-146 : check_all plain_framing Der (octets "3f 1f 80 00 00")
    ≡ finds ("0 B22 time or IRI must be primitive" ∷ "0 D01 indefinite length" ∷ [])
unfolding digits is_utf8 chars encode
row-146 = refl

-- a primitive DATE
row-147 : check_all plain_framing Ber (octets "1f 1f 08 32 30 32 34 30 32 32 39") ≡ finds []
unfolding digits is_utf8 chars encode
row-147 = refl

row-148 : check_all plain_framing Der (octets "1f 1f 08 32 30 32 34 30 32 32 39") ≡ finds []
unfolding digits is_utf8 chars encode
row-148 = refl

-- a constructed RELATIVE-OID-IRI
row-149 : check_all plain_framing Ber (octets "3f 24 80 00 00") ≡ finds ("0 B22 time or IRI must be primitive" ∷ [])
unfolding digits is_utf8 chars encode
row-149 = refl

row-150 : check_all plain_framing Der (octets "3f 24 80 00 00")
    ≡ finds ("0 B22 time or IRI must be primitive" ∷ "0 D01 indefinite length" ∷ [])
unfolding digits is_utf8 chars encode
row-150 = refl

-- a primitive RELATIVE-OID-IRI
row-151 : check_all plain_framing Ber (octets "1f 24 01 61") ≡ finds []
unfolding digits is_utf8 chars encode
row-151 = refl

row-152 : check_all plain_framing Der (octets "1f 24 01 61") ≡ finds []
unfolding digits is_utf8 chars encode
row-152 = refl

-- a constructed element of a number above
row-153 : check_all plain_framing Ber (octets "3f 25 80 00 00") ≡ finds ("0 B03 unassigned universal number" ∷ [])
unfolding digits is_utf8 chars encode
row-153 = refl

row-154 : check_all plain_framing Der (octets "3f 25 80 00 00")
    ≡ finds ("0 B03 unassigned universal number" ∷ "0 D01 indefinite length" ∷ [])
unfolding digits is_utf8 chars encode
row-154 = refl

-- an element of another class
row-155 : check_all plain_framing Ber (octets "6e 80 00 00") ≡ finds []
unfolding digits is_utf8 chars encode
row-155 = refl

row-156 : check_all plain_framing Der (octets "6e 80 00 00") ≡ finds ("0 D01 indefinite length" ∷ [])
unfolding digits is_utf8 chars encode
row-156 = refl

-- a constructed DURATION in a SEQUENCE
row-157 : check_all plain_framing Ber (octets "30 80 3f 22 80 00 00 00 00")
    ≡ finds ("2 B22 time or IRI must be primitive" ∷ [])
unfolding digits is_utf8 chars encode
row-157 = refl

row-158 : check_all plain_framing Der (octets "30 80 3f 22 80 00 00 00 00")
    ≡ finds ("0 D01 indefinite length" ∷ "2 B22 time or IRI must be primitive" ∷ "2 D01 indefinite length" ∷ [])
unfolding digits is_utf8 chars encode
row-158 = refl

-- an EXTERNAL that holds nothing
row-159 : check_all plain_framing Ber (octets "28 80 00 00") ≡ finds ("0 B27 components are missing" ∷ [])
unfolding digits is_utf8 chars encode
row-159 = refl

row-160 : check_all plain_framing Der (octets "28 80 00 00")
    ≡ finds ("0 D01 indefinite length" ∷ "0 B27 components are missing" ∷ [])
unfolding digits is_utf8 chars encode
row-160 = refl

-- an EXTERNAL that holds nothing, with a definite length
row-161 : check_all plain_framing Ber (octets "28 00") ≡ finds ("0 B27 components are missing" ∷ [])
unfolding digits is_utf8 chars encode
row-161 = refl

row-162 : check_all plain_framing Der (octets "28 00") ≡ finds ("0 B27 components are missing" ∷ [])
unfolding digits is_utf8 chars encode
row-162 = refl

row-163 : check_all plain_framing Cer (octets "28 00")
    ≡ finds ("0 C01 definite length of a constructed element" ∷ "0 B27 components are missing" ∷ [])
unfolding digits is_utf8 chars encode
row-163 = refl

-- an EXTERNAL that holds a primitive
row-164 : check_all plain_framing Ber (octets "28 80 05 00 00 00")
    ≡ finds ("2 B30 element is no component of it" ∷ [])
unfolding digits is_utf8 chars encode
row-164 = refl

row-165 : check_all plain_framing Der (octets "28 80 05 00 00 00")
    ≡ finds ("0 D01 indefinite length" ∷ "2 B30 element is no component of it" ∷ [])
unfolding digits is_utf8 chars encode
row-165 = refl

-- an EXTERNAL that holds a SEQUENCE
row-166 : check_all plain_framing Ber (octets "28 80 30 80 00 00 00 00")
    ≡ finds ("2 B30 element is no component of it" ∷ [])
unfolding digits is_utf8 chars encode
row-166 = refl

row-167 : check_all plain_framing Der (octets "28 80 30 80 00 00 00 00")
    ≡ finds ("0 D01 indefinite length" ∷ "2 B30 element is no component of it" ∷ "2 D01 indefinite length" ∷ [])
unfolding digits is_utf8 chars encode
row-167 = refl

-- an EXTERNAL that holds a primitive with a finding
row-168 : check_all plain_framing Ber (octets "28 80 01 00 00 00")
    ≡ finds ("2 B30 element is no component of it" ∷ "2 B06 BOOLEAN is not one octet" ∷ [])
unfolding digits is_utf8 chars encode
row-168 = refl

row-169 : check_all plain_framing Der (octets "28 80 01 00 00 00")
    ≡ finds ("0 D01 indefinite length" ∷ "2 B30 element is no component of it" ∷ "2 B06 BOOLEAN is not one octet" ∷ [])
unfolding digits is_utf8 chars encode
row-169 = refl

-- an EXTERNAL in an EXTERNAL
row-170 : check_all plain_framing Ber (octets "28 80 28 80 00 00 00 00")
    ≡ finds ("2 B30 element is no component of it" ∷ "2 B27 components are missing" ∷ [])
unfolding digits is_utf8 chars encode
row-170 = refl

row-171 : check_all plain_framing Der (octets "28 80 28 80 00 00 00 00")
    ≡ finds ("0 D01 indefinite length" ∷ "2 B30 element is no component of it" ∷ "2 D01 indefinite length" ∷ "2 B27 components are missing" ∷ [])
unfolding digits is_utf8 chars encode
row-171 = refl

-- an EXTERNAL that holds an INTEGER
row-172 : check_all plain_framing Ber (octets "28 80 02 01 05 00 00") ≡ finds []
unfolding digits is_utf8 chars encode
row-172 = refl

row-173 : check_all plain_framing Der (octets "28 80 02 01 05 00 00") ≡ finds ("0 D01 indefinite length" ∷ [])
unfolding digits is_utf8 chars encode
row-173 = refl

-- an EMBEDDED PDV that holds an INTEGER
row-174 : check_all plain_framing Ber (octets "2b 80 02 01 05 00 00")
    ≡ finds ("2 B30 element is no component of it" ∷ [])
unfolding digits is_utf8 chars encode
row-174 = refl

row-175 : check_all plain_framing Der (octets "2b 80 02 01 05 00 00")
    ≡ finds ("0 D01 indefinite length" ∷ "2 B30 element is no component of it" ∷ [])
unfolding digits is_utf8 chars encode
row-175 = refl

-- a CHARACTER STRING that holds [2]
row-176 : check_all plain_framing Ber (octets "3d 80 82 00 00 00") ≡ finds []
unfolding digits is_utf8 chars encode
row-176 = refl

row-177 : check_all plain_framing Der (octets "3d 80 82 00 00 00") ≡ finds ("0 D01 indefinite length" ∷ [])
unfolding digits is_utf8 chars encode
row-177 = refl

-- an EXTERNAL that holds a NULL in [0]
row-178 : check_all plain_framing Ber (octets "28 80 a0 80 05 00 00 00 00 00") ≡ finds []
unfolding digits is_utf8 chars encode
row-178 = refl

row-179 : check_all plain_framing Der (octets "28 80 a0 80 05 00 00 00 00 00")
    ≡ finds ("0 D01 indefinite length" ∷ "2 D01 indefinite length" ∷ [])
unfolding digits is_utf8 chars encode
row-179 = refl

-- an EMBEDDED PDV and a CHARACTER STRING
row-180 : check_all plain_framing Ber (octets "2b 80 00 00 3d 80 00 00")
    ≡ finds ("0 B27 components are missing" ∷ "4 B27 components are missing" ∷ [])
unfolding digits is_utf8 chars encode
row-180 = refl

row-181 : check_all plain_framing Der (octets "2b 80 00 00 3d 80 00 00")
    ≡ finds ("0 D01 indefinite length" ∷ "0 B27 components are missing" ∷ "4 D01 indefinite length" ∷ "4 B27 components are missing" ∷ [])
unfolding digits is_utf8 chars encode
row-181 = refl

-- a SEQUENCE that holds nothing
row-182 : check_all plain_framing Ber (octets "30 80 00 00") ≡ finds []
unfolding digits is_utf8 chars encode
row-182 = refl

row-183 : check_all plain_framing Der (octets "30 80 00 00") ≡ finds ("0 D01 indefinite length" ∷ [])
unfolding digits is_utf8 chars encode
row-183 = refl

-- an EXTERNAL after an element, in a SEQUENCE
row-184 : check_all plain_framing Ber (octets "30 80 05 00 28 80 00 00 05 00 00 00")
    ≡ finds ("4 B27 components are missing" ∷ [])
unfolding digits is_utf8 chars encode
row-184 = refl

row-185 : check_all plain_framing Der (octets "30 80 05 00 28 80 00 00 05 00 00 00")
    ≡ finds ("0 D01 indefinite length" ∷ "4 D01 indefinite length" ∷ "4 B27 components are missing" ∷ [])
unfolding digits is_utf8 chars encode
row-185 = refl

-- a primitive EXTERNAL
row-186 : check_all plain_framing Ber (octets "08 00") ≡ finds ("0 B05 type must be constructed" ∷ [])
unfolding digits is_utf8 chars encode
row-186 = refl

row-187 : check_all plain_framing Der (octets "08 00") ≡ finds ("0 B05 type must be constructed" ∷ [])
unfolding digits is_utf8 chars encode
row-187 = refl

-- the listed ones
-- not listed
row-188 : check plain_framing Ber (octets "2e 80 00 00") ≡ finds []
unfolding digits is_utf8 chars encode
row-188 = refl

row-189 : check plain_framing Der (octets "2e 80 00 00") ≡ finds ("0 D01 indefinite length" ∷ [])
unfolding digits is_utf8 chars encode
row-189 = refl

row-190 : check plain_framing Cer (octets "2e 80 00 00") ≡ finds []
unfolding digits is_utf8 chars encode
row-190 = refl

row-191 : check plain_framing Ber (octets "28 80 00 00") ≡ finds []
unfolding digits is_utf8 chars encode
row-191 = refl

row-192 : check plain_framing Der (octets "28 80 00 00") ≡ finds ("0 D01 indefinite length" ∷ [])
unfolding digits is_utf8 chars encode
row-192 = refl

row-193 : check plain_framing Cer (octets "28 80 00 00") ≡ finds []
unfolding digits is_utf8 chars encode
row-193 = refl
