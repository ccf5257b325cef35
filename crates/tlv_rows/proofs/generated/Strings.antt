-- Inputs, and the strings of them that are opened, or broken.
-- `tests/make-rows` writes this file from tests/rows_of_definitions/strings.rows.
use Rattle.std.proofs.Common.{false, true, [], ◌∷◌, ◌++◌, refl}
use Rattle.std.specs.Prelude.{replicate}
use Rattle.tlv_head.specs.declared.fault.FaultCode.TheVariants.{MissingEnd, Overrun}
use Rattle.tlv_rows.proofs.Words.Octets.{octets}
use Rattle.tlv_open.specs.Opens.{AreOpened}
use Rattle.tlv_rows.proofs.Words.Opened.{opened, breaks_there, broken}
use Rattle.tlv_open.specs.declared.strings.Suspicion.TheVariants.{Extension, Sequence, Set}
use Rattle.tlv_open.specs.Breaks.{AreBroken}

-- Inputs, and the strings of them that are opened.
-- an OCTET STRING of a SEQUENCE
row-1 : AreOpened false (octets "04 05 30 03 02 01 07") (0 ∷ [])
row-1 = opened _ _ _ refl refl

-- of a NULL
row-2 : AreOpened false (octets "04 02 05 00") (0 ∷ [])
row-2 = opened _ _ _ refl refl

-- of an OCTET STRING without octets
row-3 : AreOpened false (octets "04 02 04 00") (0 ∷ [])
row-3 = opened _ _ _ refl refl

-- strings without octets
row-4 : AreOpened false (octets "04 00") []
row-4 = opened _ _ _ refl refl

row-5 : AreOpened false (octets "03 00") []
row-5 = opened _ _ _ refl refl

-- BIT STRINGs, without unused bits and with one
row-6 : AreOpened false (octets "03 03 00 05 00") (0 ∷ [])
row-6 = opened _ _ _ refl refl

row-7 : AreOpened false (octets "03 03 01 05 00") []
row-7 = opened _ _ _ refl refl

-- strings in strings
row-8 : AreOpened false (octets "04 06 04 04 04 02 05 00") (0 ∷ 2 ∷ 4 ∷ [])
row-8 = opened _ _ _ refl refl

-- a primitive of another class is not likely to be an encoding, a constructed element is
row-9 : AreOpened false (octets "04 03 80 01 05") []
row-9 = opened _ _ _ refl refl

row-10 : AreOpened false (octets "04 05 a0 03 80 01 05") (0 ∷ [])
row-10 = opened _ _ _ refl refl

-- the INTEGER is padded: B08
row-11 : AreOpened false (octets "04 04 02 02 00 05") []
row-11 = opened _ _ _ refl refl

-- what is found further in is not asked for: B18 and B10
row-12 : AreOpened false (octets "30 0b 04 09 30 07 13 05 66 6f 6f 40 62") (2 ∷ [])
row-12 = opened _ _ _ refl refl

-- an OBJECT IDENTIFIER without octets: B10
row-13 : AreOpened false (octets "30 08 04 02 05 00 04 02 06 00") (2 ∷ [])
row-13 = opened _ _ _ refl refl

-- constructed strings, with one segment and with two
row-14 : AreOpened false (octets "24 04 04 02 05 00") (2 ∷ [])
row-14 = opened _ _ _ refl refl

row-15 : AreOpened false (octets "24 08 04 02 05 00 04 02 05 00") []
row-15 = opened _ _ _ refl refl

-- with one, and an indefinite length; it has ended, it has not
row-16 : AreOpened false (octets "24 80 04 02 05 00 00 00") (2 ∷ [])
row-16 = opened _ _ _ refl refl

row-17 : AreOpened false (octets "24 80 04 02 05 00") []
row-17 = opened _ _ _ refl refl

row-18 : AreOpened false (octets "24 80 04 02 05 00 00") []
row-18 = opened _ _ _ refl refl

-- an indefinite length in a string
row-19 : AreOpened false (octets "04 06 30 80 05 00 00 00") (0 ∷ [])
row-19 = opened _ _ _ refl refl

-- damaged inputs: what is read is opened
row-20 : AreOpened false (octets "30 06 04 02 05 00 04") (2 ∷ [])
row-20 = opened _ _ _ refl refl

row-21 : AreOpened false (octets "30 06 04 02 05 00 00") (2 ∷ [])
row-21 = opened _ _ _ refl refl

-- without padding nothing is read
row-22 : AreOpened false (octets "00 04 02 05 00") []
row-22 = opened _ _ _ refl refl

-- a segment in a string in a string
row-23 : AreOpened false (octets "04 08 30 06 24 04 04 02 05 00") (0 ∷ 6 ∷ [])
row-23 = opened _ _ _ refl refl

row-24 : AreOpened false (octets "30 80 24 80 04 02 05 00 00 00 04 02 05 00 00 00 04 02 05 00") (4 ∷ 10 ∷ 16 ∷ [])
row-24 = opened _ _ _ refl refl

-- padding, if it is allowed
row-25 : AreOpened true (octets "00 00 04 02 05 00 00") (2 ∷ [])
row-25 = opened _ _ _ refl refl

-- Inputs, and the strings of them that are broken.
-- a SEQUENCE of 23 octets in 25
row-26 : AreBroken false (octets "04 19 30 17 02 01 05 04 13" ++ replicate 18 0x00) (breaks_there 0 Sequence Overrun 8 ∷ [])
row-26 = broken _ _ refl refl

-- a SET
row-27 : AreBroken false (octets "04 19 31 17 02 01 05 04 13" ++ replicate 18 0x00) (breaks_there 0 Set Overrun 8 ∷ [])
row-27 = broken _ _ refl refl

-- an element that ends 8 octets too early
row-28 : AreBroken false (octets "04 19 30 0f 02 01 05 04 13" ++ replicate 18 0x00) (breaks_there 0 Sequence Overrun 8 ∷ [])
row-28 = broken _ _ refl refl

-- 9 octets too early
row-29 : AreBroken false (octets "04 19 30 0e 02 01 05 04 13" ++ replicate 18 0x00) []
row-29 = broken _ _ refl refl

-- 8 octets too late
row-30 : AreBroken false (octets "04 19 30 1f 02 01 05 04 13" ++ replicate 18 0x00) (breaks_there 0 Sequence Overrun 3 ∷ [])
row-30 = broken _ _ refl refl

-- 9 octets too late
row-31 : AreBroken false (octets "04 19 30 20 02 01 05 04 13" ++ replicate 18 0x00) []
row-31 = broken _ _ refl refl

-- 24 octets are too few
row-32 : AreBroken false (octets "04 18 30 16 02 01 05 04 13" ++ replicate 17 0x00) []
row-32 = broken _ _ refl refl

-- an element of another type
row-33 : AreBroken false (octets "04 19 a0 17 02 01 05 04 13" ++ replicate 18 0x00) []
row-33 = broken _ _ refl refl

-- a BIT STRING without unused bits
row-34 : AreBroken false (octets "03 1a 00 30 17 02 01 05 04 13" ++ replicate 18 0x00) (breaks_there 0 Sequence Overrun 9 ∷ [])
row-34 = broken _ _ refl refl

-- with one
row-35 : AreBroken false (octets "03 1a 01 30 17 02 01 05 04 13" ++ replicate 18 0x00) []
row-35 = broken _ _ refl refl

-- a segment of a constructed string
row-36 : AreBroken false (octets "24 36 04 19 30 17 02 01 05 04 13 00 00 00 00 00 00 00 00 00 00 00 00 00 00 00 00 00 00 04 19 30 17 02 01 05 04 13" ++
    replicate 18 0x00) []
row-36 = broken _ _ refl refl

-- the only one
row-37 : AreBroken false (octets "24 1b 04 19 30 17 02 01 05 04 13" ++ replicate 18 0x00) (breaks_there 2 Sequence Overrun 10 ∷ [])
row-37 = broken _ _ refl refl

-- in a string that is opened
row-38 : AreBroken false (octets "04 1d 30 1b 04 19 30 17 02 01 05 04 13" ++ replicate 18 0x00) (breaks_there 4 Sequence Overrun 12 ∷ [])
row-38 = broken _ _ refl refl

-- what it holds is not looked at
row-39 : AreBroken false (octets "04 1d 30 1b 04 02 05 00 04 16" ++ replicate 21 0x00) (breaks_there 0 Sequence Overrun 9 ∷ [])
row-39 = broken _ _ refl refl

-- before a damage
row-40 : AreBroken false (octets "04 19 30 17 02 01 05 04 13" ++ replicate 19 0x00) (breaks_there 0 Sequence Overrun 8 ∷ [])
row-40 = broken _ _ refl refl

-- with octets missing
row-41 : AreBroken false (octets "04 19 30 17 02 01 05 04 13" ++ replicate 17 0x00) []
row-41 = broken _ _ refl refl

-- the value of an extension
row-42 : AreBroken false (octets "30 0a 06 03 55 1d 0f 04 03 03 02 05") (breaks_there 7 Extension Overrun 10 ∷ [])
row-42 = broken _ _ refl refl

-- after a BOOLEAN
row-43 : AreBroken false (octets "30 0d 06 03 55 1d 0f 01 01 ff 04 03 03 02 05") (breaks_there 10 Extension Overrun 13 ∷ [])
row-43 = broken _ _ refl refl

-- not below 2.5.29
row-44 : AreBroken false (octets "30 09 06 02 55 1d 04 03 03 02 05") []
row-44 = broken _ _ refl refl

-- below 1.3.6.1.5.5.7.1
row-45 : AreBroken false (octets "30 0f 06 08 2b 06 01 05 05 07 01 01 04 03 03 02 05") (breaks_there 12 Extension Overrun 15 ∷ [])
row-45 = broken _ _ refl refl

-- not below it
row-46 : AreBroken false (octets "30 0e 06 07 2b 06 01 05 05 07 01 04 03 03 02 05") []
row-46 = broken _ _ refl refl

-- not the last
row-47 : AreBroken false (octets "30 0d 06 03 55 1d 0f 04 03 03 02 05 01 01 ff") []
row-47 = broken _ _ refl refl

-- in a SET
row-48 : AreBroken false (octets "31 0a 06 03 55 1d 0f 04 03 03 02 05") []
row-48 = broken _ _ refl refl

-- unlikely to be an encoding, but sound
row-49 : AreBroken false (octets "30 0a 06 03 55 1d 0f 04 03 80 01 05") []
row-49 = broken _ _ refl refl

-- a value without octets
row-50 : AreBroken false (octets "30 07 06 03 55 1d 0f 04 00") []
row-50 = broken _ _ refl refl

-- its header cut at the end
row-51 : AreBroken false (octets "30 08 06 03 55 1d 0f 04 01 30") (breaks_there 7 Extension Overrun 10 ∷ [])
row-51 = broken _ _ refl refl

-- an element without its end
row-52 : AreBroken false (octets "30 09 06 03 55 1d 0f 04 02 30 80") (breaks_there 7 Extension MissingEnd 11 ∷ [])
row-52 = broken _ _ refl refl

-- with the first octet of the end
row-53 : AreBroken false (octets "30 0a 06 03 55 1d 0f 04 03 30 80 00") (breaks_there 7 Extension MissingEnd 12 ∷ [])
row-53 = broken _ _ refl refl

-- a SEQUENCE of its size takes precedence
row-54 : AreBroken false (octets "30 20 06 03 55 1d 0f 04 19 30 17 02 01 05 04 13" ++ replicate 18 0x00) (breaks_there 7 Sequence Overrun 15 ∷ [])
row-54 = broken _ _ refl refl

-- an indefinite length
row-55 : AreBroken false (octets "30 80 06 03 55 1d 0f 04 03 03 02 05 00 00") (breaks_there 7 Extension Overrun 10 ∷ [])
row-55 = broken _ _ refl refl

-- an indefinite length without its end
row-56 : AreBroken false (octets "30 80 06 03 55 1d 0f 04 03 03 02 05") []
row-56 = broken _ _ refl refl

-- a SEQUENCE that lacks octets
row-57 : AreBroken false (octets "30 0b 06 03 55 1d 0f 04 03 03 02 05") []
row-57 = broken _ _ refl refl

-- two extensions
row-58 : AreBroken false (octets "30 18 30 0a 06 03 55 1d 0f 04 03 03 02 05 30 0a 06 03 55 1d 0f 04 03 03 02 05") (breaks_there 9 Extension Overrun 12 ∷ breaks_there 21 Extension Overrun 24 ∷ [])
row-58 = broken _ _ refl refl
