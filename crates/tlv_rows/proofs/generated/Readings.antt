-- What short inputs are read as, and what they come to.
-- `tests/make-rows` writes this file from tests/rows_of_definitions/readings.rows.
use Rattle.std.proofs.Common.{◌≡◌, false, true, [], ◌∷◌, Some, refl}
use Rattle.tlv_head.specs.declared.fault.FaultCode.TheVariants.{Empty, Short, StrayEnd, BadEnd, MissingEnd}
use Rattle.tlv_head.specs.declared.fault.FaultCode.TheVariants.{TagTooLong, ReservedLength, IndefinitePrimitive}
use Rattle.tlv_head.specs.declared.fault.FaultCode.TheVariants.{LengthTooLarge, Overrun, BadInside}
use Rattle.tlv_head.specs.declared.header.Class.TheVariants.{Universal, Application, Context}
use Rattle.tlv_head.specs.declared.header.Size.TheVariants.{Definite, Indefinite}
use Rattle.tlv_walk.specs.Ending.{fault_ending}
use Rattle.tlv_walk.specs.declared.ending.Ending.TheVariants.{Done}
use Rattle.tlv_walk.specs.Framing.{plain_framing}
use Rattle.tlv_walk.proofs.GrammarLemmas.Readings.{padding_framing, reading}
use Rattle.tlv_rows.proofs.Words.Octets.{framing_of, octets}
use Rattle.tlv_walk.specs.Wrappers.{first_without_wrapper, wrapper_offsets}
use Rattle.tlv_walk.proofs.GrammarLemmas.Endings.{ending}
use Rattle.tlv_walk.specs.Forest.{NoMore, PaddingOctet, Primitive, Holder, OpenHolder, OpenHeader}
use Rattle.tlv_rows.proofs.Words.Headers.{header, named}

-- What short inputs come to, and the strings of them that are named and hold encodings.
-- nothing
row-1 : ending plain_framing [] ≡ (fault_ending Empty 0)
row-1 = refl

-- stray zero
row-2 : ending plain_framing (octets "00") ≡ (fault_ending StrayEnd 0)
row-2 = refl

-- empty sequence
row-3 : ending plain_framing (octets "30 00") ≡ Done
row-3 = refl

-- empty indefinite
row-4 : ending plain_framing (octets "30 80 00 00") ≡ Done
row-4 = refl

-- bad end
row-5 : ending plain_framing (octets "30 80 00 01") ≡ (fault_ending BadEnd 3)
row-5 = refl

-- missing end
row-6 : ending plain_framing (octets "30 03 30 80 00 00") ≡ (fault_ending MissingEnd 5)
row-6 = refl

-- identifier cut off
row-7 : ending plain_framing (octets "ff") ≡ (fault_ending Short 1)
row-7 = refl

-- reserved length
row-8 : ending plain_framing (octets "04 ff") ≡ (fault_ending ReservedLength 1)
row-8 = refl

-- indefinite primitive
row-9 : ending plain_framing (octets "04 80") ≡ (fault_ending IndefinitePrimitive 1)
row-9 = refl

-- length too large
row-10 : ending plain_framing (octets "04 86 01") ≡ (fault_ending LengthTooLarge 2)
row-10 = refl

-- an integer done
row-11 : ending plain_framing (octets "02 01 05") ≡ Done
row-11 = refl

-- segments done
row-12 : ending plain_framing (octets "3a 09 04 03 4a 6f 6e 04 02 65 73") ≡ Done
row-12 = refl

-- an overrun
row-13 : ending plain_framing (octets "30 03 02 02 01") ≡ (fault_ending Overrun 3)
row-13 = refl

-- header cut off
row-14 : ending plain_framing (octets "30 01 02") ≡ (fault_ending Short 3)
row-14 = refl

-- header beyond its element
row-15 : ending plain_framing (octets "30 01 02 00") ≡ (fault_ending Overrun 3)
row-15 = refl

-- indefinite cut off
row-16 : ending plain_framing (octets "30 80 02 01 05") ≡ (fault_ending Short 5)
row-16 = refl

-- zeros in a definite element
row-17 : ending plain_framing (octets "30 02 00 00") ≡ (fault_ending StrayEnd 2)
row-17 = refl

-- what no octet can repair is F02 at the end of the input, and F05 at one more
row-18 : ending plain_framing (octets "30 05 30 80 02 01 05") ≡ (fault_ending Short 7)
row-18 = refl

-- no room for an end
row-19 : ending plain_framing (octets "30 05 30 80 02 01 05 00") ≡ (fault_ending MissingEnd 7)
row-19 = refl

-- ten octets of number
row-20 : ending plain_framing (octets "9f 81 80 80 80 80 80 80 80 80") ≡ (fault_ending TagTooLong 9)
row-20 = refl

-- long form done
row-21 : ending plain_framing (octets "04 81 03 aa bb cc") ≡ Done
row-21 = refl

-- 2^40 - 1 octets are announced, and none comes
row-22 : ending plain_framing (octets "04 85 ff ff ff ff ff") ≡ (fault_ending Short 7)
row-22 = refl

-- four deep
row-23 : ending plain_framing (octets "30 80 30 80 30 80 30 80 00 00 00 00 00 00 00 00") ≡ Done
row-23 = refl

-- two nulls
row-24 : ending plain_framing (octets "05 00 05 00") ≡ Done
row-24 = refl

-- zeros at the top
row-25 : ending plain_framing (octets "05 00 00 00") ≡ (fault_ending StrayEnd 2)
row-25 = refl

-- padding not allowed
row-26 : ending plain_framing (octets "00 00 05 00 00 00 05 00 00") ≡ (fault_ending StrayEnd 0)
row-26 = refl

-- with padding
-- only padding
row-27 : ending padding_framing (octets "00 00") ≡ (fault_ending Empty 2)
row-27 = refl

-- padded sequence
row-28 : ending padding_framing (octets "00 30 00 00 00") ≡ Done
row-28 = refl

-- zero in sequence
row-29 : ending padding_framing (octets "30 02 00 00") ≡ (fault_ending StrayEnd 2)
row-29 = refl

-- padding alone
row-30 : ending padding_framing (octets "00 00 00") ≡ (fault_ending Empty 3)
row-30 = refl

-- with strings that are named by their offsets
-- wrapped octets
row-31 : ending (framing_of (0 ∷ 5 ∷ []) false) (octets "04 02 05 00") ≡ Done
row-31 = refl

-- wrapped bits
row-32 : ending (framing_of (0 ∷ 5 ∷ []) false) (octets "03 03 00 05 00") ≡ Done
row-32 = refl

-- bits of nothing
row-33 : ending (framing_of (0 ∷ 5 ∷ []) false) (octets "03 01 00") ≡ Done
row-33 = refl

-- bits without contents
row-34 : ending (framing_of (0 ∷ 5 ∷ []) false) (octets "03 00") ≡ Done
row-34 = refl

-- unused bits
row-35 : ending (framing_of (0 ∷ 5 ∷ []) false) (octets "03 01 01") ≡ (fault_ending BadInside 2)
row-35 = refl

-- bits cut off
row-36 : ending (framing_of (0 ∷ 5 ∷ []) false) (octets "03 01") ≡ (fault_ending Short 2)
row-36 = refl

-- beyond wrapper
row-37 : ending (framing_of (0 ∷ 5 ∷ []) false) (octets "04 02 05 01") ≡ (fault_ending Overrun 3)
row-37 = refl

-- zero in wrapper
row-38 : ending (framing_of (0 ∷ 5 ∷ []) false) (octets "04 01 00") ≡ (fault_ending StrayEnd 2)
row-38 = refl

-- beyond sequence
row-39 : ending (framing_of (0 ∷ 5 ∷ []) false) (octets "30 05 04 00 05 03 00") ≡ (fault_ending Overrun 5)
row-39 = refl

-- wrapped twice
row-40 : ending (framing_of (0 ∷ 5 ∷ []) false) (octets "04 05 04 01 07 04 00") ≡ Done
row-40 = refl

-- bits with unused bits
row-41 : ending (framing_of (0 ∷ []) false) (octets "03 04 01 02 01 05") ≡ (fault_ending BadInside 2)
row-41 = refl

-- no octets wrapped
row-42 : ending (framing_of (0 ∷ []) false) (octets "04 00") ≡ Done
row-42 = refl

-- zeros wrapped
row-43 : ending (framing_of (0 ∷ []) false) (octets "04 02 00 00") ≡ (fault_ending StrayEnd 2)
row-43 = refl

-- overrun wrapped
row-44 : ending (framing_of (0 ∷ []) false) (octets "04 03 02 02 05") ≡ (fault_ending Overrun 3)
row-44 = refl

-- zeros wrapped are no padding
row-45 : ending (framing_of (0 ∷ []) true) (octets "04 02 00 00") ≡ (fault_ending StrayEnd 2)
row-45 = refl

-- the offsets of those that hold encodings
-- wrapped octets wrapper
row-46 : wrapper_offsets (reading (framing_of (0 ∷ 5 ∷ []) false) (octets "04 02 05 00")) ≡ (0 ∷ [])
row-46 = refl

-- wrapped twice wrappers
row-47 : wrapper_offsets (reading (framing_of (0 ∷ 5 ∷ []) false) (octets "04 05 04 01 07 04 00")) ≡ (0 ∷ 5 ∷ [])
row-47 = refl

-- the first offset that is named, and not that of a string that holds encodings
-- wrapped octets other
row-48 : first_without_wrapper (0 ∷ 5 ∷ []) (reading (framing_of (0 ∷ 5 ∷ []) false) (octets "04 02 05 00")) ≡ Some 5
row-48 = refl

-- it is no wrapper
row-49 : first_without_wrapper (0 ∷ []) (reading (framing_of (0 ∷ []) false) (octets "03 00")) ≡ Some 0
row-49 = refl

-- second name unused
row-50 : first_without_wrapper (0 ∷ 1 ∷ []) (reading (framing_of (0 ∷ 1 ∷ []) false) (octets "04 02 05 00")) ≡ Some 1
row-50 = refl

-- What short inputs are read as.
-- an integer
row-51 : reading plain_framing (octets "02 01 05")
    ≡ (Primitive (header 0 Universal false 2 (Definite 1) "02" "01") (octets "05") NoMore)
row-51 = refl

-- two segments
row-52 : reading plain_framing (octets "3a 09 04 03 4a 6f 6e 04 02 65 73")
    ≡ (Holder (header 0 Universal true 26 (Definite 9) "3a" "09") (Primitive (header 2 Universal false 4 (Definite 3) "04" "03") (octets "4a 6f 6e") (Primitive (header 7 Universal false 4 (Definite 2) "04" "02") (octets "65 73") NoMore)) NoMore)
row-52 = refl

-- the same with an indefinite length
row-53 : reading plain_framing (octets "3a 80 04 03 4a 6f 6e 04 02 65 73 00 00")
    ≡ (Holder (header 0 Universal true 26 Indefinite "3a" "80") (Primitive (header 2 Universal false 4 (Definite 3) "04" "03") (octets "4a 6f 6e") (Primitive (header 7 Universal false 4 (Definite 2) "04" "02") (octets "65 73") NoMore)) NoMore)
row-53 = refl

-- the second 02 announces an octet too many
row-54 : reading plain_framing (octets "30 03 02 02 01")
    ≡ (OpenHolder (header 0 Universal true 16 (Definite 3) "30" "03") (OpenHeader (octets "02")))
row-54 = refl

-- application 31
row-55 : reading plain_framing (octets "5f 1f 01 00")
    ≡ (Primitive (header 0 Application false 31 (Definite 1) "5f 1f" "01") (octets "00") NoMore)
row-55 = refl

-- high form of 2
row-56 : reading plain_framing (octets "1f 02 01 05")
    ≡ (Primitive (header 0 Universal false 2 (Definite 1) "1f 02" "01") (octets "05") NoMore)
row-56 = refl

-- nine octets of a number
row-57 : reading plain_framing (octets "9f 81 80 80 80 80 80 80 80 00 00")
    ≡ (Primitive (header 0 Context false 72057594037927936 (Definite 0) "9f 81 80 80 80 80 80 80 80 00" "00") [] NoMore)
row-57 = refl

-- a string that is not named
row-58 : reading plain_framing (octets "04 05 30 03 02 01 07")
    ≡ (Primitive (header 0 Universal false 4 (Definite 5) "04" "05") (octets "30 03 02 01 07") NoMore)
row-58 = refl

-- with padding
-- NULLs among padding
row-59 : reading padding_framing (octets "00 00 05 00 00 00 05 00 00")
    ≡ (PaddingOctet (PaddingOctet (Primitive (header 2 Universal false 5 (Definite 0) "05" "00") [] (PaddingOctet (PaddingOctet (Primitive (header 6 Universal false 5 (Definite 0) "05" "00") [] (PaddingOctet NoMore)))))))
row-59 = refl

-- with strings that are named by their offsets
-- an OCTET STRING
row-60 : reading (framing_of (0 ∷ []) false) (octets "04 05 30 03 02 01 07")
    ≡ (Holder (named (header 0 Universal false 4 (Definite 5) "04" "05")) (Holder (header 2 Universal true 16 (Definite 3) "30" "03") (Primitive (header 4 Universal false 2 (Definite 1) "02" "01") (octets "07") NoMore) NoMore) NoMore)
row-60 = refl

-- a BIT STRING
row-61 : reading (framing_of (0 ∷ []) false) (octets "03 04 00 02 01 05")
    ≡ (Holder (named (header 0 Universal false 3 (Definite 4) "03" "04")) (Primitive (header 3 Universal false 2 (Definite 1) "02" "01") (octets "05") NoMore) NoMore)
row-61 = refl
