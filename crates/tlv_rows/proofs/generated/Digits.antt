-- Texts in pairs of digits, tokens, numbers and dumps, and the octets that are read from them.
-- `tests/make-rows` writes this file from tests/rows_of_definitions/digits.rows.
use Rattle.std.proofs.Common.{◌≡◌, false, true, [], ◌∷◌, ◌++◌, None, Some, codes, refl}
use Rattle.std.specs.Prelude.{replicate}
use Rattle.tlv_rows.proofs.Words.Octets.{lines, octets}
use Rattle.tlv_text.specs.Pairs.{pairs_read}
use Rattle.tlv_text.specs.TextRead.{nothing_read, refused_in, refused_with}
use Rattle.tlv_text.specs.Tokens.{token_count, tokens_read}
use Rattle.tlv_text.specs.Numbers.{may_be_pairs, numbers_read}
use Rattle.tlv_rows.proofs.Words.Texts.{broken, closed, part, whole}
use Rattle.tlv_text.specs.Dump.{dump_read}

-- Texts, the octets that are read from them, and what is left.
-- pairs of digits
-- octets
row-1 : pairs_read (codes "30 03\n02:01-05\r\n") ≡ record { octets = (octets "30 03 02 01 05"); rest = (codes "") }
row-1 = refl

-- cases
row-2 : pairs_read (codes "'aB','Cd'") ≡ record { octets = (octets "ab cd"); rest = (codes "") }
row-2 = refl

-- a digit is lacking
row-3 : pairs_read (codes "30 0") ≡ record { octets = (octets "30"); rest = (codes "0") }
row-3 = refl

-- other
row-4 : pairs_read (codes "3003 zz 02") ≡ record { octets = (octets "30 03"); rest = (codes "zz 02") }
row-4 = refl

-- no pair is split
row-5 : pairs_read (codes "3 0") ≡ nothing_read (codes "3 0")
row-5 = refl

-- tokens
-- an array of C, with what stands before and after it
row-6 : tokens_read (codes "char t[] = {0x30, 0x3,\n 0X2e};\nint n = 3;")
    ≡ record { octets = (octets "30 03 2e"); rest = (codes "") }
row-6 = refl

-- two strings
row-7 : tokens_read (codes "\"\\x30\\x03\" \"\\xfE\"") ≡ record { octets = (octets "30 03 fe"); rest = (codes "") }
row-7 = refl

-- a comment without words
row-8 : tokens_read (codes "[0x30, /* */ 0x82]") ≡ record { octets = (octets "30 82"); rest = (codes "") }
row-8 = refl

-- a word between two tokens
row-9 : tokens_read (codes "0x30 then a word 0x03")
    ≡ record { octets = (octets "30"); rest = (codes "then a word 0x03") }
row-9 = refl

-- last
row-10 : tokens_read (codes "[0x30, 0x03, 0x02u8]") ≡ record { octets = (octets "30 03"); rest = (codes "0x02u8]") }
row-10 = refl

-- behind
row-11 : tokens_read (codes "{0x30}; int n = 0X3082;") ≡ record { octets = (octets "30"); rest = (codes "0X3082;") }
row-11 = refl

-- digits are lost, or changed
row-12 : tokens_read (codes "{0x30, 0x03, 0x}") ≡ record { octets = (octets "30 03"); rest = (codes "0x}") }
row-12 = refl

-- letter
row-13 : tokens_read (codes "\"\\x30\\x03\\xg2\\x01\"")
    ≡ record { octets = (octets "30 03"); rest = (codes "\\xg2\\x01\"") }
row-13 = refl

-- letters of a string after a token, in Python and in C
row-14 : tokens_read (codes "b'\\x04\\x05\\x06abc'")
    ≡ record { octets = (octets "04 05"); rest = (codes "\\x06abc'") }
row-14 = refl

-- digits
row-15 : tokens_read (codes "\"\\x30\\x03ab\"") ≡ record { octets = (octets "30"); rest = (codes "\\x03ab\"") }
row-15 = refl

-- an octet of a string that is written in another way
row-16 : tokens_read (codes "b'\\x04\\x05\\n'") ≡ record { octets = (octets "04"); rest = (codes "\\x05\\n'") }
row-16 = refl

-- a string of C that goes on in the next line
row-17 : tokens_read (codes "\"\\x30\\x03\\\n\\x02\"") ≡ record { octets = (octets "30 03 02"); rest = (codes "") }
row-17 = refl

-- in words there are no tokens, and nothing begins like one
row-18 : tokens_read (codes "10x30, a0xg, a\\x30, a\\xg") ≡ nothing_read (codes "")
row-18 = refl

-- what begins like a token and is none: first, last, and behind words
row-19 : tokens_read (codes "0x3082, 0x01") ≡ nothing_read (codes "0x3082, 0x01")
row-19 = refl

-- suffix
row-20 : tokens_read (codes "[0x30u8, 0x03, 0x02]") ≡ nothing_read (codes "0x30u8, 0x03, 0x02]")
row-20 = refl

-- literal read
row-21 : tokens_read (codes "b'0\\x82\\x01'") ≡ nothing_read (codes "")
row-21 = refl

-- quote
row-22 : tokens_read (codes "\"\\x30\\\"\"") ≡ nothing_read (codes "\\x30\\\"\"")
row-22 = refl

-- characters of a string that are no tokens
row-23 : token_count (codes "b'0\\x82\\x01'") ≡ 0
row-23 = refl

-- two tokens or more
row-24 : token_count (codes "0x30,0x31") ≡ 2
row-24 = refl

-- one
row-25 : token_count (codes "let x = 0x30;") ≡ 1
row-25 = refl

-- Texts, and what is read of the list of numbers in them.
-- JSON
row-26 : numbers_read (codes "[48, 130, -1]") ≡ closed (48 ∷ 130 ∷ 255 ∷ [])
row-26 = refl

-- buffer
row-27 : numbers_read (codes "{\"type\":\"Buffer\",\"data\":[48,130,1]}") ≡ closed (48 ∷ 130 ∷ 1 ∷ [])
row-27 = refl

-- Go and Java
row-28 : numbers_read (codes "[]byte{48,130,}") ≡ closed (48 ∷ 130 ∷ [])
row-28 = refl

-- bytes
row-29 : numbers_read (codes "new byte[] { 48\n, -126 , 0,-128, 255 , }") ≡ closed (48 ∷ 130 ∷ 0 ∷ 128 ∷ 255 ∷ [])
row-29 = refl

-- one number alone is no list
row-30 : numbers_read (codes "[3]byte{48, 3, 2}") ≡ closed (48 ∷ 3 ∷ 2 ∷ [])
row-30 = refl

-- place
row-31 : numbers_read (codes "a[0] = {48, 1}; b[1]") ≡ closed (48 ∷ 1 ∷ [])
row-31 = refl

-- no list
-- above
row-32 : numbers_read (codes "[256]") ≡ None
row-32 = refl

-- below
row-33 : numbers_read (codes "[-129]") ≡ None
row-33 = refl

-- lacking
row-34 : numbers_read (codes "[1,,2]") ≡ None
row-34 = refl

-- empty
row-35 : numbers_read (codes "[]") ≡ None
row-35 = refl

-- comma
row-36 : numbers_read (codes "[,]") ≡ None
row-36 = refl

-- gap
row-37 : numbers_read (codes "[1 2]") ≡ None
row-37 = refl

-- digits
row-38 : numbers_read (codes "[0001]") ≡ None
row-38 = refl

-- kinds
row-39 : numbers_read (codes "[1}") ≡ None
row-39 = refl

-- single
row-40 : numbers_read (codes "[48,]") ≡ None
row-40 = refl

-- a list breaks: the last number is that of the characters from there on
row-41 : numbers_read (codes "[48, 3, 300]") ≡ broken (48 ∷ 3 ∷ []) 4
row-41 = refl

-- word
row-42 : numbers_read (codes "[48, 3, x] [1]") ≡ broken (48 ∷ 3 ∷ []) 6
row-42 = refl

-- open
row-43 : numbers_read (codes "[1,2, ") ≡ broken (1 ∷ 2 ∷ []) 0
row-43 = refl

-- the last number may be cut
row-44 : numbers_read (codes "[1,2,3") ≡ broken (1 ∷ 2 ∷ []) 1
row-44 = refl

-- bracket
row-45 : numbers_read (codes "[1,2,3}") ≡ broken (1 ∷ 2 ∷ []) 2
row-45 = refl

-- a damaged number gives no octet
row-46 : numbers_read (codes "[48, 3, 1x0]") ≡ broken (48 ∷ 3 ∷ []) 4
row-46 = refl

-- four digits
row-47 : numbers_read (codes "[48, 3, 1300]") ≡ broken (48 ∷ 3 ∷ []) 5
row-47 = refl

-- a second list begins
row-48 : numbers_read (codes "[[1,2],[3,4]]") ≡ broken (1 ∷ 2 ∷ []) 6
row-48 = refl

-- inner
row-49 : numbers_read (codes "[1,2,[3,4]]") ≡ broken (1 ∷ 2 ∷ []) 6
row-49 = refl

-- the first list breaks before
row-50 : numbers_read (codes "[1,2,x] [3,4]") ≡ broken (1 ∷ 2 ∷ []) 8
row-50 = refl

-- numbers of two digits, one of which begins with 0, may be pairs of hexadecimal digits
row-51 : may_be_pairs (codes "[30, 03, 02, 01, 05]") ≡ true
row-51 = refl

-- last pair
row-52 : may_be_pairs (codes "{48,3,2,1,05}") ≡ true
row-52 = refl

-- no such number
row-53 : may_be_pairs (codes "[48, 3, 2, 1, 5]") ≡ false
row-53 = refl

-- zeros
row-54 : may_be_pairs (codes "[48, 0, 0, 10, 20]") ≡ false
row-54 = refl

-- a number has three digits, or a minus
row-55 : may_be_pairs (codes "[048, 003, 002, 001, 005]") ≡ false
row-55 = refl

-- mixed
row-56 : may_be_pairs (codes "[30, 130, 02]") ≡ false
row-56 = refl

-- minus
row-57 : may_be_pairs (codes "[30, -1, 02]") ≡ false
row-57 = refl

-- what comes after the list does not count
row-58 : may_be_pairs (codes "[48, 3] 05,") ≡ false
row-58 = refl

-- Dumps of some tools, and the octets that are read from them.
-- xxd
row-59 : dump_read (lines ("00000000: 3082 0122 0405 0607 0809 0a0b 0c0d 0e0f  0..\"............" ∷ "00000010: 3031                                     01" ∷ []))
    ≡ whole (octets "30 82 01 22 04 05 06 07 08 09 0a 0b 0c 0d 0e 0f 30 31")
row-59 = refl

-- od
row-60 : dump_read (lines ("000000 30 82 01 22 04 05 06 07 08 09 0a 0b 0c 0d 0e 0f" ∷ "000010 30 31" ∷ "000012" ∷ []))
    ≡ whole (octets "30 82 01 22 04 05 06 07 08 09 0a 0b 0c 0d 0e 0f 30 31")
row-60 = refl

-- octal offsets
row-61 : dump_read (lines ("0000000 30 82 01 22 04 05 06 07 08 09 0a 0b 0c 0d 0e 0f" ∷ "0000020 30 31" ∷ "0000022" ∷ []))
    ≡ whole (octets "30 82 01 22 04 05 06 07 08 09 0a 0b 0c 0d 0e 0f 30 31")
row-61 = refl

-- what fits both is read with octal offsets, if the first has seven digits: 82 octets, and not 290
row-62 : dump_read (lines ("0000000 00 00 00 00 00 00 00 00 00 00 00 00 00 00 00 00" ∷ "*" ∷ "0000120 30 31" ∷ "0000122" ∷ []))
    ≡ whole (replicate 80 0x00 ++ octets "30 31")
row-62 = refl

-- else with hexadecimal ones
row-63 : dump_read (lines ("000000 00 00 00 00 00 00 00 00 00 00 00 00 00 00 00 00" ∷ "*" ∷ "000040 30 31" ∷ "000042" ∷ []))
    ≡ whole (replicate 64 0x00 ++ octets "30 31")
row-63 = refl

-- the first offset is not octal, so no octal dump begins at the second
row-64 : dump_read (lines ("00000f0 00 00 00 00 00 00 00 00 00 00 00 00 00 00 00 00" ∷ "0000100 00 00 00 00 00 00 00 00 00 00 00 00 00 00 00 00" ∷ "*" ∷ "0000140 30 31" ∷ []))
    ≡ whole (replicate 80 0x00 ++ octets "30 31")
row-64 = refl

-- seven digits and a colon, as xxd once wrote them: not 8 octets of each row
row-65 : dump_read (lines ("0000000: 3082 0122 0405 0607 0809 0a0b 0c0d 0e0f  0..\"............" ∷ "0000010: 3031                                     01" ∷ []))
    ≡ whole (octets "30 82 01 22 04 05 06 07 08 09 0a 0b 0c 0d 0e 0f 30 31")
row-65 = refl

-- lines with an offset and no pair come before the first row
row-66 : dump_read (lines ("0000 zz" ∷ "2024" ∷ "0000: 3031" ∷ [])) ≡ whole (octets "30 31")
row-66 = refl

-- the column of characters begins with what looks like a pair
row-67 : dump_read (lines ("0000   30 82 01 22 04 05 06 07 08 09 0a 0b 0c 0d 0e 0f   0aff............" ∷ "0010   30 31                                             01" ∷ []))
    ≡ whole (octets "30 82 01 22 04 05 06 07 08 09 0a 0b 0c 0d 0e 0f 30 31")
row-67 = refl

-- tcpdump
row-68 : dump_read (lines ("12:34:56.789 IP a > b" ∷ "\t0x0000:  3082 0122 0405 0607 0809 0a0b 0c0d 0e0f  0..\"............" ∷ "\t0x0010:  3031                                     01" ∷ []))
    ≡ whole (octets "30 82 01 22 04 05 06 07 08 09 0a 0b 0c 0d 0e 0f 30 31")
row-68 = refl

-- powershell
row-69 : dump_read (lines ("           00 01 02 03 04 05 06 07 08 09 0A 0B 0C 0D 0E 0F" ∷ "" ∷ "00000000   30 82 01 22 04 05 06 07 08 09 0A 0B 0C 0D 0E 0F  0..\"............" ∷ "00000010   30 31                                            01" ∷ "" ∷ []))
    ≡ whole (octets "30 82 01 22 04 05 06 07 08 09 0a 0b 0c 0d 0e 0f 30 31")
row-69 = refl

-- openssl
row-70 : dump_read (lines ("0000 - 30 82 01 22 04 05 06 07-08 09 0a 0b 0c 0d 0e 0f   0..\"............" ∷ "0010 - 30 31                                             01" ∷ []))
    ≡ whole (octets "30 82 01 22 04 05 06 07 08 09 0a 0b 0c 0d 0e 0f 30 31")
row-70 = refl

-- rows of two octets, repeats of them and an end row
row-71 : dump_read (lines ("0000 30 31" ∷ "0002 30 32" ∷ "*" ∷ "0008 32 33" ∷ "*" ∷ "000e" ∷ []))
    ≡ whole (octets "30 31 30 32 30 32 30 32 32 33 32 33 32 33")
row-71 = refl

-- a repeat after the first row
row-72 : dump_read (lines ("00000000  30 82 01 22 04 05 06 07  08 09 0a 0b 0c 0d 0e 0f  |0..\"............|" ∷ "*" ∷ "00000020  30 31                                             |01|" ∷ "00000022" ∷ []))
    ≡ whole (octets "30 82 01 22 04 05 06 07 08 09 0a 0b 0c 0d 0e 0f 30 82 01 22 04 05 06 07 08 09 0a 0b 0c 0d 0e 0f" ++
    octets "30 31")
row-72 = refl

-- addresses and pairs as gdb writes them, with a symbol and without
row-73 : dump_read (lines ("0x7fffffffe000:\t0x30\t0x82\t0x01\t0x22\t0x04\t0x05\t0x06\t0x07" ∷ "0x7fffffffe008:\t0x08\t0x09\t0x0a\t0x0b\t0x0c\t0x0d\t0x0e\t0x0f" ∷ "0x7fffffffe010:\t0x30\t0x31" ∷ []))
    ≡ whole (octets "30 82 01 22 04 05 06 07 08 09 0a 0b 0c 0d 0e 0f 30 31")
row-73 = refl

-- symbol
row-74 : dump_read (lines ("0x404040 <cert>:\t0x30\t0x82\t0x01\t0x22\t0x04\t0x05\t0x06\t0x07" ∷ "0x404048 <cert+8>:\t0x08\t0x09\t0x0a\t0x0b\t0x0c\t0x0d\t0x0e\t0x0f" ∷ "0x404050 <cert+16>:\t0x30\t0x31" ∷ []))
    ≡ whole (octets "30 82 01 22 04 05 06 07 08 09 0a 0b 0c 0d 0e 0f 30 31")
row-74 = refl

-- single symbol
row-75 : dump_read (lines ("0x404040 <cert>:\t0x30\t0x31" ∷ [])) ≡ whole (octets "30 31")
row-75 = refl

-- a row alone
row-76 : dump_read (lines ("\t0x0040:  3003 0201 05                             0...." ∷ []))
    ≡ whole (octets "30 03 02 01 05")
row-76 = refl

-- read up to a place: the last number is that of the characters from there on
-- the offset of the third row is wrong
row-77 : dump_read (lines ("0000: 3031" ∷ "0002: 3233" ∷ "0006: 3435" ∷ [])) ≡ part (octets "30 31 32 33") 11
row-77 = refl

-- a digit of the second row is lost
row-78 : dump_read (lines ("0000: 3031" ∷ "0002: 323" ∷ "0004: 3435" ∷ [])) ≡ part (octets "30 31") 21
row-78 = refl

-- words of 32 bits in the second row, where a lone pair may be
row-79 : dump_read (lines ("0000 30 31" ∷ "0002 31323334" ∷ [])) ≡ part (octets "30 31") 14
row-79 = refl

-- the second row has a pair more
row-80 : dump_read (lines ("0000: 30 31" ∷ "0002: 32 33 34" ∷ "0004: 34 35" ∷ [])) ≡ part (octets "30 31") 27
row-80 = refl

-- nothing comes after an end row
row-81 : dump_read (lines ("0000: 3031" ∷ "0002" ∷ "0002: 3233" ∷ [])) ≡ part (octets "30 31") 11
row-81 = refl

-- no row comes after the repeat
row-82 : dump_read (lines ("0000: 3031" ∷ "0002: 3031" ∷ "*" ∷ [])) ≡ part (octets "30 31 30 31") 2
row-82 = refl

-- the offset after the repeat is within a row
row-83 : dump_read (lines ("0000: 3031" ∷ "0002: 3031" ∷ "*" ∷ "0007: 3031" ∷ [])) ≡ part (octets "30 31 30 31") 11
row-83 = refl

-- a row of hexdump -C that is broken in its second half is not taken for a shorter row
row-84 : dump_read (lines ("00000000  30 31 32 33 34 35 36 37  38 39 3a 3b 3c 3d 3e 3f" ∷ "00000010  30 31 32 33 34 35 36 37  38 3z 3a 3b 3c 3d 3e 3f" ∷ "00000020  30 31 32 33 34 35 36 37  38" ∷ []))
    ≡ part (octets "30 31 32 33 34 35 36 37 38 39 3a 3b 3c 3d 3e 3f") 97
row-84 = refl

-- a dump of od is refused where its octal offsets or its rows do not fit, though with hexadecimal offsets it would be
-- refused at its second row
row-85 : dump_read (lines ("0000000 30 82 01 22 04 05 06 07 08 09 0a 0b 0c 0d 0e 0f" ∷ "0000020 30 82 01 22 04 05 06 07 08 09 0a 0b 0c 0d 0e 0f" ∷ "0000040 30 82 z1 22 04 05 06" ∷ "0000060 31" ∷ []))
    ≡ part (octets "30 82 01 22 04 05 06 07 08 09 0a 0b 0c 0d 0e 0f 30 82 01 22 04 05 06 07 08 09 0a 0b 0c 0d 0e 0f") 40
row-85 = refl

-- where hexadecimal offsets fit further, octal ones are not taken
row-86 : dump_read (lines ("0000000 30 82 01 22 04 05 06 07 08 09 0a 0b 0c 0d 0e 0f" ∷ "0000010 30 82 01 22 04 05 06 07 08 09 0a 0b 0c 0d 0e 0f" ∷ "0000040 30 82" ∷ []))
    ≡ part (octets "30 82 01 22 04 05 06 07 08 09 0a 0b 0c 0d 0e 0f 30 82 01 22 04 05 06 07 08 09 0a 0b 0c 0d 0e 0f") 14
row-86 = refl

-- refused in the first row
-- a pair that is none, one without `0x`, and characters behind pairs with `0x`
row-87 : dump_read (lines ("0x404040:\t0x30\t0xg1" ∷ [])) ≡ refused_with 20
row-87 = refl

-- prefix lost
row-88 : dump_read (lines ("0x404040:\t0x30\t31" ∷ [])) ≡ refused_with 18
row-88 = refl

-- prefix others
row-89 : dump_read (lines ("0x404040:\t0x30\t0x31  01" ∷ [])) ≡ refused_with 24
row-89 = refl

-- its offset is neither 0 nor before a colon: a number
row-90 : dump_read (lines ("2024 30 03" ∷ [])) ≡ refused_with 11
row-90 = refl

-- words of 16 bits, swapped
row-91 : dump_read (lines ("0000000 0330 0102 0005" ∷ "0000005" ∷ [])) ≡ refused_with 31
row-91 = refl

-- single words
row-92 : dump_read (lines ("0000 0330 0102" ∷ [])) ≡ refused_with 15
row-92 = refl

-- octal words
row-93 : dump_read (lines ("0000000 001460 000402 000005" ∷ "0000005" ∷ [])) ≡ refused_with 37
row-93 = refl

-- bits
row-94 : dump_read (lines ("0000: 00110000 00000011" ∷ "0002: 00000010" ∷ [])) ≡ refused_with 39
row-94 = refl

-- a text without rows is refused at its end
row-95 : dump_read (lines ("30 03 02 01 05" ∷ [])) ≡ refused_with 0
row-95 = refl

-- nor are two rows in one line read as one among others
row-96 : dump_read (lines ("0000: 2e2f  ./0002: 3031  01" ∷ "0004: 3233  23" ∷ [])) ≡ refused_with 44
row-96 = refl

-- texts that do not end with a line feed
-- with an end row and carriage returns
row-97 : dump_read (codes "00000000  30 82 01 22 04 05 06 07  08 09 0a 0b 0c 0d 0e 0f  |0..\"............|\r\n00000010  30 31                                             |01|\r\n00000012\r\n")
    ≡ whole (octets "30 82 01 22 04 05 06 07 08 09 0a 0b 0c 0d 0e 0f 30 31")
row-97 = refl

-- characters that look like another offset
row-98 : dump_read (codes "0000: 3030 3136  0016") ≡ whole (octets "30 30 31 36")
row-98 = refl

-- two bars are not too much, and three are
row-99 : dump_read (codes "0000: 3031  |01|") ≡ whole (octets "30 31")
row-99 = refl

-- in order
row-100 : dump_read (codes "00000000: 30316265  01be") ≡ whole (octets "30 31 62 65")
row-100 = refl

-- a character counts once, though it has more octets: here four of two octets, as é is written
row-101 : dump_read (octets "30 30 30 30 3a 20 33 30 33 31 20 20 c3 a9 c3 a9 c3 a9 c3 a9") ≡ whole (octets "30 31")
row-101 = refl

-- without its line feeds, a dump is refused in its first line, and not read as one row
row-102 : dump_read (codes "00000000: 3082 0122 0405 0607 0809 0a0b 0c0d 0e0f  0..\"............00000010: 3031                                     01")
    ≡ refused_with 120
row-102 = refl

-- without characters, the row after the row begins behind its pairs
row-103 : dump_read (codes "\t0x0000:  3082 0122 0405 0607 0809 0a0b 0c0d 0e0f\t0x0010:  3031") ≡ refused_with 63
row-103 = refl

-- a colon shows that pairs are its offset
row-104 : dump_read (codes "0000: 3031 0002: 3233") ≡ refused_with 21
row-104 = refl

-- its offset may be octal
row-105 : dump_read (codes "0000000 30 82 01 22 04 05 06 07 08 09 0a 0b 0c 0d 0e 0f  0000020 30 31") ≡ refused_with 70
row-105 = refl

-- three bars
row-106 : dump_read (codes "0000: 3031  |01||") ≡ refused_with 17
row-106 = refl

-- words in reverse, as `xxd -e` writes them, and bits, as `xxd -b` does, are refused; the same words in order are not
row-107 : dump_read (codes "00000000: 65623130  01be") ≡ refused_with 24
row-107 = refl

-- written bits
row-108 : dump_read (codes "00000000: 00110000 00110001  01") ≡ refused_with 31
row-108 = refl

-- refused
row-109 : refused_in (codes "30 03\n") (dump_read (codes "30 03\n")).left ≡ Some 6
row-109 = refl
