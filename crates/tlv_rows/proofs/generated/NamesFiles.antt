-- Names files, and what they say.
-- `tests/make-rows` writes this file from tests/rows_of_definitions/names_files.rows.
use Rattle.std.proofs.Common.{◌≡◌, false, true, [], ◌∷◌, ◌++◌, codes, refl}
use Rattle.std.specs.Prelude.{Err, Ok, replicate}
use Rattle.tlv_rows.proofs.Words.Octets.{octets}
use Rattle.std.specs.FinMap as finite
use Rattle.tlv_value.specs.Names.{entry, is_dotted, file_lines, long_line, names_line, names_of, no_entry, no_name}
use Rattle.tlv_value.specs.Names.{no_object_identifier}
use Rattle.tlv_value.specs.declared.names.fault.NamesFault.TheVariants.{BadOid, BadName, Repeated, TooLarge}

-- the lines of a file: after a last LF there is none
row-1 : file_lines (octets "61 0a 0a") ≡ (octets "61") ∷ [] ∷ []
row-1 = refl

-- last line without end
row-2 : file_lines (octets "61 0a 62") ≡ (octets "61") ∷ (octets "62") ∷ []
row-2 = refl

-- what a line says
-- common name
row-3 : names_line (octets "20 32 2e 35 2e 34 2e 33 09 20 20 63 6f 6d 6d 6f 6e 20 6e 61 6d 65 20 0d")
    ≡ entry (codes "2.5.4.3") (codes "common name")
row-3 = refl

-- comment
row-4 : names_line (octets "20 20 23 20 32 2e 35 2e 34 2e 33 20 63 6f 6d 6d 6f 6e 4e 61 6d 65") ≡ no_entry
row-4 = refl

-- blank
row-5 : names_line (octets "20 09 0d") ≡ no_entry
row-5 = refl

-- one CR alone is dropped
row-6 : names_line (octets "32 2e 35 2e 34 2e 33 20 63 6e 0d 0d") ≡ no_name
row-6 = refl

-- no name at all
row-7 : names_line (octets "32 2e 35 2e 34 2e 33 20") ≡ no_name
row-7 = refl

-- second arc past 39
row-8 : names_line (octets "31 2e 34 30 20 78") ≡ no_object_identifier
row-8 = refl

-- first arc past 2
row-9 : names_line (octets "33 2e 31 20 78") ≡ no_object_identifier
row-9 = refl

-- 20 is from 20 to 7e, 7f and e9 are not
row-10 : names_line (octets "32 2e 35 20 7e 20 7f") ≡ no_name
row-10 = refl

-- line of 400
row-11 : names_line (octets "23" ++ replicate 399 0x78) ≡ no_entry
row-11 = refl

-- line of 401
row-12 : names_line (octets "23" ++ replicate 400 0x78) ≡ long_line
row-12 = refl

-- whether a text is an object identifier
-- second arc of 39
row-13 : is_dotted (octets "31 2e 33 39") ≡ true
row-13 = refl

-- second arc under 2
row-14 : is_dotted (octets "32 2e 39 39 39") ≡ true
row-14 = refl

-- one arc
row-15 : is_dotted (octets "32") ≡ false
row-15 = refl

-- zero is an arc
row-16 : is_dotted (octets "30 2e 30") ≡ true
row-16 = refl

-- leading zero
row-17 : is_dotted (octets "32 2e 30 35") ≡ false
row-17 = refl

-- empty arc
row-18 : is_dotted (octets "32 2e 2e 35") ≡ false
row-18 = refl

-- dot at the end
row-19 : is_dotted (octets "32 2e 35 2e") ≡ false
row-19 = refl

-- what a file says
-- no lines
row-20 : names_of [] ≡ Ok (finite.from_entries [])
row-20 = refl

-- table of one
row-21 : names_of (octets "32 2e 35 2e 34 2e 33 20 63 6f 6d 6d 6f 6e 4e 61 6d 65 0d 0a")
    ≡ Ok (finite.from_entries (((codes "2.5.4.3"), (codes "commonName")) ∷ []))
row-21 = refl

-- repeated
row-22 : names_of (octets "23 20 78 0a 32 2e 35 2e 34 2e 33 20 63 6f 6d 6d 6f 6e 4e 61 6d 65 0a 32 2e 35 2e 34 2e 33 20 63" ++
    octets "6e 0a")
    ≡ Err (Repeated 3)
row-22 = refl

-- the first refusal counts
row-23 : names_of (octets "32 2e 35 2e 34 2e 33 0a 31 2e 34 30 20 78 0a") ≡ Err (BadName 1)
row-23 = refl

-- second line
row-24 : names_of (octets "0a 31 2e 34 30 20 78") ≡ Err (BadOid 2)
row-24 = refl

-- long comment
row-25 : names_of (octets "32 2e 35 20 78 0a 23" ++ replicate 400 0x78) ≡ Err TooLarge
row-25 = refl
