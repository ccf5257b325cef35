-- Codes and texts of the findings.
use Rattle.std.specs.Prelude.{ℕ, List, ◌∷◌, ◌++◌, codes}
use Rattle.tlv_value.specs.declared.finding.Finding.{Finding}
use Rattle.tlv_value.specs.declared.finding.Finding.TheVariants.{B01, B02, B03, B04, B05, B06, B07, B08, B09}
use Rattle.tlv_value.specs.declared.finding.Finding.TheVariants.{B10, B11, B12, B13, B14, B15, B16, B17, B18}
use Rattle.tlv_value.specs.declared.finding.Finding.TheVariants.{B19, B20, B21, B22, B23, B24, B25, B26, B27}
use Rattle.tlv_value.specs.declared.finding.Finding.TheVariants.{B28, B29, B30, S01, S02, S03, S04, S05, S06}
use Rattle.tlv_value.specs.declared.finding.Finding.TheVariants.{D01, D02, C01, C02, C03, C04, C05, C06}

-- the code of a finding, and its text
abbrev pub finding_code_and_text : Finding → List ℕ × List ℕ
finding_code_and_text B01 = (codes "B01", codes "high form for a number below 31")
finding_code_and_text B02 = (codes "B02", codes "tag number begins with zero bits")
finding_code_and_text B03 = (codes "B03", codes "unassigned universal number")
finding_code_and_text B04 = (codes "B04", codes "type must be primitive")
finding_code_and_text B05 = (codes "B05", codes "type must be constructed")
finding_code_and_text B06 = (codes "B06", codes "BOOLEAN is not one octet")
finding_code_and_text B07 = (codes "B07", codes "no contents of an integer")
finding_code_and_text B08 = (codes "B08", codes "integer is padded")
finding_code_and_text B09 = (codes "B09", codes "NULL has contents")
finding_code_and_text B10 = (codes "B10", codes "no contents of an object identifier")
finding_code_and_text B11 = (codes "B11", codes "subidentifier is padded")
finding_code_and_text B12 = (codes "B12", codes "last subidentifier is unfinished")
finding_code_and_text B13 = (codes "B13", codes "no first octet of a bit string")
finding_code_and_text B14 = (codes "B14", codes "more than 7 unused bits")
finding_code_and_text B15 = (codes "B15", codes "unused bits of no octet")
finding_code_and_text B16 = (codes "B16", codes "segment follows unused bits")
finding_code_and_text B17 = (codes "B17", codes "segment has another tag")
finding_code_and_text B18 = (codes "B18", codes "characters not of the type")
finding_code_and_text B19 = (codes "B19", codes "time not of its grammar")
finding_code_and_text B20 = (codes "B20", codes "REAL of no form")
finding_code_and_text B21 = (codes "B21", codes "no such date or time")
finding_code_and_text B22 = (codes "B22", codes "time or IRI must be primitive")
finding_code_and_text B23 = (codes "B23", codes "IRI not of its grammar")
finding_code_and_text B24 = (codes "B24", codes "no contents of a relative identifier")
finding_code_and_text B25 = (codes "B25", codes "surrogate, or number above 10ffff")
finding_code_and_text B26 = (codes "B26", codes "month has no such day")
finding_code_and_text B27 = (codes "B27", codes "components are missing")
finding_code_and_text B28 = (codes "B28", codes "segments have characters not of the type")
finding_code_and_text B29 = (codes "B29", codes "REAL zero with contents")
finding_code_and_text B30 = (codes "B30", codes "element is no component of it")
finding_code_and_text S01 = (codes "S01", codes "length is not the shortest")
finding_code_and_text S02 = (codes "S02", codes "TRUE is not ff")
finding_code_and_text S03 = (codes "S03", codes "unused bits are set")
finding_code_and_text S04 = (codes "S04", codes "time is not canonical")
finding_code_and_text S05 = (codes "S05", codes "element of a SET is out of order")
finding_code_and_text S06 = (codes "S06", codes "REAL is not canonical")
finding_code_and_text D01 = (codes "D01", codes "indefinite length")
finding_code_and_text D02 = (codes "D02", codes "constructed string")
finding_code_and_text C01 = (codes "C01", codes "definite length of a constructed element")
finding_code_and_text C02 = (codes "C02", codes "primitive string above 1000 octets")
finding_code_and_text C03 = (codes "C03", codes "segment is constructed")
finding_code_and_text C04 = (codes "C04", codes "segment follows one not of 1000 octets")
finding_code_and_text C05 = (codes "C05", codes "constructed string fits in 1000 octets")
finding_code_and_text C06 = (codes "C06", codes "last segment is empty")

abbrev pub finding_code : Finding → List ℕ
finding_code finding = (finding_code_and_text finding).0

abbrev pub finding_text : Finding → List ℕ
finding_text finding = (finding_code_and_text finding).1

-- the code, a space and the text
abbrev pub finding_wording : Finding → List ℕ
finding_wording finding = finding_code finding ++ 0x20 ∷ finding_text finding
