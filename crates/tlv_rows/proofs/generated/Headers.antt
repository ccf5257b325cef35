-- What headers say: the texts of tags, the strings that hold encodings, and the indefinite form.
-- `tests/make-rows` writes this file from tests/rows_of_definitions/headers.rows.
use Rattle.std.proofs.Common.{◌≡◌, false, true, codes, refl}
use Rattle.std.specs.Fmt.{digits}
use Rattle.tlv_head.specs.declared.header.Class.TheVariants.{Universal, Application, Context, Private}
use Rattle.tlv_head.specs.declared.header.Size.TheVariants.{Definite}
use Rattle.tlv_rows.proofs.Words.Octets.{octets}
use Rattle.tlv_head.specs.Header.{spell_indefinite, wraps}
use Rattle.tlv_head.specs.Tag.{tag_text}
use Rattle.tlv_rows.proofs.Words.Headers.{header, named}

row-1 : tag_text Universal 2 ≡ (codes "INTEGER")
unfolding digits
row-1 = refl

row-2 : tag_text Universal 15 ≡ (codes "[UNIVERSAL 15]")
unfolding digits
row-2 = refl

row-3 : tag_text Application 31 ≡ (codes "[APPLICATION 31]")
unfolding digits
row-3 = refl

row-4 : tag_text Context 0 ≡ (codes "[0]")
unfolding digits
row-4 = refl

row-5 : tag_text Private 7 ≡ (codes "[PRIVATE 7]")
unfolding digits
row-5 = refl

-- whether the element is a string that holds encodings
-- an OCTET STRING without contents is a wrapper too
row-6 : wraps (named (header 0 Universal false 4 (Definite 0) "04" "00")) ≡ true
unfolding digits
row-6 = refl

-- it is not named
row-7 : wraps (header 0 Universal false 4 (Definite 0) "04" "00") ≡ false
unfolding digits
row-7 = refl

-- a BIT STRING with its first contents octet
row-8 : wraps (named (header 0 Universal false 3 (Definite 1) "03" "01")) ≡ true
unfolding digits
row-8 = refl

-- and without it
row-9 : wraps (named (header 0 Universal false 3 (Definite 0) "03" "00")) ≡ false
unfolding digits
row-9 = refl

-- a constructed OCTET STRING holds encodings by itself
row-10 : wraps (named (header 0 Universal true 4 (Definite 0) "24" "00")) ≡ false
unfolding digits
row-10 = refl

-- [4] is of another class
row-11 : wraps (named (header 0 Context false 4 (Definite 5) "84" "05")) ≡ false
unfolding digits
row-11 = refl

-- with the indefinite form
row-12 : spell_indefinite (header 0 Context true 31 (Definite 256) "bf 1f" "82 01 00") ≡ (octets "bf 1f 80")
unfolding digits
row-12 = refl
