-- Texts, their blocks, and what is read from base64.
-- `tests/make-rows` writes this file from tests/rows_of_definitions/texts.rows.
use Rattle.std.proofs.Common.{◌≡◌, true, [], None, Some, codes, refl}
use Rattle.tlv_rows.proofs.Words.Octets.{octets}
use Rattle.tlv_text.specs.Blocks.{absent_block, alphabet_of, dump_block, hex_block}
use Rattle.tlv_text.specs.Blocks.{line_at, numbers_block, only_block, state_with_end}
use Rattle.tlv_text.specs.declared.base64_text.Alphabet.TheVariants.{Standard, UrlSafe}
use Rattle.tlv_text.specs.declared.block.BlockState.TheVariants.{BeginsAt, Ended, MayBePairs, Refused, Unended, Whole}
use Rattle.tlv_text.specs.PemBody.{headers_of, is_encrypted}
use Rattle.tlv_rows.proofs.Words.Texts.{BodyHolds}
use Rattle.base64.proofs.OnLiterals.{base64_on_literals}
use Rattle.base64.specs.declared.decode.DecodeError.TheVariants.{InvalidLastSymbol, InvalidLength}
use Rattle.tlv_text.specs.Base64.{ReadsBase64}
use Rattle.tlv_rows.proofs.Words.Base64.{all_base64, undecoded, unpadded}
use Rattle.tlv_text.specs.Runs.{HasNoRun, IsFirstRun}
use Rattle.tlv_rows.proofs.Words.RunsOfBase64.{all_short, no_run_there, run_there}

-- Texts in each form, and their blocks.
-- the number of the line at a place
-- first line
row-1 : line_at (codes "a\nb") 1 ≡ 1
row-1 = refl

-- second line
row-2 : line_at (codes "a\nb") 2 ≡ 2
row-2 = refl

-- carriage return
row-3 : line_at (codes "a\r\n\r\nb") 5 ≡ 3
row-3 = refl

-- end
row-4 : line_at (codes "a\n") 2 ≡ 2
row-4 = refl

-- forms of one block
-- pairs
row-5 : hex_block (codes "30 03\n") ≡ only_block (octets "30 03") Whole
row-5 = refl

-- pairs refused
row-6 : hex_block (codes "30\n\n03 zz") ≡ only_block (octets "30 03") (Refused 3)
row-6 = refl

-- tokens
row-7 : hex_block (codes "char t[] = {0x30, 0x03};") ≡ only_block (octets "30 03") Whole
row-7 = refl

-- tokens refused
row-8 : hex_block (codes "0x30,\nand 0x03") ≡ only_block (octets "30") (Refused 2)
row-8 = refl

-- one token is read as pairs
row-9 : hex_block (codes "0x30") ≡ only_block [] (Refused 1)
row-9 = refl

-- dump
row-10 : dump_block (codes "0000  30 03 02\n") ≡ only_block (octets "30 03 02") Whole
row-10 = refl

-- dump refused
row-11 : dump_block (codes "00000000: 3003\n00000002: 0201\n00000005: 05\n")
    ≡ only_block (octets "30 03 02 01") (Refused 3)
row-11 = refl

-- no dump
row-12 : dump_block (codes "no dump\n") ≡ only_block [] (Refused 2)
row-12 = refl

-- dump before a line
row-13 : dump_block (codes "0000: 3003\n0002: 02\nend\n") ≡ only_block (octets "30 03 02") (Ended 3)
row-13 = refl

-- wrong end
row-14 : dump_block (codes "0000: 3003\n0003\n") ≡ only_block (octets "30 03") (Refused 2)
row-14 = refl

-- the end of the dump comes before the line, and what comes after it has no row
row-15 : dump_block (codes "0000 30 03\n0002\n\n$ wc a\n1234 5\n\n") ≡ only_block (octets "30 03") (Ended 4)
row-15 = refl

-- a row or a repeat comes after the line, as in a dump with a damaged line
row-16 : dump_block (codes "0000: 3003\nend\n0002: 02\n") ≡ only_block (octets "30 03") (Refused 2)
row-16 = refl

-- repeat after the line
row-17 : dump_block (codes "0000: 3003\nend\n*\n") ≡ only_block (octets "30 03") (Refused 2)
row-17 = refl

-- how often the repeat stands is not known without a row behind it
row-18 : dump_block (codes "0000: 3003\n0002: 0201\n*\n\nend\n") ≡ only_block (octets "30 03 02 01") (Refused 5)
row-18 = refl

-- repeat with an end
row-19 : dump_block (codes "0000: 3003\n0002: 0201\n*\n0006\nend\n")
    ≡ only_block (octets "30 03 02 01 02 01") (Ended 5)
row-19 = refl

-- a row without pairs is damaged
row-20 : dump_block (codes "0000: 3003\n0002: zz\n") ≡ only_block (octets "30 03") (Refused 2)
row-20 = refl

-- no octets
row-21 : dump_block (codes "0000: zz\nend\n") ≡ only_block [] (Refused 3)
row-21 = refl

-- dumps that begin at another offset than 0, hexadecimal and octal
row-22 : dump_block (codes "0100: 3003\n0102: 02\n") ≡ only_block (octets "30 03 02") (BeginsAt 256)
row-22 = refl

-- octal
row-23 : dump_block (codes "0000400 30 03\n0000402\n") ≡ only_block (octets "30 03") (BeginsAt 256)
row-23 = refl

-- begins and ends
row-24 : dump_block (codes "0100: 3003\nend\n") ≡ only_block (octets "30 03") (Ended 2)
row-24 = refl

-- numbers
row-25 : numbers_block (codes "[48, -1]") ≡ only_block (octets "30 ff") Whole
row-25 = refl

-- pairs of numbers
row-26 : numbers_block (codes "[30, 03]") ≡ only_block (octets "1e 03") MayBePairs
row-26 = refl

-- broken list
row-27 : numbers_block (codes "[48,\n3,\n300]") ≡ only_block (octets "30 03") (Refused 3)
row-27 = refl

-- no numbers
row-28 : numbers_block (codes "[1]") ≡ absent_block
row-28 = refl

-- plus
row-29 : alphabet_of (codes "MA+/") ≡ Standard
row-29 = refl

-- hyphen
row-30 : alphabet_of (codes "MA+-") ≡ UrlSafe
row-30 = refl

-- low line
row-31 : alphabet_of (codes "MA_A") ≡ UrlSafe
row-31 = refl

-- the state of a block of PEM
-- unended
row-32 : state_with_end (codes "") Whole ≡ Unended
row-32 = refl

-- ended
row-33 : state_with_end (codes "-----END A-----") Whole ≡ Whole
row-33 = refl

-- refused first
row-34 : state_with_end (codes "") (Refused 2) ≡ (Refused 2)
row-34 = refl

-- Bodies of blocks of PEM, and what they hold.
-- the base64 of a body that is not encrypted
-- no headers
row-35 : BodyHolds (codes "\nMAA=\n") (codes "\nMAA=\n")
row-35 = record { open_to_all = refl; held = refl }

-- empty
row-36 : BodyHolds (codes "") (codes "")
row-36 = record { open_to_all = refl; held = refl }

-- the word counts only in headers
row-37 : BodyHolds (codes "\nENCRYPTED\n") (codes "\nENCRYPTED\n")
row-37 = record { open_to_all = refl; held = refl }

-- word after headers
row-38 : BodyHolds (codes "\nVersion: x\n\nENCRYPTED\n") (codes "ENCRYPTED\n")
row-38 = record { open_to_all = refl; held = refl }

-- headers, in lines that end in each of four ways
row-39 : BodyHolds (codes "\nVersion: x\n\nMAA=\n") (codes "MAA=\n")
row-39 = record { open_to_all = refl; held = refl }

-- escaped
row-40 : BodyHolds (codes "\\nVersion: x\\n\\nMAA=\\n") (codes "MAA=\\n")
row-40 = record { open_to_all = refl; held = refl }

-- returns
row-41 : BodyHolds (codes "\r\nVersion: x\r\n\r\nMAA=\r\n") (codes "MAA=\r\n")
row-41 = record { open_to_all = refl; held = refl }

-- escaped returns
row-42 : BodyHolds (codes "\\r\\nVersion: x\\r\\n\\r\\nMAA=\\r\\n") (codes "MAA=\\r\\n")
row-42 = record { open_to_all = refl; held = refl }

-- quoted mail, and a macro of C
row-43 : BodyHolds (codes "\n> Version: x\n> \n> MAA=\n> ") (codes "> MAA=\n> ")
row-43 = record { open_to_all = refl; held = refl }

-- a colon without a blank line, and nothing after it
row-44 : BodyHolds (codes "\nVersion: x\nMAA=\n") (codes "\nVersion: x\nMAA=\n")
row-44 = record { open_to_all = refl; held = refl }

-- nothing after
row-45 : BodyHolds (codes "\nVersion: x\n\n") (codes "\nVersion: x\n\n")
row-45 = record { open_to_all = refl; held = refl }

-- no line
row-46 : BodyHolds (codes "Version: x") (codes "Version: x")
row-46 = record { open_to_all = refl; held = refl }

-- a line with a backslash and another letter is not blank
row-47 : BodyHolds (codes "\nVersion: x\n\\t\n\nMAA=\n") (codes "MAA=\n")
row-47 = record { open_to_all = refl; held = refl }

-- encrypted
row-48 : is_encrypted (codes "\nProc-Type: 4,ENCRYPTED\nDEK-Info: AES-256-CBC,00\n\nMAA=\n") ≡ true
row-48 = refl

-- encrypted escaped
row-49 : is_encrypted (codes "\\nProc-Type: 4,ENCRYPTED\\nDEK-Info: AES-256-CBC,00\\n\\nMAA=\\n") ≡ true
row-49 = refl

-- macro
row-50 : is_encrypted (codes "\\r\\n\" \\\n \"Proc-Type: 4,ENCRYPTED\\r\\n\" \\\n \"\\r\\n\" \\\n \"MAA=\"") ≡ true
row-50 = refl

-- the marker's own line is no header, even if it is blank
row-51 : headers_of (codes " \nVersion: x\n\nMAA=\n") ≡ (codes "Version: x\n\n")
row-51 = refl

-- Texts in base64, and what is read from them: octets, and the place of what is refused.
-- all of it is base64
-- padded
row-52 : ReadsBase64 Standard (codes "MAA=\n") (octets "30 00") None
unfolding base64_on_literals
row-52 = all_base64 _ _ _ refl refl refl

-- unpadded
row-53 : ReadsBase64 Standard (codes "MAA") (octets "30 00") None
unfolding base64_on_literals
row-53 = all_base64 _ _ _ refl refl refl

-- empty
row-54 : ReadsBase64 Standard (codes "") [] None
unfolding base64_on_literals
row-54 = all_base64 _ _ _ refl refl refl

-- a quoted text in lines, and one of JSON
row-55 : ReadsBase64 Standard (codes "> \"MA\r\n> MC AQU=\"\n") (octets "30 03 02 01 05") None
unfolding base64_on_literals
row-55 = all_base64 _ _ _ refl refl refl

-- escaped
row-56 : ReadsBase64 Standard (codes "MA\\nMCAQ\\r\\nU=\\n") (octets "30 03 02 01 05") None
unfolding base64_on_literals
row-56 = all_base64 _ _ _ refl refl refl

-- slashes as PHP writes them into JSON; with the other alphabet a slash is no symbol, and it is refused there
row-57 : ReadsBase64 Standard (codes "+\\/+\\/") (octets "fb ff bf") None
unfolding base64_on_literals
row-57 = all_base64 _ _ _ refl refl refl

-- the last two symbols of each alphabet
row-58 : ReadsBase64 Standard (codes "+/8=") (octets "fb ff") None
unfolding base64_on_literals
row-58 = all_base64 _ _ _ refl refl refl

-- url safe
row-59 : ReadsBase64 UrlSafe (codes "-_8") (octets "fb ff") None
unfolding base64_on_literals
row-59 = all_base64 _ _ _ refl refl refl

-- what comes after the last symbol is not its padding
-- escaped slash in url safe
row-60 : ReadsBase64 UrlSafe (codes "-_\\/_") [] (Some 3)
unfolding base64_on_literals
row-60 = unpadded _ _ _ refl refl refl

-- two backslashes
row-61 : ReadsBase64 Standard (codes "+\\\\/8") [] (Some 1)
unfolding base64_on_literals
row-61 = unpadded _ _ _ refl refl refl

-- url safe in standard
row-62 : ReadsBase64 Standard (codes "-_8") [] (Some 0)
unfolding base64_on_literals
row-62 = unpadded _ _ _ refl refl refl

-- standard in url safe
row-63 : ReadsBase64 UrlSafe (codes "+/8=") [] (Some 0)
unfolding base64_on_literals
row-63 = unpadded _ _ _ refl refl refl

-- padding that does not fit
row-64 : ReadsBase64 Standard (codes "MAA==") [] (Some 3)
unfolding base64_on_literals
row-64 = unpadded _ _ _ refl refl refl

-- padding too short
row-65 : ReadsBase64 Standard (codes "MA=") [] (Some 2)
unfolding base64_on_literals
row-65 = unpadded _ _ _ refl refl refl

-- padding of whole
row-66 : ReadsBase64 Standard (codes "MAMC=") (octets "30 03 02") (Some 4)
unfolding base64_on_literals
row-66 = unpadded _ _ _ refl refl refl

-- padding between
row-67 : ReadsBase64 Standard (codes "MA==MA==") [] (Some 2)
unfolding base64_on_literals
row-67 = unpadded _ _ _ refl refl refl

-- what is no symbol and not left out
row-68 : ReadsBase64 Standard (codes "MAMCAQ\\xU=") (octets "30 03 02") (Some 6)
unfolding base64_on_literals
row-68 = unpadded _ _ _ refl refl refl

-- hexadecimal
row-69 : ReadsBase64 Standard (codes "30:03") [] (Some 2)
unfolding base64_on_literals
row-69 = unpadded _ _ _ refl refl refl

-- no octets are these symbols; the last column is what the decoder of the kit says of them
-- one symbol over, and bits that are not zero
row-70 : ReadsBase64 Standard (codes "A ") [] (Some 2)
unfolding base64_on_literals
row-70 = undecoded _ _ _ (InvalidLength 1) refl refl refl

-- one over
row-71 : ReadsBase64 Standard (codes "MAMCA") (octets "30 03 02") (Some 5)
unfolding base64_on_literals
row-71 = undecoded _ _ _ (InvalidLength 5) refl refl refl

-- bits
row-72 : ReadsBase64 Standard (codes "MB==") [] (Some 2)
unfolding base64_on_literals
row-72 = undecoded _ _ _ (InvalidLastSymbol 1 66 1) refl refl refl

-- bits after groups
row-73 : ReadsBase64 Standard (codes "MAMCAQV=") (octets "30 03 02") (Some 7)
unfolding base64_on_literals
row-73 = undecoded _ _ _ (InvalidLastSymbol 6 86 21) refl refl refl

-- Texts with runs of base64 in them, and texts without.
-- the place of the first run, the run, and what follows it
-- 40 symbols, and 39
row-74 : IsFirstRun (codes "0123456789012345678901234567890123456789") 0 (codes "0123456789012345678901234567890123456789") (codes "")
unfolding all_short
row-74 = run_there _ _ _ _ refl refl refl refl

-- an element of SAML: one run over two lines
row-75 : IsFirstRun (codes "<ds:X509Certificate>MIICAzCCAWygAwIBAgIBAAAAAAAAAAAAAAAAAAAA\r\nATANBgkqhkiG9w0BAQEBAQ==</ds:X509Certificate>") 20 (codes "MIICAzCCAWygAwIBAgIBAAAAAAAAAAAAAAAAAAAA\r\nATANBgkqhkiG9w0BAQEBAQ==") (codes "</ds:X509Certificate>")
unfolding all_short
row-75 = run_there _ _ _ _ refl refl refl refl

-- LDIF, where a line is continued by a line feed and a space
row-76 : IsFirstRun (codes "userCertificate;binary:: MIICAzCCAWygAwIBAgIBATANBgkqhkiG9w0BAQEB\n AwIBAgIBATANBg\n kqhkiG9w0BAQEBAQE=\ncn: x\n") 25 (codes "MIICAzCCAWygAwIBAgIBATANBgkqhkiG9w0BAQEB\n AwIBAgIBATANBg\n kqhkiG9w0BAQEBAQE=") (codes "\ncn: x\n")
unfolding all_short
row-76 = run_there _ _ _ _ refl refl refl refl

-- in JSON only a third of padding is left
row-77 : IsFirstRun (codes "{\"x5c\":[\"MIICAzCCAWygAwIBAgIBATANBgkqhkiG9w0BAQEBAQ===\"]}") 9 (codes "MIICAzCCAWygAwIBAgIBATANBgkqhkiG9w0BAQEBAQ==") (codes "=\"]}")
unfolding all_short
row-77 = run_there _ _ _ _ refl refl refl refl

-- without padding, the first word of the next line is not joined: LDIF, and YAML, where more blanks come before it
row-78 : IsFirstRun (codes "cert:: MIICAzCCAWygAwIBAgIBAAAAAAAAAAAAAAAAAAAA\n ATANBgkqhkiG9w0BAQEB\ncn: foo\n") 7 (codes "MIICAzCCAWygAwIBAgIBAAAAAAAAAAAAAAAAAAAA\n ATANBgkqhkiG9w0BAQEB") (codes "\ncn: foo\n")
unfolding all_short
row-78 = run_there _ _ _ _ refl refl refl refl

-- next key
row-79 : IsFirstRun (codes "  tls.crt: MIICAzCCAWygAwIBAgIBATANBgkqhkiG9w0BAQEB\r\n  tls.key: MC4C\r\n") 11 (codes "MIICAzCCAWygAwIBAgIBATANBgkqhkiG9w0BAQEB") (codes "\r\n  tls.key: MC4C\r\n")
unfolding all_short
row-79 = run_there _ _ _ _ refl refl refl refl

-- a last line that ends with a quote, with the text, or with an element
row-80 : IsFirstRun (codes "cert: \"MIICAzCCAWygAwIBAgIBAAAAAAAAAAAAAAAAAAAA\n  ATANBgkqhkiG9w0BAQEB\"\n") 7 (codes "MIICAzCCAWygAwIBAgIBAAAAAAAAAAAAAAAAAAAA\n  ATANBgkqhkiG9w0BAQEB") (codes "\"\n")
unfolding all_short
row-80 = run_there _ _ _ _ refl refl refl refl

-- end after
row-81 : IsFirstRun (codes "cert: MIICAzCCAWygAwIBAgIBAAAAAAAAAAAAAAAAAAAA\n  ATANBgkqhkiG9w0BAQEB") 6 (codes "MIICAzCCAWygAwIBAgIBAAAAAAAAAAAAAAAAAAAA\n  ATANBgkqhkiG9w0BAQEB") (codes "")
unfolding all_short
row-81 = run_there _ _ _ _ refl refl refl refl

-- element after
row-82 : IsFirstRun (codes "<c>MIICAzCCAWygAwIBAgIBAAAAAAAAAAAAAAAAAAAA\nATANBgkqhkiG9w0BAQEB</c>") 3 (codes "MIICAzCCAWygAwIBAgIBAAAAAAAAAAAAAAAAAAAA\nATANBgkqhkiG9w0BAQEB") (codes "</c>")
unfolding all_short
row-82 = run_there _ _ _ _ refl refl refl refl

-- in Markdown and in brackets, and in XML that is itself in XML
row-83 : IsFirstRun (codes "is `MIICAzCCAWygAwIBAgIBAAAAAAAAAAAAAAAAAAAA\nATANBgkqhkiG9w0BAQEB` here") 4 (codes "MIICAzCCAWygAwIBAgIBAAAAAAAAAAAAAAAAAAAA\nATANBgkqhkiG9w0BAQEB") (codes "` here")
unfolding all_short
row-83 = run_there _ _ _ _ refl refl refl refl

-- bracket after
row-84 : IsFirstRun (codes "(MIICAzCCAWygAwIBAgIBAAAAAAAAAAAAAAAAAAAA\n ATANBgkqhkiG9w0BAQEB)") 1 (codes "MIICAzCCAWygAwIBAgIBAAAAAAAAAAAAAAAAAAAA\n ATANBgkqhkiG9w0BAQEB") (codes ")")
unfolding all_short
row-84 = run_there _ _ _ _ refl refl refl refl

-- reference after
row-85 : IsFirstRun (codes "&lt;c&gt;MIICAzCCAWygAwIBAgIBAAAAAAAAAAAAAAAAAAAA\nATANBgkqhkiG9w0BAQEB&lt;/c&gt;") 9 (codes "MIICAzCCAWygAwIBAgIBAAAAAAAAAAAAAAAAAAAA\nATANBgkqhkiG9w0BAQEB") (codes "&lt;/c&gt;")
unfolding all_short
row-85 = run_there _ _ _ _ refl refl refl refl

-- a run, and in the next line the name of another, which does not belong to it; and a run whose last line is padded
row-86 : IsFirstRun (codes "CERT=MIICAzCCAWygAwIBAgIBATANBgkqhkiG9w0BAQEB\nKEY=MIIE") 5 (codes "MIICAzCCAWygAwIBAgIBATANBgkqhkiG9w0BAQEB") (codes "\nKEY=MIIE")
unfolding all_short
row-86 = run_there _ _ _ _ refl refl refl refl

-- padding after
row-87 : IsFirstRun (codes "CERT=MIICAzCCAWygAwIBAgIBAAAAAAAAAAAAAAAAAAAAM\nATANBgkqhkiG9w0BAQE=\nKEY=") 5 (codes "MIICAzCCAWygAwIBAgIBAAAAAAAAAAAAAAAAAAAAM\nATANBgkqhkiG9w0BAQE=") (codes "\nKEY=")
unfolding all_short
row-87 = run_there _ _ _ _ refl refl refl refl

-- lines of XML that end with `&#13;`, as Java writes a carriage return, or with `&#xD;`: one run, which base64 refuses at
-- the first `&`
row-88 : IsFirstRun (codes "<c>MIICAzCCAWygAwIBAgIBAAAAAAAAAAAAAAAAAAAA&#13;\nATANBgkqhkiG9w0BAQEB&#13;\n</c>") 3 (codes "MIICAzCCAWygAwIBAgIBAAAAAAAAAAAAAAAAAAAA&#13;\nATANBgkqhkiG9w0BAQEB") (codes "&#13;\n</c>")
unfolding all_short
row-88 = run_there _ _ _ _ refl refl refl refl

-- reference in hexadecimal
row-89 : IsFirstRun (codes "<c>MIICAzCCAWygAwIBAgIBAAAAAAAAAAAAAAAAAAAA&#xD;\n  ATANBgkqhkiG9w0BAQEB&#xD;\n</c>") 3 (codes "MIICAzCCAWygAwIBAgIBAAAAAAAAAAAAAAAAAAAA&#xD;\n  ATANBgkqhkiG9w0BAQEB") (codes "&#xD;\n</c>")
unfolding all_short
row-89 = run_there _ _ _ _ refl refl refl refl

-- line ends as JSON has them
row-90 : IsFirstRun (codes "{\"c\":\"MIICAzCCAWygAwIBAgIBAAAAAAAAAAAAAAAAAAAA\\nATANBgkqhkiG9w0BAQEB\\n\"}") 6 (codes "MIICAzCCAWygAwIBAgIBAAAAAAAAAAAAAAAAAAAA\\nATANBgkqhkiG9w0BAQEB") (codes "\\n\"}")
unfolding all_short
row-90 = run_there _ _ _ _ refl refl refl refl

-- escaped return
row-91 : IsFirstRun (codes "\"MIICAzCCAWygAwIBAgIBAAAAAAAAAAAAAAAAAAAA\\r\\nATANBgkqhkiG9w0BAQEB\"") 1 (codes "MIICAzCCAWygAwIBAgIBAAAAAAAAAAAAAAAAAAAA\\r\\nATANBgkqhkiG9w0BAQEB") (codes "\"")
unfolding all_short
row-91 = run_there _ _ _ _ refl refl refl refl

-- a word in the line before does not belong to a run
row-92 : IsFirstRun (codes "cat <<EOF\nMIICAzCCAWygAwIBAgIBATANBgkqhkiG9w0BAQEB\n") 10 (codes "MIICAzCCAWygAwIBAgIBATANBgkqhkiG9w0BAQEB") (codes "\n")
unfolding all_short
row-92 = run_there _ _ _ _ refl refl refl refl

-- blanks at the ends of lines, as in a copy from a terminal
row-93 : IsFirstRun (codes "c: MIICAzCCAWygAwIBAgIBAAAAAAAAAAAAAAAAAAAA \n ATANBgkqhkiG9w0BAQEB  \nd: x") 3 (codes "MIICAzCCAWygAwIBAgIBAAAAAAAAAAAAAAAAAAAA \n ATANBgkqhkiG9w0BAQEB") (codes "  \nd: x")
unfolding all_short
row-93 = run_there _ _ _ _ refl refl refl refl

-- blank before return
row-94 : IsFirstRun (codes "c: MIICAzCCAWygAwIBAgIBAAAAAAAAAAAAAAAAAAAA  \r\nATANBgkqhkiG9w0BAQEB \t") 3 (codes "MIICAzCCAWygAwIBAgIBAAAAAAAAAAAAAAAAAAAA  \r\nATANBgkqhkiG9w0BAQEB") (codes " \t")
unfolding all_short
row-94 = run_there _ _ _ _ refl refl refl refl

-- thirty nine
row-95 : HasNoRun (codes "012345678901234567890123456789012345678=")
unfolding all_short
row-95 = no_run_there _ refl

-- empty
row-96 : HasNoRun (codes "")
unfolding all_short
row-96 = no_run_there _ refl

-- the two digits are not symbols of the run: these are 39
row-97 : HasNoRun (codes "<c>MIICAzCCAWygAwIBAgIB&#13;\nATANBgkqhkiG9w0BAQE&#13;\n</c>")
unfolding all_short
row-97 = no_run_there _ refl

-- an empty line ends a run, and so do blanks without a line end
row-98 : HasNoRun (codes "MIICAzCCAWygAwIBAgIB\n\nATANBgkqhkiG9w0BAQEB")
unfolding all_short
row-98 = no_run_there _ refl

-- blank between
row-99 : HasNoRun (codes "MIICAzCCAWygAwIBAgIB  ATANBgkqhkiG9w0BAQEB")
unfolding all_short
row-99 = no_run_there _ refl

-- blank after word
row-100 : HasNoRun (codes "MIICAzCCAWygAwIBAgIBATANBgkqhkiG9w0BAQE\nB C")
unfolding all_short
row-100 = no_run_there _ refl

-- prose
row-101 : HasNoRun (codes "A certificate binds a name to a key, and an authority signs it.\n")
unfolding all_short
row-101 = no_run_there _ refl
