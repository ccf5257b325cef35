-- Numbers of universal types that definitions name: X.680, table 1. All types are in `TypeTable`.
use Rattle.std.specs.Prelude.{ℕ}

abbrev pub boolean : ℕ
boolean = 1

abbrev pub integer : ℕ
integer = 2

abbrev pub bit_string : ℕ
bit_string = 3

abbrev pub octet_string : ℕ
octet_string = 4

abbrev pub object_identifier : ℕ
object_identifier = 6

abbrev pub object_descriptor : ℕ
object_descriptor = 7

abbrev pub external : ℕ
external = 8

abbrev pub real : ℕ
real = 9

abbrev pub enumerated : ℕ
enumerated = 10

abbrev pub embedded_pdv : ℕ
embedded_pdv = 11

abbrev pub utf8_string : ℕ
utf8_string = 12

abbrev pub relative_oid : ℕ
relative_oid = 13

abbrev pub sequence : ℕ
sequence = 16

abbrev pub set : ℕ
set = 17

abbrev pub numeric_string : ℕ
numeric_string = 18

abbrev pub printable_string : ℕ
printable_string = 19

abbrev pub ia5_string : ℕ
ia5_string = 22

abbrev pub utc_time : ℕ
utc_time = 23

abbrev pub generalized_time : ℕ
generalized_time = 24

abbrev pub visible_string : ℕ
visible_string = 26

abbrev pub universal_string : ℕ
universal_string = 28

abbrev pub character_string : ℕ
character_string = 29

abbrev pub bmp_string : ℕ
bmp_string = 30

abbrev pub date : ℕ
date = 31

abbrev pub time_of_day : ℕ
time_of_day = 32

abbrev pub oid_iri : ℕ
oid_iri = 35
