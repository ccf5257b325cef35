-- Codes and texts of the faults.
use Rattle.std.specs.Prelude.{ℕ, List, codes}
use Rattle.tlv_head.specs.declared.fault.FaultCode.{FaultCode}
use Rattle.tlv_head.specs.declared.fault.FaultCode.TheVariants.{Empty, Short, StrayEnd, BadEnd, MissingEnd, TagTooLong}
use Rattle.tlv_head.specs.declared.fault.FaultCode.TheVariants.{ReservedLength, IndefinitePrimitive, LengthTooLarge}
use Rattle.tlv_head.specs.declared.fault.FaultCode.TheVariants.{TooDeep, Overrun, BadInside}

-- code and text
abbrev pub fault_code_and_text : FaultCode → List ℕ × List ℕ
fault_code_and_text Empty = (codes "F01", codes "empty input")
fault_code_and_text Short = (codes "F02", codes "input ends inside an encoding")
fault_code_and_text StrayEnd = (codes "F03", codes "end-of-contents outside an indefinite element")
fault_code_and_text BadEnd = (codes "F04", codes "octet 00 not followed by 00")
fault_code_and_text MissingEnd = (codes "F05", codes "no end-of-contents inside the enclosing length")
fault_code_and_text TagTooLong = (codes "F06", codes "more than nine octets of tag number")
fault_code_and_text ReservedLength = (codes "F07", codes "length octet ff is reserved")
fault_code_and_text IndefinitePrimitive = (codes "F08", codes "indefinite length of a primitive")
fault_code_and_text LengthTooLarge = (codes "F09", codes "length of 2^40 or more")
fault_code_and_text TooDeep = (codes "F10", codes "more than 128 open elements")
fault_code_and_text Overrun = (codes "F11", codes "element runs past the enclosing length")
fault_code_and_text BadInside = (codes "F12", codes "first octet of a wrapped BIT STRING is not 00")

-- the three characters of the code
abbrev pub fault_code : FaultCode → List ℕ
fault_code fault = (fault_code_and_text fault).0

abbrev pub fault_text : FaultCode → List ℕ
fault_text fault = (fault_code_and_text fault).1
